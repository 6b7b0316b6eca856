use Rattle.std.proofs.Common.{◌≡◌, ◌∙◌, sym, ap}
use Rattle.std.specs.Prelude.{if◌then◌else◌}
use Rattle.strand_inputs.specs.declared.step.Step.TheVariants.{Dispatch}
use Rattle.strand_rules.specs.declared.turn.Cause.TheVariants as causes
use Rattle.strand_rules.specs.declared.turn.Turn.TheVariants.{Bubble, Done}
use Rattle.strand_rules.specs.Cycle.{turn}
use Rattle.strand_buffer.specs.Buffers.{Buffers}
use Rattle.strand_machine.proofs.Turn.Item.{decided, turn_decided}
use Rattle.strand_machine.proofs.machine.Machine.item_turn.Goals.{After-buffers-buffers}
use Rattle.strand_machine.proofs.machine.Machine.item_turn.Goals as goal

-- the turn is what the core's buffers decide of the item
turned : (c : After-buffers-buffers) → decided c.buffers-buffers.result.now c.args.item ≡ turn c.args.self.now.machine.config c.args.self.now.machine.program c.args.self.now.machine.state (Dispatch c.args.n)
turned c =
    ap (λ (bs : Buffers). decided bs c.args.item) c.buffers-buffers.ensures.part
    ∙ sym (turn_decided c.args.self.now c.args.n c.args.item (record { holds = c.keeps.ensures.holds; core = c.requires.core; front = c.requires.front }))

pub returns-in-Persist : goal.returns-in-Persist
returns-in-Persist c =
    c.done_or.ensures ∙ ap (λ b. if b then Done else Bubble causes.NoRoom) c.room.ensures
    ∙ sym (ap (decided c.buffers-buffers.result.now) c.in-Persist.is) ∙ turned (goal.at.returns-in-Persist c).After-buffers-buffers

pub returns-in-Barrier : goal.returns-in-Barrier
returns-in-Barrier c = sym (ap (decided c.buffers-buffers.result.now) c.in-Barrier.is) ∙ turned (goal.at.returns-in-Barrier c).After-buffers-buffers

pub returns-in-NewStrand : goal.returns-in-NewStrand
returns-in-NewStrand c =
    c.done_or-in-NewStrand.ensures ∙ ap (λ b. if b then Done else Bubble causes.NotEmpty) c.can_begin.ensures
    ∙ sym (ap (decided c.buffers-buffers.result.now) c.in-NewStrand.is) ∙ turned (goal.at.returns-in-NewStrand c).After-buffers-buffers
