use Rattle.std.proofs.Common.{◌≡◌, ◌≤◌, ◌<◌, refl, sym, ap, subst, ◌∙◌, length, arith}
use Rattle.std.specs.Prelude.{Some, slice_get}
use Rattle.strand_inputs.specs.declared.step.Step.TheVariants.{Write}
use Rattle.strand_events.specs.Trace.{persists_of}
use Rattle.strand_control.specs.declared.request.Request.{Request}
use Rattle.strand_control.specs.declared.request.WriteTurn.{WriteTurn}
use Rattle.strand_control.specs.declared.request.WriteTurn.TheVariants as answers
use Rattle.strand_control.specs.Flight.{Flight, LieInBank, Writes}
use Rattle.strand_rules.specs.declared.turn.Cause.{Cause}
use Rattle.strand_rules.specs.declared.turn.Cause.TheVariants as causes
use Rattle.strand_rules.specs.declared.turn.Turn.{Turn}
use Rattle.strand_rules.specs.declared.turn.Turn.TheVariants.{Done, Bubble, Fault}
use Rattle.strand_rules.specs.Cycle.{IsReached, turn, write_after}
use Rattle.strand_rules.specs.Machine.{Machine, StepLeaves, durable_persists, made_to}
use Rattle.strand_rules.specs.Pipeline.{with_memory}
use Rattle.strand_rules.proofs.IsReached.{reached_done}
use Rattle.strand_buffer.specs.Buffers.{IsSent}
use Rattle.strand_machine.specs.Changed.{durable_first, with_written}
use Rattle.strand_machine.specs.KeptMachine.{IsKeptRingMachine, seen}
use Rattle.strand_machine.specs.Machine.{IsRingMachine, RingMachine}
use Rattle.strand_machine.specs.Stand.{PartsSeen, buffers_at, tally_at}
use Rattle.strand_machine.proofs.Turn.Item.{holds_inside}
use Rattle.strand_machine.proofs.Turn.SendWrite.{IsWritten, written_by, written_number, requests_lie, no_request, older_waits, refused}
use Rattle.strand_machine.proofs.Stand.Machine.{bubble_stepped, done_stepped, held_moved, parts_stay, rooms_with}
use Rattle.strand_modules.specs.Bank.{BankSeen}
use Rattle.strand_modules.specs.Seen.{bank_seen}
use Rattle.strand_machine.proofs.machine.Machine.step_write.Given.{Over}
use Rattle.strand_machine.proofs.machine.Machine.step_write.Goals.{After-keeps, After-write, After-persist_at-p, After-release}
use Rattle.strand_machine.proofs.machine.Machine.step_write.Goals as goal

holds : (g : Over) (c : After-keeps g) → IsRingMachine (seen c.self.inside)
holds g c = holds_inside c.self.inside c.self.invariant c.keeps.ensures.kept c.keeps.ensures.buffers

abbrev bank : (g : Over) (c : After-write g) → BankSeen
bank g c = bank_seen (λ z. (goal.PmModule-dyn g z).holds z.1) c.args.bank.now

abbrev bank' : (g : Over) (c : After-write g) → BankSeen
bank' g c = bank_seen (λ z. (goal.PmModule-dyn g z).holds z.1) c.write.new.bank

-- what the controller answered
writes : (g : Over) (c : After-write g) (t : WriteTurn) → c.write.result ≡ t → Writes c.self.inside.parts.control c.write.new.self.control (bank g c) (bank' g c) c.args.j t
writes g c t is = subst (Writes c.self.inside.parts.control c.write.new.self.control (bank g c) (bank' g c) c.args.j) is c.write.ensures.control

pub write-requires : goal.write-requires
write-requires g c =
    let all = holds g (goal.at.write-requires g c).After-keeps in
    let size = (bank_seen (λ z. (goal.PmModule-dyn g z).holds z.1) c.args.bank.now).size in
    subst (λ (f : Flight). LieInBank f.requests size) (sym all.stand.control)
    (requests_lie (seen c.self.inside) all size (subst (λ (r : RingMachine). r.machine.program.sizes.persistent ≤ size) (sym c.self.view_is) c.requires.bank))

pub persist_at-p-requires : goal.persist_at-p-requires
persist_at-p-requires g c =
    let at = goal.at.persist_at-p-requires g c in
    subst (λ t. c.in-Written.r.number < length (persists_of t)) (sym c.trace.ensures.events)
    (written_number (seen c.self.inside) (holds g at.After-keeps) c.write.new.self.control (bank g at.After-write) (bank' g at.After-write) c.args.j c.in-Written.r (writes g at.After-write (answers.Written c.in-Written.r) c.in-Written.is))

-- the persist of the request that was written
written : (g : Over) (c : After-persist_at-p g)
    → IsWritten (seen c.self.inside) c.write.new.self.control (bank_seen (λ z. (goal.PmModule-dyn g z).holds z.1) c.args.bank.now) (bank_seen (λ z. (goal.PmModule-dyn g z).holds z.1) c.write.new.bank) c.args.j c.in-Written.r c.persist_at-p.result
written g c =
    let old = bank_seen (λ z. (goal.PmModule-dyn g z).holds z.1) c.args.bank.now in
    let new = bank_seen (λ z. (goal.PmModule-dyn g z).holds z.1) c.write.new.bank in
    written_by (seen c.self.inside) (holds_inside c.self.inside c.self.invariant c.keeps.ensures.kept c.keeps.ensures.buffers) c.write.new.self.control old new c.args.j c.in-Written.r
    (subst (Writes c.self.inside.parts.control c.write.new.self.control old new c.args.j) c.in-Written.is c.write.ensures.control) c.persist_at-p.result
    (ap (λ t. slice_get (persists_of t) c.in-Written.r.number) (sym c.trace.ensures.events) ∙ c.persist_at-p.ensures)

-- the state after it is reached
comes : (g : Over) (c : After-persist_at-p g) → IsReached c.self.inside.pipeline.config c.self.inside.pipeline.program (write_after (seen c.self.inside).machine.state c.args.j (Some c.persist_at-p.result))
comes g c =
    let m = (seen c.self.inside).machine in
    let w = written g c in
    subst (λ o. IsReached m.config m.program (write_after m.state c.args.j o)) w.at (reached_done m.config m.program m.state (Write c.args.j) c.self.invariant.reached w.turned)

pub write-requires-in-Written-clause-request : goal.write-requires-in-Written-clause-request
write-requires-in-Written-clause-request g c = (written g (goal.at.write-requires-in-Written-clause-request g c).After-persist_at-p).at

pub write-requires-in-Written-clause-persist : goal.write-requires-in-Written-clause-persist
write-requires-in-Written-clause-persist g c = (written g (goal.at.write-requires-in-Written-clause-persist g c).After-persist_at-p).taken.persist

pub write-requires-in-Written-clause-number : goal.write-requires-in-Written-clause-number
write-requires-in-Written-clause-number g c = ap (λ (r : Request). r.number) (written g (goal.at.write-requires-in-Written-clause-number g c).After-persist_at-p).request

pub write-requires-in-Written-clause-reached : goal.write-requires-in-Written-clause-reached
write-requires-in-Written-clause-reached g c = (c.self.inside.parts.cache.memory, comes g (goal.at.write-requires-in-Written-clause-reached g c).After-persist_at-p)

pub release-requires-clause-buffers : goal.release-requires-clause-buffers
release-requires-clause-buffers g c =
    let w = written g (goal.at.release-requires-clause-buffers g c).After-persist_at-p in
    omega (arith, w.taken.core, ap (λ (r : Request). r.core) w.request, c.self.invariant.stand.buffer_count, ap (λ (p : PartsSeen). length p.buffers) c.write.ensures.others)

pub release-requires-clause-tallies : goal.release-requires-clause-tallies
release-requires-clause-tallies g c =
    let w = written g (goal.at.release-requires-clause-tallies g c).After-persist_at-p in
    omega (arith, w.taken.core, ap (λ (r : Request). r.core) w.request, c.self.invariant.stand.tally_count, ap (λ (p : PartsSeen). length p.tallies) c.write.ensures.others)

pub release-requires-clause-sent : goal.release-requires-clause-sent
release-requires-clause-sent g c =
    subst (λ (p : PartsSeen). IsSent (buffers_at p c.in-Written.r.core) c.in-Written.r.buffer c.in-Written.r.number) (sym c.write.ensures.others)
    (written g (goal.at.release-requires-clause-sent g c).After-persist_at-p).sent

pub release-requires-clause-known : goal.release-requires-clause-known
release-requires-clause-known g c =
    let marks = durable_persists (write_after (seen c.self.inside).machine.state c.args.j (Some c.persist_at-p.result)) in
    subst (λ marks. (tally_at c.write.new.self c.in-Written.r.core).first ≤ durable_first marks (tally_at c.write.new.self c.in-Written.r.core).numbers)
    (sym (c.durable.ensures.marks ∙ ap (λ (m : Machine). durable_persists m.state) c.write-in-Written.ensures))
    (subst (λ (p : PartsSeen). (tally_at p c.in-Written.r.core).first ≤ durable_first marks (tally_at p c.in-Written.r.core).numbers) (sym c.write.ensures.others)
    (written g (goal.at.release-requires-clause-known g c).After-persist_at-p).known)

-- the parts and the machine after it
abbrev parts_after : (g : Over) (c : After-release g) → PartsSeen
parts_after g c = with_written (record c.self.inside.parts { control = c.write.new.self.control }) c.in-Written.r (durable_persists (write_after (seen c.self.inside).machine.state c.args.j (Some c.persist_at-p.result)))

parts_are : (g : Over) (c : After-release g) → c.release.new.self ≡ parts_after g c
parts_are g c =
    c.release.ensures
    ∙ ap (λ (p : PartsSeen). with_written p c.in-Written.r c.durable.result.now) c.write.ensures.others
    ∙ ap (with_written (record c.self.inside.parts { control = c.write.new.self.control }) c.in-Written.r) (c.durable.ensures.marks ∙ ap (λ (m : Machine). durable_persists m.state) c.write-in-Written.ensures)

moved : (g : Over) (c : After-release g) → with_memory c.release.new.self.cache.memory c.write-in-Written.new.self ≡ made_to (seen c.self.inside).machine (write_after (seen c.self.inside).machine.state c.args.j (Some c.persist_at-p.result))
moved g c = ap (λ (p : PartsSeen). with_memory p.cache.memory c.write-in-Written.new.self) (parts_are g c) ∙ ap (with_memory c.self.inside.parts.cache.memory) c.write-in-Written.ensures

stays_kept : (g : Over) (c : After-release g) (b b' : BankSeen) → IsWritten (seen c.self.inside) c.write.new.self.control b b' c.args.j c.in-Written.r c.persist_at-p.result
    → IsReached c.self.inside.pipeline.config c.self.inside.pipeline.program (write_after (seen c.self.inside).machine.state c.args.j (Some c.persist_at-p.result))
    → IsKeptRingMachine (record { pipeline = c.write-in-Written.new.self; parts = c.release.new.self })
stays_kept g c b b' w reached =
    let r = seen c.self.inside in
    let all = c.self.invariant in
    held_moved r (write_after r.machine.state c.args.j (Some c.persist_at-p.result)) c.write-in-Written.new.self c.release.new.self (parts_after g c) (moved g c) (parts_are g c) w.after
    (rooms_with r.machine r.parts c.in-Written.r.core _ all.stand.tally_count refl all.rooms) all.wait_room reached all.extents

pub returns-in-Written-clause-parts : goal.returns-in-Written-clause-parts
returns-in-Written-clause-parts g c =
    let at = goal.at.returns-in-Written-clause-parts g c in
    (stays_kept g at.After-release (bank g at.After-write) (bank' g at.After-write) (written g at.After-persist_at-p) (comes g at.After-persist_at-p)).stand

pub invariant_of-self : goal.invariant_of-self
invariant_of-self g c =
    let at = goal.at.invariant_of-self g c in
    stays_kept g at.After-release (bank g at.After-write) (bank' g at.After-write) (written g at.After-persist_at-p) (comes g at.After-persist_at-p)

pub returns-in-Written-clause-step : goal.returns-in-Written-clause-step
returns-in-Written-clause-step g c =
    let at = goal.at.returns-in-Written-clause-step g c in
    let m = (seen c.self.inside).machine in
    let w = written g at.After-persist_at-p in
    subst (λ (o : RingMachine). StepLeaves o.machine (with_memory c.release.new.self.cache.memory c.write-in-Written.new.self) (bank g at.After-write) (bank' g at.After-write) (Write c.args.j) Done) c.self.view_is
    (w.turned, moved g at.After-release ∙ ap (λ o. made_to m (write_after m.state c.args.j o)) (sym w.at) ∙ done_stepped m (Write c.args.j) w.turned, w.stored)

-- a controller that answers otherwise leaves the parts
stays : (g : Over) (c : After-write g) → c.write.new.self.control ≡ c.self.inside.parts.control → c.write.new.self ≡ c.self.inside.parts
stays g c same = parts_stay c.self.inside.parts c.write.new.self c.write.ensures.others same

-- a bubble leaves the bank too, and of the machine all but the count of steps
bubbled : (g : Over) (c : After-write g) (pipeline : Machine) (result : Turn) (cause : Cause) → result ≡ Bubble cause → pipeline ≡ made_to c.self.inside.pipeline c.self.inside.pipeline.state
    → turn c.self.inside.pipeline.config c.self.inside.pipeline.program (seen c.self.inside).machine.state (Write c.args.j) ≡ Bubble cause → c.write.new.self.control ≡ c.self.inside.parts.control → bank' g c ≡ bank g c
    → StepLeaves c.args.self.now.machine (with_memory c.write.new.self.cache.memory pipeline) (bank g c) (bank' g c) (Write c.args.j) result
bubbled g c pipeline result cause is moved turned same bank_is =
    let m = (seen c.self.inside).machine in
    let now = with_memory c.write.new.self.cache.memory pipeline in
    let left = ap (λ (p : PartsSeen). with_memory p.cache.memory pipeline) (stays g c same) ∙ ap (with_memory c.self.inside.parts.cache.memory) moved in
    subst (StepLeaves c.args.self.now.machine now (bank g c) (bank' g c) (Write c.args.j)) (sym is)
    (subst (λ (o : RingMachine). StepLeaves o.machine now (bank g c) (bank' g c) (Write c.args.j) (Bubble cause)) c.self.view_is (turned, left ∙ bubble_stepped m (Write c.args.j) cause turned, bank_is))

pub returns-in-NoEntry-clause-step : goal.returns-in-NoEntry-clause-step
returns-in-NoEntry-clause-step g c =
    let at = goal.at.returns-in-NoEntry-clause-step g c in
    let wrote = writes g at.After-write answers.NoEntry c.in-NoEntry.is in
    bubbled g at.After-write c.bubble.new.self c.bubble.result causes.NoEntry c.bubble.ensures.turn c.bubble.ensures.machine (no_request (seen c.self.inside) (holds g at.After-keeps) c.args.j wrote.0) wrote.1 wrote.2

pub returns-in-OlderWaits-clause-step : goal.returns-in-OlderWaits-clause-step
returns-in-OlderWaits-clause-step g c =
    let at = goal.at.returns-in-OlderWaits-clause-step g c in
    let wrote = writes g at.After-write answers.OlderWaits c.in-OlderWaits.is in
    bubbled g at.After-write c.bubble-in-OlderWaits.new.self c.bubble-in-OlderWaits.result causes.OlderWaits c.bubble-in-OlderWaits.ensures.turn c.bubble-in-OlderWaits.ensures.machine
    (older_waits (seen c.self.inside) (holds g at.After-keeps) c.args.j wrote.0 wrote.1) wrote.2 wrote.3

pub returns-in-Fault-clause-step : goal.returns-in-Fault-clause-step
returns-in-Fault-clause-step g c =
    let at = goal.at.returns-in-Fault-clause-step g c in
    let wrote = writes g at.After-write (answers.Fault c.in-Fault.«module») c.in-Fault.is in
    let refusal = refused (seen c.self.inside) (holds g at.After-keeps) (bank g at.After-write) (bank' g at.After-write) c.args.j wrote.0 c.in-Fault.«module» wrote.1 wrote.3 in
    let same = ap (λ (p : PartsSeen). with_memory p.cache.memory c.self.inside.pipeline) (stays g at.After-write wrote.2) in
    subst (λ (o : RingMachine). StepLeaves o.machine (with_memory c.write.new.self.cache.memory c.self.inside.pipeline) (bank g at.After-write) (bank' g at.After-write) (Write c.args.j) (Fault c.in-Fault.«module»)) c.self.view_is (refusal.0, same, refusal.1)
