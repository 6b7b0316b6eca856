-- Serves clauses step and parts of Machine::step: a ring machine whose machine and parts have moved on together.
use Rattle.std.proofs.Common.{◌≡◌, ℕ, ◌<◌, inl, inr, length, sym, ap, subst, ◌∙◌, arith}
use Rattle.std.specs.Prelude.{slice_set, slice_index_or}
use Rattle.std.proofs.lemmas.Bool.{cases_eq}
use Rattle.std.proofs.lemmas.List.{get_or-set_same, get_or-set_other}
use Rattle.strand_inputs.specs.declared.step.Step.{Step}
use Rattle.strand_rules.specs.declared.turn.Cause.{Cause}
use Rattle.strand_rules.specs.declared.turn.Turn.TheVariants.{Done, Bubble}
use Rattle.strand_exec.specs.Memory.{extents_of}
use Rattle.strand_rules.specs.Cycle.{IsReached, State, turn, done_after, after_turn}
use Rattle.strand_rules.specs.Machine.{Machine, made_to, stepped}
use Rattle.strand_rules.specs.Pipeline.{with_memory}
use Rattle.strand_machine.specs.KeptMachine.{IsKeptRingMachine}
use Rattle.strand_machine.specs.Machine.{RingMachine}
use Rattle.strand_machine.specs.Stand.{PartsSeen, Stand, Tally, no_tally, tally_at}

abbrev pub Stands : Machine → PartsSeen → Type 0
Stands m parts = Stand m.config m.program.sizes m.state parts

-- there is room for as many persists of a core as there may be steps
abbrev pub HasRooms : Machine → PartsSeen → Type 0
HasRooms m parts = (n : ℕ) → n < length m.state.now.cores → (tally_at parts n).room ≡ m.steps

module _ (m m' : Machine) (s : State) (parts parts' now : PartsSeen) (e : m' ≡ made_to m s) (e' : parts' ≡ now) where
  pub stand_moved : Stand m.config m.program.sizes s now → Stands m' parts'
  stand_moved stand = subst (Stands m') (sym e') (subst (λ m. Stands m now) (sym e) stand)

  pub rooms_moved : HasRooms (made_to m s) now → HasRooms m' parts'
  rooms_moved rooms = subst (HasRooms m') (sym e') (subst (λ m. HasRooms m now) (sym e) rooms)

-- what the fields keep, where the machine has moved on to a state and the parts have moved on too
pub held_moved : (r : RingMachine) (s : State) (m : Machine) (parts now : PartsSeen) → with_memory parts.cache.memory m ≡ made_to r.machine s → parts ≡ now
    → Stand r.machine.config r.machine.program.sizes s now → HasRooms (made_to r.machine s) now → now.waiting.room ≡ r.machine.steps → IsReached r.machine.config r.machine.program s → extents_of now.cache.memory ≡ r.machine.program.sizes
    → IsKeptRingMachine (record { pipeline = m; parts = parts })
held_moved r s m parts now is parts_are stand rooms wait_room reached extents = record {
  stand = stand_moved r.machine (with_memory parts.cache.memory m) s r.parts parts now is parts_are stand;
  rooms = rooms_moved r.machine (with_memory parts.cache.memory m) s r.parts parts now is parts_are rooms;
  wait_room = ap (λ (p : PartsSeen). p.waiting.room) parts_are ∙ wait_room ∙ sym (ap (λ (m : Machine). m.steps) is);
  reached = subst (λ (m : Machine). IsReached m.config m.program m.state) (sym is) reached;
  extents = ap (λ (p : PartsSeen). extents_of p.cache.memory) parts_are ∙ extents ∙ sym (ap (λ (m : Machine). m.program.sizes) is);
}

-- parts that stay but for a controller that stays too
pub parts_stay : (m parts : PartsSeen) → parts ≡ record m { control = parts.control } → parts.control ≡ m.control → parts ≡ m
parts_stay m parts others same = others ∙ ap (λ f. record m { control = f }) same

-- a core's counts that keep their room
pub rooms_with : (m : Machine) (parts : PartsSeen) (c : ℕ) (tally : Tally) → length parts.tallies ≡ length m.state.now.cores → tally.room ≡ (tally_at parts c).room → HasRooms m parts
    → (n : ℕ) → n < length m.state.now.cores → (slice_index_or (slice_set parts.tallies c tally) n no_tally).room ≡ m.steps
rooms_with m parts c tally count same rooms n lt = elim (cases_eq n c) [
  | inl e ↦ rw e (ap (λ (t : Tally). t.room) (get_or-set_same parts.tallies c tally no_tally (omega (arith, lt, e, count))) ∙ same ∙ ap (λ i. (tally_at parts i).room) (sym e) ∙ rooms n lt)
  | inr ne ↦ ap (λ (t : Tally). t.room) (get_or-set_other parts.tallies c n tally no_tally ne) ∙ rooms n lt
]

-- what a step leaves, by its turn
pub bubble_stepped : (m : Machine) (step : Step) (cause : Cause) → turn m.config m.program m.state step ≡ Bubble cause → made_to m m.state ≡ stepped m step
bubble_stepped m step cause e = sym (ap (λ t. made_to m (after_turn t m.state (done_after m.config m.program m.state step))) e)

pub done_stepped : (m : Machine) (step : Step) → turn m.config m.program m.state step ≡ Done → made_to m (done_after m.config m.program m.state step) ≡ stepped m step
done_stepped m step e = sym (ap (λ t. made_to m (after_turn t m.state (done_after m.config m.program m.state step))) e)
