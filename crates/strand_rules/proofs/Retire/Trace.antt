-- Serves durable_sets_are_allowed, all clauses: what a retired instruction adds to the trace.
use Rattle.std.proofs.Common.{◌≡◌, ℕ, ◌<◌, refl, sym, ap, length}
use Rattle.std.specs.Prelude.{Some, None, slice_get}
use Rattle.std.specs.declared.option.Option.{Option}
use Rattle.std.proofs.lemmas.Option.{same_Some, none-some, slice_get_within}
use Rattle.strand_exec.specs.Core as cores
use Rattle.strand_exec.specs.Memory.{Memory}
use Rattle.strand_exec.specs.declared.planned.Plan.{Plan}
use Rattle.strand_exec.specs.declared.planned.Plan.TheVariants.{Plain, Load, Store, Barrier, NewStrand, Join, Out, Halt, Trap}
use Rattle.strand_events.specs.declared.event.Event.{Event}
use Rattle.strand_events.specs.Trace.{core_of}
use Rattle.strand_rules.specs.Visible.{Program, Visible, event_of, with_event, plan_by, plan_in, next_plan, moved_by, moved_in, retire}
use Rattle.strand_rules.specs.Cycle.{event_in, next_event}

moved_trace : (p : Program) (v : Visible) (n : ℕ) (core : cores.Core) (plan : Option Plan) → (moved_by p v n core plan).trace ≡ with_event v.trace (event_in n v.memory plan)
moved_trace p v n core None = refl
moved_trace p v n core (Some _) = refl

found_trace : (p : Program) (v : Visible) (n : ℕ) (core : Option cores.Core) → (moved_in p v n core).trace ≡ with_event v.trace (event_in n v.memory (plan_in p core))
found_trace p v n None = refl
found_trace p v n (Some core) = moved_trace p v n core (plan_by p core core.life)

pub retired_trace : (p : Program) (v : Visible) (n : ℕ) → (retire p v n).trace ≡ with_event v.trace (next_event p v n)
unfolding retire
retired_trace p v n = found_trace p v n (slice_get v.cores n)

-- a core that has a next instruction is there
pub plan_there : (p : Program) (v : Visible) (n : ℕ) (plan : Plan) → next_plan p v n ≡ Some plan → n < length v.cores
plan_there p v n plan h = go (slice_get v.cores n) refl h
  where
    go : (o : Option cores.Core) → slice_get v.cores n ≡ o → plan_in p o ≡ Some plan → n < length v.cores
    go None at is = absurd (none-some plan is)
    go (Some core) at is = slice_get_within v.cores n core at

-- the event of a core's instruction is of that core
pub event_core : (n : ℕ) (m : Memory) (plan : Plan) (e : Event) → event_of n m plan ≡ Some e → core_of e ≡ n
event_core n m Plain e h = absurd (none-some e h)
event_core n m (Load word) e h = ap core_of (sym (same_Some _ e h))
event_core n m (Store word mask bits) e h = ap core_of (sym (same_Some _ e h))
event_core n m Barrier e h = ap core_of (sym (same_Some _ e h))
event_core n m NewStrand e h = ap core_of (sym (same_Some _ e h))
event_core n m Join e h = ap core_of (sym (same_Some _ e h))
event_core n m (Out value) e h = ap core_of (sym (same_Some _ e h))
event_core n m Halt e h = absurd (none-some e h)
event_core n m (Trap trap) e h = absurd (none-some e h)
