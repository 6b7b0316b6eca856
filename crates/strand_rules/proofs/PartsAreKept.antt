-- Serves clauses parts, in_order and met of parts_are_kept: what every run keeps of its dispatched persists.
use Rattle.std.proofs.Common.{◌≡◌, ℕ, ◌<◌, true}
use Rattle.std.specs.Prelude.{nat_lt}
use Rattle.std.proofs.lemmas.Bool.{and_parts, and_from, ltb-true, lt-ltb}
use Rattle.strand_inputs.specs.Settings.{Settings}
use Rattle.strand_events.specs.Trace.{is_persist, core_at, event_is, core_event_is}
use Rattle.strand_events.specs.Order.{set_of}
use Rattle.strand_events.proofs.Waits.IsMet.{met_from}
use Rattle.strand_rules.specs.Cycle.{State, is_item, gone, is_dispatched, is_accepted}
use Rattle.strand_rules.specs.DispatchedPersists.{AreParts, AreInOrder, AreMet}
use Rattle.strand_rules.proofs.Ranks.{rank, persist_ranks}
use Rattle.strand_rules.proofs.Order.Invariant.{IsGood}

-- p is a persist whose rank is below the number of its core's items that were dispatched
pub accepted_rank : (g : Settings) (s : State) (p : ℕ) → is_accepted g s (core_at s.now.trace p) p ≡ true
    → (event_is is_persist s.now.trace p ≡ true) × (rank g.mode s.now.trace p < gone s (core_at s.now.trace p))
accepted_rank g s p h =
    let n = core_at s.now.trace p in
    let one = and_parts (is_dispatched g s n p) (event_is is_persist s.now.trace p) h in
    let two = and_parts (core_event_is (is_item g.mode) n s.now.trace p) (nat_lt (rank g.mode s.now.trace p) (gone s n)) one.0 in
    (one.1, ltb-true (rank g.mode s.now.trace p) (gone s n) two.1)

pub rank_accepted : (g : Settings) (s : State) (p : ℕ) → event_is is_persist s.now.trace p ≡ true → rank g.mode s.now.trace p < gone s (core_at s.now.trace p)
    → is_accepted g s (core_at s.now.trace p) p ≡ true
rank_accepted g s p is below =
    let n = core_at s.now.trace p in
    and_from (is_dispatched g s n p) (event_is is_persist s.now.trace p)
    (and_from (core_event_is (is_item g.mode) n s.now.trace p) (nat_lt (rank g.mode s.now.trace p) (gone s n)) (persist_ranks g.mode s.now.trace p is) (lt-ltb (rank g.mode s.now.trace p) (gone s n) below)) is

pub good_parts : (g : Settings) (s : State) → IsGood g s → AreParts g s
good_parts g s good = record {
  apart = good.apart;
  together = λ p. (
    λ h. let r = accepted_rank g s p h in good.ordered.taken p r.0 r.1,
    λ a. rank_accepted g s p (good.ordered.persists p a) (good.ordered.ranked p a),
  );
}

pub good_in_order : (g : Settings) (s : State) → IsGood g s → AreInOrder g.mode s.now.trace s.flight (set_of s.durable)
good_in_order g s good = record { lower = good.ordered.lower; older = good.ordered.older; in_flight = good.ordered.in_flight }

pub good_met : (g : Settings) (s : State) → IsGood g s → AreMet g.conflict g.mode s.now.trace s.flight (set_of s.durable)
good_met g s good b is must = met_from g.mode s.now.trace (set_of s.durable) b (good.ordered.met b is must)
