-- Serves clauses closed and joined of durable_sets_are_allowed at a send: an eligible persist is buffered.
use Rattle.std.proofs.Common.{◌≡◌, ℕ, true, ◌&&◌}
use Rattle.std.specs.Prelude.{not, ◌==◌}
use Rattle.std.proofs.lemmas.Bool.{and_parts}
use Rattle.strand_inputs.specs.Settings.{Settings}
use Rattle.strand_events.specs.Trace.{core_at, strand_number}
use Rattle.strand_events.specs.Order.{set_of}
use Rattle.strand_rules.specs.Cycle.{State, buffer_of, is_in_buffer, epoch_waits, word_waits, persist_unmet, is_eligible}

pub eligible_marked : (g : Settings) (s : State) (n b p : ℕ) → is_eligible g s n b p ≡ true → set_of s.buffered p ≡ true
eligible_marked g s n b p h =
    let inside = (and_parts (is_in_buffer g s n b p) (not (epoch_waits g s p)) (and_parts (is_in_buffer g s n b p && not (epoch_waits g s p)) (not (word_waits g s p)) (and_parts (is_in_buffer g s n b p && not (epoch_waits g s p) && not (word_waits g s p)) (not (persist_unmet g.conflict g.mode s.now.trace (set_of s.durable) p)) h).0).0).0 in
    let own = (and_parts (set_of s.buffered p && (core_at s.now.trace p == n)) (buffer_of g (strand_number g.mode s.now.trace p) == b) inside).0 in
    (and_parts (set_of s.buffered p) (core_at s.now.trace p == n) own).0
