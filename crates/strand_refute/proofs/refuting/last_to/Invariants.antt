use Rattle.std.proofs.Common.{◌≡◌, ◌≤◌, ℕ, true, length}
use Rattle.strand_events.specs.Order.{set_of, sets_word}
use Rattle.strand_refute.proofs.refuting.last_to.Given as goal

abbrev pub invariant-loop-k : goal.invariant-loop-k
invariant-loop-k l = record {
  bound : l.k ≤ length l.events;
  none : (m : ℕ) → l.k ≤ m → sets_word l.events (set_of l.marks) l.word m ≡ true → ⊥;
}

abbrev pub decreases-loop-k : goal.decreases-loop-k
decreases-loop-k l = l.k
