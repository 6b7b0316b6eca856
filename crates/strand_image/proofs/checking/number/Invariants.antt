use Rattle.std.proofs.Common.{◌≡◌, ℕ, ◌<◌, get_or}
use Rattle.strand_image.proofs.checking.number.Given as goal

abbrev pub invariant-loop-slot : goal.invariant-loop-slot
invariant-loop-slot l = (l.k ≡ l.slot-index) × ((j : ℕ) → j < l.slot-index → get_or l.order j 0 ≡ j)
