use Rattle.std.proofs.Common.{ℕ, Bool, ◌+◌, ◌≤◌, length}
use Rattle.strand_order.specs.Walks.{AreSources}
use Rattle.strand_order.proofs.Edges.Walk.{WalkedTo}
use Rattle.strand_order.proofs.walking.walk.Given as goal

abbrev pub invariant-loop-last : goal.invariant-loop-last
invariant-loop-last l = record { bounded : l.last ≤ length l.links; walked : (n : ℕ) (chain : ℕ → Bool) → AreSources l.links l.sources n chain → WalkedTo l.sources n chain l.last l.single l.list.items }

abbrev pub decreases-loop-last : goal.decreases-loop-last
decreases-loop-last l = l.last + l.single
