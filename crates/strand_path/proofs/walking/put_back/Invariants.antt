use Rattle.std.proofs.Common.{◌≡◌, ◌++◌, ◌≤◌, length, take}
use Rattle.std.specs.Prelude.{reverse}
use Rattle.strand_path.proofs.walking.put_back.Given as goal

abbrev pub invariant-loop-k : goal.invariant-loop-k
invariant-loop-k l = record { within : l.k ≤ length l.list; made : l.route ++ reverse (take l.k l.list) ≡ l.fn.route ++ reverse l.list }

abbrev pub decreases-loop-k : goal.decreases-loop-k
decreases-loop-k l = l.k
