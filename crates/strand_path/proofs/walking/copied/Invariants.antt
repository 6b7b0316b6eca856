use Rattle.std.proofs.Common.{◌≡◌, take}
use Rattle.strand_path.proofs.walking.copied.Given as goal

abbrev pub invariant-loop-n : goal.invariant-loop-n
invariant-loop-n l = l.numbers ≡ take l.n-index l.list
