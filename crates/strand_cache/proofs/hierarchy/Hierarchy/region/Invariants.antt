-- The words so far are there.
use Rattle.std.proofs.Common.{◌≡◌, ◌+◌, ◌*◌}
use Rattle.std.specs.Prelude.{map}
use Rattle.std.specs.List.{range_with_len}
use Rattle.strand_exec.specs.Memory.{word_in}
use Rattle.strand_cache.proofs.hierarchy.Hierarchy.region.Given as goal

abbrev pub invariant-loop-i : goal.invariant-loop-i
invariant-loop-i l = l.words.items ≡ map (λ i. word_in l.self.memory (l.base + 8 * i)) (range_with_len 0 l.i)
