use Rattle.std.proofs.Common.{◌≡◌}
use Rattle.strand_base.specs.LittleEndian.{u64s}
use Rattle.strand_base.proofs.little_endian.read_u64s.Given as goal

abbrev pub invariant-loop-k : goal.invariant-loop-k
invariant-loop-k l = l.numbers.items ≡ u64s l.k l.bytes
