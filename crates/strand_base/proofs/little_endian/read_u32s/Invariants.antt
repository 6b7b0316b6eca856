use Rattle.std.proofs.Common.{◌≡◌}
use Rattle.strand_base.specs.LittleEndian.{u32s}
use Rattle.strand_base.proofs.little_endian.read_u32s.Given as goal

abbrev pub invariant-loop-k : goal.invariant-loop-k
invariant-loop-k l = l.numbers.items ≡ u32s l.k l.bytes
