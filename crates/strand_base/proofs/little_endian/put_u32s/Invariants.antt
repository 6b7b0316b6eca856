use Rattle.std.proofs.Common.{◌≡◌, ◌++◌, take}
use Rattle.strand_base.specs.LittleEndian.{bytes_of_u32s}
use Rattle.strand_base.proofs.little_endian.put_u32s.Given as goal

abbrev pub invariant-loop-number : goal.invariant-loop-number
invariant-loop-number l = l.into.items ≡ l.fn.into.items ++ bytes_of_u32s (take l.number-index l.numbers)
