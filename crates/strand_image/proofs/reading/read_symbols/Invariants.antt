use Rattle.strand_image.proofs.SymbolBytes.{SpeltSoFar}
use Rattle.strand_image.proofs.reading.read_symbols.Given as goal

abbrev pub invariant-loop : goal.invariant-loop
invariant-loop l = SpeltSoFar l.count l.part l.counter l.into.items l.rest
