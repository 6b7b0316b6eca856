use Rattle.std.proofs.Common.{◌≡◌, length, take}
use Rattle.strand_image.specs.Symbols.{bytes_of_symbols}
use Rattle.strand_image.proofs.writing.symbols_size.Given as goal

abbrev pub invariant-loop-symbol : goal.invariant-loop-symbol
invariant-loop-symbol l = l.size ≡ length (bytes_of_symbols (take l.symbol-index l.symbols))
