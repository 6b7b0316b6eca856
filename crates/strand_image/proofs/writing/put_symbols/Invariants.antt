use Rattle.std.proofs.Common.{◌≡◌, ◌++◌, take}
use Rattle.std.specs.List.{flat_map}
use Rattle.strand_image.specs.Symbols.{bytes_of_symbol}
use Rattle.strand_image.proofs.writing.put_symbols.Given as goal

abbrev pub invariant-loop-symbol : goal.invariant-loop-symbol
invariant-loop-symbol l = l.into.items ≡ l.fn.into.items ++ flat_map bytes_of_symbol (take l.symbol-index l.symbols)
