use Rattle.std.proofs.Common.{◌≡◌, ◌++◌, ◌∷◌, [], take}
use Rattle.std.specs.List.{flat_map}
use Rattle.strand_asm.specs.Listing.{name_text}
use Rattle.strand_asm.proofs.names.put_names.Given as goal

abbrev pub invariant-loop-symbol : goal.invariant-loop-symbol
invariant-loop-symbol l = l.into.items ≡ l.fn.into.items ++ flat_map (λ s. name_text s ++ 10 ∷ []) (take l.symbol-index l.symbols)
