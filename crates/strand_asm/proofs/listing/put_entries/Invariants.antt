use Rattle.std.proofs.Common.{◌≡◌, ◌++◌, ◌∷◌, [], take}
use Rattle.std.specs.List.{flat_map}
use Rattle.strand_asm.specs.Listing.{entry_text}
use Rattle.strand_asm.proofs.listing.put_entries.Given as goal

abbrev pub invariant-loop-entry : goal.invariant-loop-entry
invariant-loop-entry l = l.into.items ≡ l.fn.into.items ++ flat_map (λ n. entry_text n ++ 10 ∷ []) (take l.entry-index l.entries)
