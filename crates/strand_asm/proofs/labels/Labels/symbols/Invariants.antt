use Rattle.std.proofs.Common.{◌≡◌, map, take}
use Rattle.std.specs.String.{string_bytes}
use Rattle.strand_asm.specs.Assemble.{label_symbol}
use Rattle.strand_asm.proofs.LabelLookup.{seen}
use Rattle.strand_asm.proofs.labels.Labels.symbols.Given as goal

abbrev pub invariant-loop-k : goal.invariant-loop-k
invariant-loop-k l = l.symbols.items ≡ map label_symbol (take l.k (map (seen string_bytes) l.self-inside.places.entries))
