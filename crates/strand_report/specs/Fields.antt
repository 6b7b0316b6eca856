-- What the lines are made of.
use Rattle.std.specs.Prelude.{ℕ, List, ◌++◌}
use Rattle.std.specs.Fmt.{decimal, signed_decimal}
use lib.Chars.{codes}
use Rattle.strand_base.specs.Hexadecimal.{hex16}
use Rattle.strand_report.specs.declared.fields.Field.{Field}
use Rattle.strand_report.specs.declared.fields.Field.TheVariants.{Word, Decimal, Signed, Hex, Register}

-- a word, a number in decimal or in sixteen hexadecimal digits, or the name of a register
abbrev pub field_text : Field → List ℕ
field_text (Word word) = word.now
field_text (Decimal n) = decimal n
field_text (Signed z) = signed_decimal z
field_text (Hex n) = hex16 n
field_text (Register r) = codes "x" ++ decimal r
