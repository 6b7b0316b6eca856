use Rattle.std.proofs.Common.{arith}
use Rattle.std.proofs.lemmas.Map.Text.{text_keys}
use Rattle.strand_base.proofs.held_files.HeldFiles.add.Goals as goal

pub returns-clause-ok : goal.returns-clause-ok
returns-clause-ok c = record { here = grind (arith, text_keys); others = λ name ne. grind (arith, text_keys) }
