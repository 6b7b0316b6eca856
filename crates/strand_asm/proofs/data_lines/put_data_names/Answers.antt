use Rattle.std.proofs.Common.{◌≡◌, sym, length, arith}
use Rattle.std.proofs.lemmas.Bool.Decides.{nat_tests}
use Rattle.std.proofs.lemmas.List.{append-nil}
use Rattle.strand_asm.proofs.ListText.{no_names}
use Rattle.strand_asm.proofs.data_lines.put_data_names.Goals as goal

pub returns-then-is_empty-clause-text : goal.returns-then-is_empty-clause-text
returns-then-is_empty-clause-text c =
    let empty : length c.args.names.now ≡ 0 = grind (arith, nat_tests) in
    rw (no_names c.args.zeros c.args.names.now empty) (sym (append-nil _))
