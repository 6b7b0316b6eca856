use Rattle.std.proofs.Common.{map}
use Rattle.std.proofs.lemmas.Result.{err_from_is_err_and}
use Rattle.strand_base.proofs.AppendsFront.{front_before, puts_after}
use Rattle.strand_asm.specs.Listing.{lines_text, name_text, space_text}
use Rattle.strand_asm.proofs.ListText.{lines_append}
use Rattle.strand_asm.proofs.data_lines.put_space_and_names.Goals as goal

pub returns-in_err-put_space : goal.returns-in_err-put_space
returns-in_err-put_space c =
    let p = err_from_is_err_and c.from_residual.result c.from_residual.ensures.1 in
    rw (p.1, lines_append (space_text c.args.zeros) (map name_text c.args.names.now)) (front_before (lines_text (space_text c.args.zeros)) _ _ _ c.in_err-put_space.ensures)

pub returns : goal.returns
returns c =
    rw (lines_append (space_text c.args.zeros) (map name_text c.args.names.now))
    (puts_after c.put_names.result (lines_text (space_text c.args.zeros)) _ _ _ _ c.in_ok-put_space.ensures c.put_names.ensures)
