use Rattle.std.proofs.lemmas.Result.{err_from_is_err_and}
use Rattle.strand_base.proofs.AppendsFront.{front_before, puts_after}
use Rattle.strand_image.specs.Image.{bytes_in, header_bytes, list_bytes}
use Rattle.strand_image.specs.declared.version.Version.TheVariants.{Second}
use Rattle.strand_image.proofs.Spelling.{image_again}
use Rattle.strand_image.proofs.writing.write_image.Goals as goal

pub returns-in_err-put_header : goal.returns-in_err-put_header
unfolding bytes_in
returns-in_err-put_header c =
    let p = err_from_is_err_and c.from_residual.result c.from_residual.ensures.1 in
    record { again = image_again _ c.in_err-put_header.ensures.keeps; text = rw p.1 (front_before (header_bytes Second c.args.image.now) (list_bytes c.args.image.now) _ _ c.in_err-put_header.ensures.text) }

pub returns : goal.returns
unfolding bytes_in
returns c = record { again = image_again _ c.in_ok-put_header.ensures.keeps; text = puts_after c.put_lists.result (header_bytes Second c.args.image.now) (list_bytes c.args.image.now) _ _ _ c.in_ok-put_header.ensures.text c.put_lists.ensures }
