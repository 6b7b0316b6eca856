use Rattle.std.proofs.lemmas.Result.{err_from_is_err_and}
use Rattle.strand_base.proofs.AppendsFront.{front_before, puts_after}
use Rattle.strand_asm.proofs.ListAgain.Image.{again, ok_when}
use Rattle.strand_asm.proofs.ListText.{listing_parts}
use Rattle.strand_asm.proofs.listing.list.Goals as goal

pub returns-in_err-put_front-clause-text : goal.returns-in_err-put_front-clause-text
returns-in_err-put_front-clause-text c =
    let p = err_from_is_err_and c.from_residual.result c.from_residual.ensures.1 in
    rw (p.1, listing_parts c.args.image.now) (front_before _ _ _ _ c.in_err-put_front.ensures.text)

pub returns-clause-text : goal.returns-clause-text
returns-clause-text c = rw (listing_parts c.args.image.now) (puts_after c.put_sections.result _ _ _ _ _ c.in_ok-put_front.ensures.text c.put_sections.ensures)

pub returns-clause-again : goal.returns-clause-again
returns-clause-again c = ok_when c.put_sections.result _ (again c.args.image.now c.in_ok-put_front.ensures.keeps c.in_ok-put_front.ensures.decoded)
