use Rattle.std.proofs.Common.{ℕ, List, Result, Ok, Err, IfOk, sym, subst, rules, arith}
use Rattle.strand_image.specs.ImageSeen.{ImageSeen}
use Rattle.strand_image.specs.Limits.{IsImage}
use Rattle.strand_image.specs.Image.{image_of, GivesImage, Spells}
use Rattle.strand_image.specs.declared.fault.ImageFault.{ImageFault}
use Rattle.strand_base.proofs.LittleEndian.{AreBytes}
use Rattle.strand_image.proofs.Spelling.{image_spelt, spelling_again}
use Rattle.strand_image.proofs.reading.read_image.Goals as goal

spelling : (result : Result ImageSeen ImageFault) (bytes : List ℕ) → AreBytes bytes → GivesImage result (image_of bytes) → IfOk result (λ image. Spells bytes image)
spelling (Ok p) bytes all e = image_spelt bytes p all (sym e)
spelling (Err d) bytes all e = tt

again : (result : Result ImageSeen ImageFault) (bytes : List ℕ) → GivesImage result (image_of bytes) → (p : ImageSeen) → IsImage p → Spells bytes p → GivesImage result (Ok p)
again result bytes e p i spells = subst (λ (r : Result ImageSeen ImageFault). GivesImage result r) (spelling_again bytes p i spells) e

pub returns-clause-spelling : goal.returns-clause-spelling
unfolding image_of
returns-clause-spelling c =
    let gives : GivesImage c.read_parts.result (image_of c.args.bytes.now) = search rules in
    spelling c.read_parts.result c.args.bytes.now (λ k. omega (arith, c.type_inv.bytes k)) gives

pub returns-in_err-header-clause-again : goal.returns-in_err-header-clause-again
unfolding image_of
returns-in_err-header-clause-again c =
    let gives : GivesImage c.from_residual.result (image_of c.args.bytes.now) = search rules in
    again c.from_residual.result c.args.bytes.now gives

pub returns-in_err-check_length-clause-again : goal.returns-in_err-check_length-clause-again
unfolding image_of
returns-in_err-check_length-clause-again c =
    let gives : GivesImage c.from_residual-in_err-check_length.result (image_of c.args.bytes.now) = search rules in
    again c.from_residual-in_err-check_length.result c.args.bytes.now gives

pub returns-clause-again : goal.returns-clause-again
unfolding image_of
returns-clause-again c =
    let gives : GivesImage c.read_parts.result (image_of c.args.bytes.now) = search rules in
    again c.read_parts.result c.args.bytes.now gives
