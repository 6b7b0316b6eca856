use Rattle.std.proofs.Common.{[], ◌∷◌}
use Rattle.std.proofs.lemmas.Result.{err_from_is_err_and}
use Rattle.strand_base.specs.LittleEndian.{bytes_of_u32}
use Rattle.strand_base.proofs.AppendsFront.{front_before, puts_after}
use Rattle.strand_image.proofs.writing.put_place.Goals as goal

pub returns-in_err-put : goal.returns-in_err-put
returns-in_err-put c =
    let p = err_from_is_err_and c.from_residual.result c.from_residual.ensures.1 in
    rw (p.1, ← c.region_number.ensures) (front_before _ _ _ _ c.in_err-put.ensures)

pub returns : goal.returns
unfolding bytes_of_u32
returns c = rw (← c.region_number.ensures) (puts_after c.put-2.result (c.region_number.result ∷ []) (bytes_of_u32 c.args.symbol.now.place) _ _ _ c.in_ok-put.ensures (rw c.to_le_bytes.ensures at c.put-2.ensures))
