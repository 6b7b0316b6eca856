use Rattle.std.proofs.Common.{◌≤◌, ◌∷◌, length, arith}
use Rattle.std.proofs.lemmas.Result.{err_from_is_err_and}
use Rattle.strand_base.proofs.AppendsFront.{front_before, puts_after}
use Rattle.strand_base.specs.LittleEndian.{bytes_of_u32}
use Rattle.strand_image.specs.Symbols.{region_number}
use Rattle.strand_image.proofs.SymbolBytes.{label_short}
use Rattle.strand_image.proofs.writing.put_symbol.Goals as goal

pub put_name-requires : goal.put_name-requires
put_name-requires c = let short : length c.as_bytes.result.now ≤ 64 = rw c.as_bytes.ensures.bytes (label_short c.args.symbol.now.name c.as_bytes.ensures.keeps) in omega arith

pub returns-in_err-put_place : goal.returns-in_err-put_place
returns-in_err-put_place c =
    let p = err_from_is_err_and c.from_residual.result c.from_residual.ensures.1 in
    rw p.1 (front_before _ _ _ _ c.in_err-put_place.ensures)

pub returns : goal.returns
returns c = puts_after c.put_name.result (region_number c.args.symbol.now.region ∷ bytes_of_u32 c.args.symbol.now.place) (length c.args.symbol.now.name ∷ c.args.symbol.now.name) _ _ _ c.in_ok-put_place.ensures (rw c.as_bytes.ensures.bytes at c.put_name.ensures)
