use Rattle.std.proofs.Common.{◌≡◌, ◌∙◌, ◌∷◌, [], append_assoc}
use lib.Chars.{codes}
use Rattle.std.proofs.lemmas.Result.{err_from_is_err_and}
use Rattle.strand_base.proofs.AppendsFront.{front_before, puts_after}
use Rattle.strand_asm.proofs.names.put_name.Goals as goal

pub returns-in_err-put : goal.returns-in_err-put
returns-in_err-put c =
    let p = err_from_is_err_and c.from_residual.result c.from_residual.ensures.1 in
    let name : c.as_bytes.result.now ≡ c.args.symbol.now.name = c.as_bytes.ensures.value ∙ c.as_str.ensures.text in
    rw (p.1, append_assoc c.args.symbol.now.name (codes ":") (10 ∷ []), ← name) (front_before c.as_bytes.result.now _ _ _ c.in_err-put.ensures)

pub returns : goal.returns
returns c =
    let name : c.as_bytes.result.now ≡ c.args.symbol.now.name = c.as_bytes.ensures.value ∙ c.as_str.ensures.text in
    rw (append_assoc c.args.symbol.now.name (codes ":") (10 ∷ []), ← name) (puts_after c.put-2.result c.as_bytes.result.now (58 ∷ 10 ∷ []) _ _ _ c.in_ok-put.ensures c.put-2.ensures)
