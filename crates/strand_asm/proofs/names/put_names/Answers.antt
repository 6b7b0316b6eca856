use Rattle.std.proofs.Common.{arith, ap, subst, ◌∙◌, ◌++◌, ◌∷◌, []}
use Rattle.std.proofs.lemmas.Result.{err_from_is_err_and}
use Rattle.strand_base.specs.Puts.{AppendsFront}
use Rattle.strand_base.proofs.AppendsFront.{loop_more, loop_all, loop_stops}
use Rattle.strand_image.specs.declared.symbol.Symbol.{Symbol}
use Rattle.strand_asm.specs.Listing.{name_text}
use Rattle.strand_asm.proofs.ListText.{lines_of_map}
use Rattle.strand_asm.proofs.names.put_names.Goals as goal

pub returns-in_err-put_name : goal.returns-in_err-put_name
returns-in_err-put_name c =
    let p = err_from_is_err_and c.from_residual.result c.from_residual.ensures.1 in
    rw (p.1, lines_of_map name_text c.args.symbols.now)
    (loop_stops (λ (s : Symbol). name_text s ++ 10 ∷ []) c.args.symbols.now c.loop-symbol.symbol-index c.symbol-item.result _ _ _ (omega arith) c.loop-symbol.invariant
    (subst (λ (s : Symbol). AppendsFront (name_text s ++ 10 ∷ []) c.loop-symbol.into.items c.put_name.new.into.items) c.symbol-item.is c.in_err-put_name.ensures))

pub loop-symbol-preserved : goal.loop-symbol-preserved
loop-symbol-preserved c =
    loop_more (λ (s : Symbol). name_text s ++ 10 ∷ []) c.args.symbols.now c.loop-symbol.symbol-index c.symbol-item.result _ _ _ (omega arith) c.loop-symbol.invariant
    (c.in_ok-put_name.ensures ∙ ap (λ (s : Symbol). c.loop-symbol.into.items ++ (name_text s ++ 10 ∷ [])) c.symbol-item.is)

pub returns : goal.returns
returns c = rw (lines_of_map name_text c.args.symbols.now) (loop_all (λ (s : Symbol). name_text s ++ 10 ∷ []) c.args.symbols.now c.loop-symbol.symbol-index _ _ (omega arith) c.loop-symbol.invariant)
