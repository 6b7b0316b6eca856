use Rattle.std.proofs.Common.{arith, ap, subst, ◌∙◌, ◌++◌}
use Rattle.std.proofs.lemmas.Result.{err_from_is_err_and}
use Rattle.strand_base.specs.Puts.{AppendsFront}
use Rattle.strand_base.proofs.AppendsFront.{loop_more, loop_all, loop_stops}
use Rattle.strand_image.specs.Symbols.{bytes_of_symbol, bytes_of_symbols}
use Rattle.strand_image.specs.declared.symbol.Symbol.{Symbol}
use Rattle.strand_image.proofs.writing.put_symbols.Goals as goal

pub returns-in_err-put_symbol : goal.returns-in_err-put_symbol
unfolding bytes_of_symbols
returns-in_err-put_symbol c =
    let p = err_from_is_err_and c.from_residual.result c.from_residual.ensures.1 in
    rw p.1 (loop_stops bytes_of_symbol c.args.symbols.now c.loop-symbol.symbol-index c.symbol-item.result _ _ _ (omega arith) c.loop-symbol.invariant (subst (λ (s : Symbol). AppendsFront (bytes_of_symbol s) c.loop-symbol.into.items c.put_symbol.new.into.items) c.symbol-item.is c.in_err-put_symbol.ensures))

pub loop-symbol-preserved : goal.loop-symbol-preserved
loop-symbol-preserved c =
    loop_more bytes_of_symbol c.args.symbols.now c.loop-symbol.symbol-index c.symbol-item.result _ _ _ (omega arith) c.loop-symbol.invariant (c.in_ok-put_symbol.ensures ∙ ap (λ (s : Symbol). c.loop-symbol.into.items ++ bytes_of_symbol s) c.symbol-item.is)

pub returns : goal.returns
unfolding bytes_of_symbols
returns c = loop_all bytes_of_symbol c.args.symbols.now c.loop-symbol.symbol-index _ _ (omega arith) c.loop-symbol.invariant
