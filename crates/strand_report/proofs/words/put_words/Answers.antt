use Rattle.std.proofs.Common.{arith}
use Rattle.std.proofs.lemmas.Result.{err_from_is_err_and}
use Rattle.strand_report.specs.Words.{word_line}
use Rattle.strand_report.proofs.NumberedLoop.{numbered_more, numbered_stops, numbered_all}
use Rattle.strand_report.proofs.words.put_words.Goals as goal

pub returns-in_err-put_word : goal.returns-in_err-put_word
returns-in_err-put_word c =
    let p = err_from_is_err_and c.from_residual.result c.from_residual.ensures.1 in
    rw p.1 (numbered_stops (word_line c.args.name.now c.args.base) c.args.words.now c.loop-place.place 0 _ _ _ (omega arith) c.loop-place.invariant c.in_err-put_word.ensures)

pub loop-place-preserved : goal.loop-place-preserved
loop-place-preserved c = numbered_more (word_line c.args.name.now c.args.base) c.args.words.now c.loop-place.place 0 _ _ _ (omega arith) c.loop-place.invariant c.in_ok-put_word.ensures

pub returns : goal.returns
returns c = numbered_all (word_line c.args.name.now c.args.base) c.args.words.now c.loop-place.place _ _ (omega arith) c.loop-place.invariant
