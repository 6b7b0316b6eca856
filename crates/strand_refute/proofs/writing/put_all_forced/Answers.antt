use Rattle.std.proofs.Common.{arith}
use Rattle.std.proofs.lemmas.Result.{err_from_is_err_and}
use Rattle.strand_base.specs.Text.{line_text}
use Rattle.strand_base.proofs.AppendsFront.{flat_of_map, loop_more, loop_all, loop_stops}
use Rattle.strand_refute.specs.declared.certificate.Forced.{Forced}
use Rattle.strand_refute.specs.declared.certificate.Reason.TheVariants.{Joined}
use Rattle.strand_refute.specs.Grammar.{forced_words}
use Rattle.strand_refute.proofs.writing.put_all_forced.Goals as goal

pub returns-in_err-put_forced : goal.returns-in_err-put_forced
returns-in_err-put_forced c =
    let p = err_from_is_err_and c.from_residual.result c.from_residual.ensures.1 in
    rw (p.1, flat_of_map line_text forced_words c.args.forced.now) (loop_stops (λ (f : Forced). line_text (forced_words f)) c.args.forced.now c.loop-f.f-index (record { event = 0; reason = Joined }) _ _ _ (omega arith) c.loop-f.invariant c.in_err-put_forced.ensures)

pub loop-f-preserved : goal.loop-f-preserved
loop-f-preserved c = loop_more (λ (f : Forced). line_text (forced_words f)) c.args.forced.now c.loop-f.f-index (record { event = 0; reason = Joined }) _ _ _ (omega arith) c.loop-f.invariant c.in_ok-put_forced.ensures

pub returns : goal.returns
returns c = rw (flat_of_map line_text forced_words c.args.forced.now) (loop_all (λ (f : Forced). line_text (forced_words f)) c.args.forced.now c.loop-f.f-index _ _ (omega arith) c.loop-f.invariant)
