use Rattle.std.proofs.Common.{◌≡◌, ◌++◌, List, Option, map, subst, ap, ◌∙◌}
use Rattle.std.proofs.lemmas.Result.{err_from_is_err_and}
use Rattle.strand_base.specs.Puts.{AppendsFront, Puts}
use Rattle.strand_base.specs.Text.{text_of}
use Rattle.strand_base.proofs.AppendsFront.{front_before, puts_after}
use Rattle.strand_refute.specs.declared.certificate.Forced.{Forced}
use Rattle.strand_refute.specs.declared.certificate.Ending.{Ending}
use Rattle.strand_refute.specs.Grammar.{forced_words, ending_words, certificate_text}
use Rattle.strand_refute.proofs.writing.write_certificate.Goals as goal

pub returns-in_err-put_all_forced : goal.returns-in_err-put_all_forced
unfolding certificate_text
returns-in_err-put_all_forced c =
    let p = err_from_is_err_and c.from_residual.result c.from_residual.ensures.1 in
    let front = subst (λ (fs : List Forced). AppendsFront (text_of (map forced_words fs)) c.args.into.now.items c.put_all_forced.new.into.items) c.forced.ensures c.in_err-put_all_forced.ensures in
    rw p.1 (front_before (text_of (map forced_words c.args.c.now.forced)) (text_of (ending_words c.args.c.now.ending)) c.args.into.now.items c.put_all_forced.new.into.items front)

pub returns : goal.returns
unfolding certificate_text
returns c =
    let mid : c.put_all_forced.new.into.items ≡ c.args.into.now.items ++ text_of (map forced_words c.args.c.now.forced) = c.in_ok-put_all_forced.ensures ∙ ap (λ (fs : List Forced). c.args.into.now.items ++ text_of (map forced_words fs)) c.forced.ensures in
    let rest = subst (λ (o : Option Ending). Puts c.put_ending.result (text_of (ending_words o)) c.put_all_forced.new.into.items c.put_ending.new.into.items) c.ending.ensures c.put_ending.ensures in
    puts_after c.put_ending.result (text_of (map forced_words c.args.c.now.forced)) (text_of (ending_words c.args.c.now.ending)) c.args.into.now.items c.put_all_forced.new.into.items c.put_ending.new.into.items mid rest
