use Rattle.std.proofs.Common.{◌≡◌, ◌+◌, ◌<◌, ℕ, List, Some, length, refl, sym, ap, ◌∙◌, arith, subst}
use Rattle.std.specs.Prelude.{slice_get, slice_index_or}
use Rattle.std.proofs.lemmas.Bool.{false≢true}
use Rattle.std.proofs.lemmas.Option.{slice_get-get_or}
use Rattle.strand_events.specs.Order.{set_of}
use Rattle.strand_judge.specs.Offered.{AreOffered}
use Rattle.strand_judge.specs.Words.{crash_of}
use Rattle.strand_refute.specs.declared.certificate.Forced.{Forced}
use Rattle.strand_refute.specs.declared.certificate.Reason.TheVariants.{Joined}
use Rattle.strand_refute.specs.Accepted.{IsAcceptedForced}
use Rattle.strand_refute.specs.Checked.{IsFirstRejected}
use Rattle.strand_refute.specs.Lines.{HasAcceptedEnding}
use Rattle.strand_refute.proofs.Checks.Tests.{accepted_more, accepted_all, rejected_end}
use Rattle.strand_refute.proofs.checking.check_lines.Goals as goal

-- the line that was read
read : (lines items : List Forced) (k : ℕ) → items ≡ lines → k < length items → slice_get lines k ≡ Some (slice_index_or items k (record { event = 0; reason = Joined }))
read lines items k same lt = ap (λ xs. slice_get xs k) (sym same) ∙ slice_get-get_or items k (record { event = 0; reason = Joined }) lt

pub loop-k-preserved : goal.loop-k-preserved
loop-k-preserved c =
    let t = c.args.trace.now.events in
    let crash = crash_of c.args.first.now c.args.found.now in
    let cert = c.args.certificate.now in
    let f : Forced = slice_index_or c.forced-lines.result.now c.loop-k.k (record { event = 0; reason = Joined }) in
    accepted_more c.args.mode t crash cert c.loop-k.k c.loop-k.needed.items c.loop-k.invariant f (read cert.forced c.forced-lines.result.now c.loop-k.k c.forced-lines.ensures (omega (arith, c.loop-k-test.true))) _
    (subst (λ ms. IsAcceptedForced c.args.mode t crash (set_of ms) f) c.deref.ensures.value (c.if-not-is_accepted.ensures.0 refl)) refl

pub is_accepted_ending-requires-clause-offered : goal.is_accepted_ending-requires-clause-offered
is_accepted_ending-requires-clause-offered c = λ first. subst (λ t. AreOffered t (crash_of first c.args.found.now) (length c.args.found.now) 0 c.args.facts.now.offered.firsts.items c.args.facts.now.offered.nexts.items) (sym c.events-2.ensures.events) (c.requires.facts.offered first)

pub returns-then-is_accepted_ending : goal.returns-then-is_accepted_ending
returns-then-is_accepted_ending c =
    let crash = crash_of c.args.first.now c.args.found.now in
    let one = subst (λ t. HasAcceptedEnding t crash (set_of c.deref-2.result.now) c.ending-ending.result) c.events-2.ensures.events (c.if-is_accepted_ending.ensures.0 refl) in
    let two = subst (λ ms. HasAcceptedEnding c.args.trace.now.events crash (set_of ms) c.ending-ending.result) c.deref-2.ensures.value one in
    let all : c.loop-k.k ≡ length c.args.certificate.now.forced = omega (arith, c.loop-k-test.false, c.loop-k.auto.k-end, ap length c.forced-lines.ensures) in
    accepted_all c.args.mode c.args.trace.now.events crash c.args.certificate.now c.loop-k.k c.loop-k.needed.items c.loop-k.invariant all (subst (HasAcceptedEnding c.args.trace.now.events crash (set_of c.loop-k.needed.items)) c.ending-ending.ensures two)

pub returns : goal.returns
returns c =
    let t = c.args.trace.now.events in
    let crash = crash_of c.args.first.now c.args.found.now in
    let cert = c.args.certificate.now in
    let all : c.loop-k.k ≡ length cert.forced = omega (arith, c.loop-k-test.false, c.loop-k.auto.k-end, ap length c.forced-lines.ensures) in
    subst (λ xs. IsFirstRejected c.args.mode t crash cert (length xs + 1)) (sym c.forced-lines.ensures)
    (rejected_end c.args.mode t crash cert c.loop-k.k c.loop-k.needed.items c.loop-k.invariant all (λ h.
    let one = subst (HasAcceptedEnding t crash (set_of c.loop-k.needed.items)) (sym c.ending-ending.ensures) h in
    let two = subst (λ ms. HasAcceptedEnding t crash (set_of ms) c.ending-ending.result) (sym c.deref-2.ensures.value) one in
    false≢true (c.if-is_accepted_ending.ensures.1 (subst (λ u. HasAcceptedEnding u crash (set_of c.deref-2.result.now) c.ending-ending.result) (sym c.events-2.ensures.events) two))))
