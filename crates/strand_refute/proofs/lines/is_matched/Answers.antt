use Rattle.std.proofs.Common.{◌≡◌, ◌↔◌, true, false, refl, sym, subst}
use Rattle.std.proofs.lemmas.Bool.{both_ways}
use Rattle.strand_events.specs.Order.{set_of}
use Rattle.strand_events.specs.Trace.{word_at}
use Rattle.strand_judge.specs.Words.{crash_of}
use Rattle.strand_refute.specs.Accepted.{Holds}
use Rattle.strand_refute.specs.declared.certificate.Reason.TheVariants.{Match}
use Rattle.strand_refute.proofs.Checks.Matches.{made_forced, forced_made, made_asks, asks_made}
use Rattle.strand_refute.proofs.lines.is_matched.Goals as goal

pub returns-in-None : goal.returns-in-None
returns-in-None c = λ mode.
    let t = c.args.events.now in
    let crash = crash_of c.args.first.now c.args.found.now in
    let law = c.is_forced.ensures (word_at t c.args.e) refl in
    subst (λ o. (c.is_forced.result ≡ true) ↔ Holds mode t crash (set_of c.args.needed.now) c.args.e (Match o)) (sym c.in-None.is)
    (λ h. forced_made t crash c.args.e (law.0 h), λ h. law.1 (made_forced t crash c.args.e h))

pub returns-then-is_needed : goal.returns-then-is_needed
returns-then-is_needed c = λ mode.
    let t = c.args.events.now in
    let crash = crash_of c.args.first.now c.args.found.now in
    let needed = set_of c.args.needed.now in
    let law = c.asks_for.ensures c.args.first.now in
    let need : needed c.in-Some.after ≡ true = sym c.if-is_needed.ensures in
    subst (λ o. (c.asks_for.result ≡ true) ↔ Holds mode t crash needed c.args.e (Match o)) (sym c.in-Some.is)
    (λ h. asks_made t crash needed c.args.e c.in-Some.after need (law.0 h), λ h. law.1 (made_asks t crash needed c.args.e c.in-Some.after h))

pub returns-else-is_needed : goal.returns-else-is_needed
returns-else-is_needed c = λ mode.
    let out : set_of c.args.needed.now c.in-Some.after ≡ false = sym c.if-is_needed.ensures in
    subst (λ o. (c.is_needed.result ≡ true) ↔ Holds mode c.args.events.now (crash_of c.args.first.now c.args.found.now) (set_of c.args.needed.now) c.args.e (Match o)) (sym c.in-Some.is)
    (λ h. absurd (both_ways c.is_needed.result c.if-is_needed.false h), λ h. absurd (both_ways (set_of c.args.needed.now c.in-Some.after) out h.needed_is))
