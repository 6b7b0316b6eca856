use Rattle.std.proofs.Common.{◌≡◌, ◌↔◌, true, length, sym, subst}
use Rattle.strand_events.specs.Order.{set_of}
use Rattle.strand_judge.specs.Words.{crash_of}
use Rattle.strand_judge.specs.Offered.{AreOffered}
use Rattle.strand_refute.specs.Accepted.{Holds}
use Rattle.strand_refute.specs.declared.certificate.Reason.TheVariants.{Match}
use Rattle.strand_refute.proofs.lines.holds.Goals as goal

pub is_matched-requires-clause-offered : goal.is_matched-requires-clause-offered
is_matched-requires-clause-offered c = λ first. subst (λ t. AreOffered t (crash_of first c.args.found.now) (length c.args.found.now) 0 c.args.facts.now.offered.firsts.items c.args.facts.now.offered.nexts.items) (sym c.events-events.ensures.events) (c.requires.facts.offered first)

pub returns-in-Match : goal.returns-in-Match
returns-in-Match c =
    let crash = crash_of c.args.first.now c.args.found.now in
    let law = subst (λ t. (c.is_matched.result ≡ true) ↔ Holds c.args.mode t crash (set_of c.args.needed.now) c.args.line.event (Match c.in-Match.after)) c.events-events.ensures.events (c.is_matched.ensures c.args.mode) in
    subst (λ r. (c.is_matched.result ≡ true) ↔ Holds c.args.mode c.args.trace.now.events crash (set_of c.args.needed.now) c.args.line.event r) (sym c.in-Match.is) law
