use Rattle.std.proofs.Common.{◌≡◌, ◌↔◌, true, [], sym, subst}
use Rattle.strand_events.specs.Order.{set_of}
use Rattle.strand_judge.specs.Words.{crash_of}
use Rattle.strand_refute.specs.Accepted.{Ends}
use Rattle.strand_refute.proofs.endings.ends.Goals as goal

pub is_never_made-requires-clause-long : goal.is_never_made-requires-clause-long
is_never_made-requires-clause-long c = (c.requires.offered []).long

pub returns-in-None : goal.returns-in-None
returns-in-None c = subst (λ o. (c.is_never_made.result ≡ true) ↔ Ends c.args.events.now (crash_of c.args.first.now c.args.found.now) (set_of c.args.needed.now) c.args.ending.word o) (sym c.in-None.is) (c.is_never_made.ensures c.args.events.now (c.requires.offered c.args.first.now))

pub returns-in-Some : goal.returns-in-Some
returns-in-Some c = subst (λ o. (c.is_never_made_after.result ≡ true) ↔ Ends c.args.events.now (crash_of c.args.first.now c.args.found.now) (set_of c.args.needed.now) c.args.ending.word o) (sym c.in-Some.is) (c.is_never_made_after.ensures c.args.first.now)
