use Rattle.std.proofs.Common.{◌≡◌, ◌<◌, ◌-◌, suc, length, arith}
use Rattle.std.specs.Prelude.{slice_index_or}
use Rattle.std.proofs.lemmas.Bool.{both_ways}
use Rattle.std.proofs.lemmas.Option.{slice_get-get_or}
use Rattle.strand_events.specs.declared.event.Event.{Event}
use Rattle.strand_events.specs.declared.event.Event.TheVariants.{Load}
use Rattle.strand_events.specs.Trace.{is_access, event_is}
use Rattle.strand_judge.proofs.Least.Marks.{marked_one}
use Rattle.strand_refute.proofs.Refutes.Explained.{explained_more}
use Rattle.strand_refute.proofs.gathering.need_since.Goals as goal

pub returns-clause-more : goal.returns-clause-more
returns-clause-more c = λ l. marked_one (length c.args.events.now) c.args.since (c.args.since - 1) c.args.work.now.marks.items c.args.work.now.list.items c.need.new.work.marks.items c.need.new.work.list.items (omega (arith, c.if-since-eq0.false)) (omega (arith, c.if-since-eq0.false, c.requires.within)) l c.in_ok-need.ensures.marks c.in_ok-need.ensures.list

pub returns-clause-explained : goal.returns-clause-explained
returns-clause-explained c = λ mode crash holds ex.
    let t = c.args.events.now in
    let x = c.args.since - 1 in
    let old = c.args.work.now in
    let within : x < length t = omega (arith, c.if-since-eq0.false, c.requires.within) in
    let is : c.args.since ≡ suc x = omega (arith, c.if-since-eq0.false) in
    let e : Event = slice_index_or t x (Load 0 0) in
    explained_more mode t crash old.marks.items old.targets.items old.lines.items x c.requires.marks within ex e x c.args.reason (slice_get-get_or t x (Load 0 0) within) c.need.new.work.marks.items c.need.new.work.targets.items c.need.new.work.lines.items c.in_ok-need.ensures.marks c.in_ok-need.ensures.targets c.in_ok-need.ensures.lines (λ access. (holds x is).1) (λ none. absurd (both_ways (event_is is_access t x) none (holds x is).0))
