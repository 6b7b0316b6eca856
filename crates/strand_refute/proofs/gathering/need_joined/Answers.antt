use Rattle.std.proofs.Common.{◌≡◌, ◌<◌, ◌∙◌, length, true, refl, arith, subst}
use Rattle.std.specs.Prelude.{slice_index, slice_index_or}
use Rattle.std.proofs.lemmas.Bool.{both_ways}
use Rattle.std.proofs.lemmas.Option.{slice_get-get_or}
use Rattle.strand_events.specs.declared.event.Event.{Event}
use Rattle.strand_events.specs.declared.event.Event.TheVariants.{Load}
use Rattle.strand_events.specs.Order.{set_of}
use Rattle.strand_events.specs.Trace.{is_persist, is_access, event_is}
use Rattle.strand_events.proofs.PersistOrder.Epochs.{weaker, persist_access}
use Rattle.strand_judge.specs.Gathered.{AreJoined}
use Rattle.strand_judge.proofs.Least.JoinedNumbers.{joined_at, joined_within, joined_persist}
use Rattle.strand_judge.proofs.Least.Seeds.{joined_more}
use Rattle.strand_refute.specs.declared.certificate.Reason.TheVariants.{Joined}
use Rattle.strand_refute.proofs.Refutes.Explained.{explained_more, targets_long}
use Rattle.strand_refute.proofs.gathering.need_joined.Goals as goal

pub bounds-persists-p : goal.bounds-persists-p
bounds-persists-p c = (joined_at c.args.events.now c.args.persists.now c.args.joined.now c.requires.persists c.requires.joined c.loop-p.p-index (omega (arith, c.loop-p-test.true))).0

pub bounds-events-x : goal.bounds-events-x
bounds-events-x c =
    let at = joined_at c.args.events.now c.args.persists.now c.args.joined.now c.requires.persists c.requires.joined c.loop-p.p-index (omega (arith, c.loop-p-test.true)) in
    joined_within c.args.events.now _ at.1

pub need-requires-clause-marks : goal.need-requires-clause-marks
need-requires-clause-marks c =
    let at = joined_at c.args.events.now c.args.persists.now c.args.joined.now c.requires.persists c.requires.joined c.loop-p.p-index (omega (arith, c.loop-p-test.true)) in
    omega (arith, joined_within c.args.events.now _ at.1, c.loop-p.invariant.joined.listed.long)

pub need-requires-clause-targets : goal.need-requires-clause-targets
need-requires-clause-targets c =
    let at = joined_at c.args.events.now c.args.persists.now c.args.joined.now c.requires.persists c.requires.joined c.loop-p.p-index (omega (arith, c.loop-p-test.true)) in
    omega (arith, joined_within c.args.events.now _ at.1, c.loop-p.invariant.targets)

pub loop-p-preserved : goal.loop-p-preserved
loop-p-preserved c =
    let t = c.args.events.now in
    let x = slice_index c.args.persists.now (slice_index c.args.joined.now c.loop-p.p-index) in
    let e : Event = slice_index_or t x (Load 0 0) in
    let at = joined_at t c.args.persists.now c.args.joined.now c.requires.persists c.requires.joined c.loop-p.p-index (omega (arith, c.loop-p-test.true)) in
    let within : x < length t = joined_within t x at.1 in
    let access : event_is is_access t x ≡ true = weaker is_persist is_access persist_access t x (joined_persist t x at.1) in
    let old = c.loop-p.work in
    record {
      joined = joined_more t c.args.persists.now c.args.joined.now c.requires.persists c.requires.joined c.loop-p.p-index (omega (arith, c.loop-p-test.true)) x refl old.marks.items old.list.items c.need.new.work.marks.items c.need.new.work.list.items c.loop-p.invariant.joined c.in_ok-need.ensures.marks c.in_ok-need.ensures.list;
      targets = targets_long (set_of old.marks.items x) e x x old.targets.items c.need.new.work.targets.items c.in_ok-need.ensures.targets ∙ c.loop-p.invariant.targets;
      explained = λ mode crash ex. explained_more mode t crash old.marks.items old.targets.items old.lines.items x c.loop-p.invariant.joined.listed.long within (c.loop-p.invariant.explained mode crash ex) e x Joined (slice_get-get_or t x (Load 0 0) within) c.need.new.work.marks.items c.need.new.work.targets.items c.need.new.work.lines.items c.in_ok-need.ensures.marks c.in_ok-need.ensures.targets c.in_ok-need.ensures.lines (λ is. at.1) (λ none. absurd (both_ways (event_is is_access t x) none access));
    }

pub returns : goal.returns
returns c = record {
  joined = subst (λ n. AreJoined c.args.events.now n c.args.persists.now c.args.joined.now c.loop-p.work.marks.items c.loop-p.work.list.items) (omega (arith, c.loop-p-test.false, c.loop-p.auto.p-index-end)) c.loop-p.invariant.joined;
  targets = c.loop-p.invariant.targets;
  explained = c.loop-p.invariant.explained;
}
