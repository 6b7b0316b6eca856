use Rattle.std.proofs.Common.{◌≡◌, ◌<◌, true, [], length, sym, ap, ◌∙◌, arith}
use Rattle.std.specs.Prelude.{not, slice_index, slice_index_or}
use Rattle.std.proofs.lemmas.Bool.{eqb-true, eq-eqb, false≢true}
use Rattle.std.proofs.lemmas.List.{get_or_read}
use Rattle.std.proofs.lemmas.Option.{slice_get-get_or}
use Rattle.strand_base.specs.Places.{persistent_place}
use Rattle.strand_events.specs.declared.event.Event.{Event}
use Rattle.strand_events.specs.declared.event.Event.TheVariants.{Load}
use Rattle.strand_events.specs.Trace.{is_persist, word_of}
use Rattle.strand_events.specs.Order.{set_of}
use Rattle.strand_judge.proofs.Least.Marks.{mark_within}
use Rattle.strand_refute.proofs.Checks.Tests.{after_yes, after_parts, place_within}
use Rattle.strand_refute.proofs.endings.is_never_made_after.Goals as goal

pub bounds-found-persistent_place : goal.bounds-found-persistent_place
bounds-found-persistent_place c =
    let t = c.args.events.now in
    let need : set_of c.args.needed.now c.args.last ≡ true = sym c.if-not-is_needed.ensures in
    let lt : c.args.last < length t = omega (arith, mark_within c.args.needed.now c.args.last need, c.requires.needed) in
    let e : Event = slice_index_or t c.args.last (Load 0 0) in
    let on : is_persist e ≡ true = sym c.if-not-is_persist.ensures in
    let place_is : c.persistent_place.result ≡ persistent_place (word_of e) = c.persistent_place.ensures ∙ ap persistent_place (sym c.if-word.false ∙ c.word.ensures) in
    omega (arith, place_is, place_within t c.args.found.now c.requires.within c.args.last e (slice_get-get_or t c.args.last (Load 0 0) lt) on)

pub index-requires : goal.index-requires
index-requires c =
    let need : set_of c.args.needed.now c.args.last ≡ true = sym c.if-not-is_needed.ensures in
    omega (arith, mark_within c.args.needed.now c.args.last need, c.requires.needed, (c.requires.offered []).long_nexts, c.args.offered.now.nexts.ok.0)

pub returns-then-value-found : goal.returns-then-value-found
returns-then-value-found c = λ first.
    let t = c.args.events.now in
    let found = c.args.found.now in
    let nexts = c.args.offered.now.nexts.items in
    let needed = set_of c.args.needed.now in
    let need : needed c.args.last ≡ true = sym c.if-not-is_needed.ensures in
    let lt : c.args.last < length t = omega (arith, mark_within c.args.needed.now c.args.last need, c.requires.needed) in
    let lt' : c.args.last < length nexts = omega (arith, lt, (c.requires.offered first).long_nexts) in
    let e : Event = slice_index_or t c.args.last (Load 0 0) in
    let at = slice_get-get_or t c.args.last (Load 0 0) lt in
    let on : is_persist e ≡ true = sym c.if-not-is_persist.ensures in
    let to : word_of e ≡ c.args.word = sym c.word.ensures ∙ c.if-word.false in
    let read : c.index.result.now ≡ slice_index nexts c.args.last = get_or_read nexts c.args.last c.index.result.now lt' c.index.ensures 0 in (
      λ h. after_yes t first found c.requires.within c.args.offered.now.firsts.items nexts (c.requires.offered first) needed c.args.word c.args.last e at need on to
          (λ same. c.if-value-found.true (c.value.ensures ∙ same ∙ ap (slice_index found) (sym c.persistent_place.ensures))) (sym read ∙ eqb-true c.index.result.now 0 h),
      λ n. eq-eqb c.index.result.now 0 (read ∙ (after_parts t first found c.requires.within c.args.offered.now.firsts.items nexts (c.requires.offered first) needed c.args.word c.args.last e at n).3),
    )

pub returns-else-value-found : goal.returns-else-value-found
returns-else-value-found c = λ first.
    let t = c.args.events.now in
    let found = c.args.found.now in
    let needed = set_of c.args.needed.now in
    let need : needed c.args.last ≡ true = sym c.if-not-is_needed.ensures in
    let lt : c.args.last < length t = omega (arith, mark_within c.args.needed.now c.args.last need, c.requires.needed) in
    let e : Event = slice_index_or t c.args.last (Load 0 0) in
    let at = slice_get-get_or t c.args.last (Load 0 0) lt in (
      λ h. absurd (false≢true (sym (ap not (eq-eqb _ _ c.if-value-found.false)) ∙ h)),
      λ n. absurd ((after_parts t first found c.requires.within c.args.offered.now.firsts.items c.args.offered.now.nexts.items (c.requires.offered first) needed c.args.word c.args.last e at n).2 (sym c.value.ensures ∙ c.if-value-found.false ∙ ap (slice_index found) c.persistent_place.ensures)),
    )
