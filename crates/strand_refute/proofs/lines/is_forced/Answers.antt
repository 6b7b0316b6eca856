use Rattle.std.proofs.Common.{◌≡◌, ◌+◌, ◌<◌, true, length, sym, ap, ◌∙◌, arith}
use Rattle.std.specs.Prelude.{not, slice_index, slice_index_or}
use Rattle.std.proofs.lemmas.Bool.{eqb-true, eq-eqb, false≢true}
use Rattle.std.proofs.lemmas.List.{get_or_read}
use Rattle.std.proofs.lemmas.Option.{slice_get-get_or}
use Rattle.strand_base.specs.Places.{persistent_place}
use Rattle.strand_events.specs.declared.event.Event.{Event}
use Rattle.strand_events.specs.declared.event.Event.TheVariants.{Load}
use Rattle.strand_events.specs.Trace.{is_persist, word_of}
use Rattle.strand_refute.proofs.Checks.Tests.{forced_yes, place_within}
use Rattle.strand_refute.proofs.lines.is_forced.Goals as goal

pub index-requires : goal.index-requires
index-requires c =
    let t = c.args.events.now in
    let e : Event = slice_index_or t c.args.q (Load 0 0) in
    let on : is_persist e ≡ true = sym c.if-not-is_persist.ensures in
    let place_is : c.persistent_place-place.result ≡ persistent_place (word_of e) = c.persistent_place-place.ensures ∙ ap persistent_place c.word.ensures in
    omega (arith, place_is, place_within t c.args.found.now c.requires.within c.args.q e (slice_get-get_or t c.args.q (Load 0 0) c.requires.q) on, (c.requires.offered c.args.first.now).long, c.args.offered.now.firsts.ok.0)

pub returns-then-first-place : goal.returns-then-first-place
returns-then-first-place c = λ word is.
    let t = c.args.events.now in
    let first = c.args.first.now in
    let found = c.args.found.now in
    let firsts = c.args.offered.now.firsts.items in
    let e : Event = slice_index_or t c.args.q (Load 0 0) in
    let on : is_persist e ≡ true = sym c.if-not-is_persist.ensures in
    let at = slice_get-get_or t c.args.q (Load 0 0) c.requires.q in
    let place_is : c.persistent_place-place.result ≡ persistent_place (word_of e) = c.persistent_place-place.ensures ∙ ap persistent_place c.word.ensures in
    let lt : c.persistent_place-place.result < length firsts = omega (arith, place_is, place_within t found c.requires.within c.args.q e at on, (c.requires.offered first).long) in
    let read : c.index.result.now ≡ slice_index firsts (persistent_place (word_of e)) = get_or_read firsts c.persistent_place-place.result c.index.result.now lt c.index.ensures 0 ∙ ap (slice_index firsts) place_is in
    let law = forced_yes t first found c.requires.within firsts c.args.offered.now.nexts.items (c.requires.offered first) c.args.q e at on word is in (
      λ h. law.0 (
        λ same. c.if-first-place.true (ap (slice_index first) place_is ∙ same ∙ ap (slice_index found) (sym place_is)),
        sym read ∙ eqb-true c.index.result.now (c.args.q + 1) h,
      ),
      λ f. eq-eqb c.index.result.now (c.args.q + 1) (read ∙ (law.1 f).1),
    )

pub returns-else-first-place : goal.returns-else-first-place
returns-else-first-place c = λ word is.
    let t = c.args.events.now in
    let first = c.args.first.now in
    let found = c.args.found.now in
    let e : Event = slice_index_or t c.args.q (Load 0 0) in
    let on : is_persist e ≡ true = sym c.if-not-is_persist.ensures in
    let at = slice_get-get_or t c.args.q (Load 0 0) c.requires.q in
    let place_is : c.persistent_place-place.result ≡ persistent_place (word_of e) = c.persistent_place-place.ensures ∙ ap persistent_place c.word.ensures in
    let law = forced_yes t first found c.requires.within c.args.offered.now.firsts.items c.args.offered.now.nexts.items (c.requires.offered first) c.args.q e at on word is in (
      λ h. absurd (false≢true (sym (ap not (eq-eqb _ _ c.if-first-place.false)) ∙ h)),
      λ f. absurd ((law.1 f).0 (ap (slice_index first) (sym place_is) ∙ c.if-first-place.false ∙ ap (slice_index found) place_is)),
    )
