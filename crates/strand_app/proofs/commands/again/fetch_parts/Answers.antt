use Rattle.std.proofs.Common.{◌≡◌, ◌∙◌, ◌<◌, List, ℕ, length, map, arith, refl, sym, ap, subst}
use Rattle.std.specs.Prelude.{Ok, Err, string_bytes}
use Rattle.std.specs.declared.result.Result.{Result}
use Rattle.std.proofs.lemmas.List.{length-drop, length-map}
use Rattle.std.proofs.lemmas.Result.{err_from_is_err_and}
use Rattle.strand_app.specs.declared.commands.again.Cut.{Cut}
use Rattle.strand_app.specs.declared.fetching.OpenFault.{OpenFault}
use Rattle.strand_inputs.specs.declared.step.Step.{Step}
use Rattle.strand_app.specs.AgainOpening.{ReadsPartsTo}
use Rattle.strand_app.specs.Contents.{schedule_in}
use Rattle.strand_app.specs.Fetching.{FetchesFile}
use Rattle.strand_app.proofs.AgainReads.{Reading, behind_two, parts_more, reading_all, reading_fails, reading_more, reading_none, reading_stops, two_words}
use Rattle.strand_app.proofs.commands.again.fetch_parts.Goals as goal

pub loop-rest-init : goal.loop-rest-init
loop-rest-init g c =
    (omega arith, rw c.new.ensures.items (λ k d lt. absurd (omega (arith, lt))), λ entry opened. rw c.new.ensures.items (reading_none c.args.words c.args.config.now c.args.image.now entry _ opened))

pub returns-in_err-schedule-clause-fetches : goal.returns-in_err-schedule-clause-fetches
returns-in_err-schedule-clause-fetches g c =
    λ entry opened.
    let e = err_from_is_err_and c.from_residual.result c.from_residual.ensures.1 in
    let words = two_words c.loop-rest.rest.now c.name-item.result c.stop-item.result c.name-item.is c.stop-item.is c.in-len2-up.len_at_least in
    let between = g.F.Files.seen c.loop-rest.files in
    let after = g.F.Files.seen c.fetch_schedule.new.files in
    let reading = subst (λ (w : List (List ℕ)). Reading c.args.words c.args.config.now c.args.image.now entry between w c.loop-rest.file c.loop-rest.cut.parts.items c.loop-rest.cut.past) (sym words) (c.loop-rest.invariant.2 entry opened) in
    subst (λ (r : Result Cut OpenFault). ReadsPartsTo c.args.words c.args.config.now c.args.image.now entry after r) (sym (e.1 ∙ ap Err e.2))
    (reading_fails c.args.words c.args.config.now c.args.image.now entry between after _ _ _ c.loop-rest.file _ _ reading c.in_err-schedule.field-0.0 (subst (λ (name : List ℕ). FetchesFile {W = List Step} c.loop-rest.file (schedule_in c.args.config.now c.args.image.now) (λ steps. steps) name between after (Err c.in_err-schedule.field-0.0)) c.as_str.ensures.value c.in_err-schedule.ensures.says))

pub returns-in_err-cut_off_next-clause-fetches : goal.returns-in_err-cut_off_next-clause-fetches
returns-in_err-cut_off_next-clause-fetches g c =
    λ entry opened.
    let e = err_from_is_err_and c.from_residual-in_err-cut_off_next.result c.from_residual-in_err-cut_off_next.ensures.1 in
    let words = two_words c.loop-rest.rest.now c.name-item.result c.stop-item.result c.name-item.is c.stop-item.is c.in-len2-up.len_at_least in
    let between = g.F.Files.seen c.loop-rest.files in
    let after = g.F.Files.seen c.fetch_schedule.new.files in
    let reading = subst (λ (w : List (List ℕ)). Reading c.args.words c.args.config.now c.args.image.now entry between w c.loop-rest.file c.loop-rest.cut.parts.items c.loop-rest.cut.past) (sym words) (c.loop-rest.invariant.2 entry opened) in
    subst (λ (r : Result Cut OpenFault). ReadsPartsTo c.args.words c.args.config.now c.args.image.now entry after r) (sym (e.1 ∙ ap Err e.2))
    (reading_stops c.args.words c.args.config.now c.args.image.now entry between after _ _ _ c.loop-rest.file _ _ reading c.in_ok-schedule.ensures.says.0)

pub loop-rest-preserved : goal.loop-rest-preserved
loop-rest-preserved g c =
    let behind = behind_two c.loop-rest.rest.now in
    let short = length-drop 2 c.loop-rest.rest.now in
    let long = ap length behind in (
      omega (arith, short, long, c.in-len2-up.len_at_least, c.loop-rest.invariant.0),
      rw c.in_ok-cut_off_next.ensures.parts (parts_more c.args.config.now c.args.image.now c.loop-rest.cut.parts.items _ _ c.loop-rest.invariant.1 c.in_ok-schedule.ensures.below),
      λ entry opened.
          let words = two_words c.loop-rest.rest.now c.name-item.result c.stop-item.result c.name-item.is c.stop-item.is c.in-len2-up.len_at_least in
          let between = g.F.Files.seen c.loop-rest.files in
          let after = g.F.Files.seen c.fetch_schedule.new.files in
          let reading = subst (λ (w : List (List ℕ)). Reading c.args.words c.args.config.now c.args.image.now entry between w c.loop-rest.file c.loop-rest.cut.parts.items c.loop-rest.cut.past) (sym words) (c.loop-rest.invariant.2 entry opened) in
          let fetches = subst (λ (name : List ℕ). FetchesFile c.loop-rest.file (schedule_in c.args.config.now c.args.image.now) (λ (steps : List Step). steps) name between after (Ok c.in_ok-schedule.schedule)) c.as_str.ensures.value c.in_ok-schedule.ensures.says in
          let more = reading_more c.args.words c.args.config.now c.args.image.now entry between after _ _ _ c.loop-rest.file _ _ reading c.in_ok-schedule.schedule fetches in
          rw (behind, c.in_ok-cut_off_next.ensures.parts, c.in_ok-cut_off_next.ensures.past, c.unwrap_or-stop.ensures, c.read_stop.ensures, c.as_str-in-len2-up.ensures.value) more,
    )

pub returns-clause-fetches : goal.returns-clause-fetches
returns-clause-fetches g c =
    λ entry opened.
    let few : length (map string_bytes c.loop-rest.rest.now) < 2 = omega (arith, length-map c.loop-rest.rest.now string_bytes, c.in_default.len_below) in
    reading_all c.args.words c.args.config.now c.args.image.now entry _ _ _ c.loop-rest.cut (c.loop-rest.invariant.2 entry opened) few
