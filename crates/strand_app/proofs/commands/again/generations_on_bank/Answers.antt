use Rattle.std.proofs.Common.{◌≡◌, ◌∙◌, ◌<◌, ap, length, map, sym, refl, arith}
use Rattle.std.proofs.Math.ListN.{get_or-map}
use Rattle.std.proofs.lemmas.List.{length-map}
use Rattle.std.proofs.lemmas.Result.{err_from_is_err_and}
use Rattle.strand_modules.specs.Seen.{bank_seen}
use Rattle.strand_modules.proofs.FrontWords.{keeps_trans}
use Rattle.strand_again.proofs.RunSteps.{stopped_unread}
use Rattle.strand_app.specs.AgainOnBank.{parts_of, steps_of}
use Rattle.strand_app.proofs.Going.{answers, ends_all, ends_last, ends_unfilled, ends_unread, going_more, going_none, start_long, starts, stops_behind, stops_next, stops_unfilled}
use Rattle.strand_app.proofs.commands.again.generations_on_bank.Goals as goal

pub returns-in-Err-clause-made : goal.returns-in-Err-clause-made
returns-in-Err-clause-made g c =
    let parts = parts_of c.args.config.now c.args.image.now c.args.parts.now in
    let fills = rw (c.persistent.ensures.persistent, c.in-Err.field-0-is) at c.in-Err.ensures in
    answers parts _ _ _ c.fault_line.result c.fault_line.ensures (ends_unfilled parts _ _ _ fills) (stops_unfilled parts _ _ _ fills)

pub loop-i-init : goal.loop-i-init
loop-i-init g c =
    λ entry fills. rw c.new-text.ensures.items (going_none (parts_of c.args.config.now c.args.image.now c.args.parts.now) entry _ fills)

pub generation-requires-clause-words : goal.generation-requires-clause-words
generation-requires-clause-words g c =
    let parts = parts_of c.args.config.now c.args.image.now c.args.parts.now in
    let fills = rw c.persistent.ensures.persistent at c.in_default.ensures in
    let going = c.loop-i.invariant _ fills in
    let long = ap length c.words_before-initial.ensures ∙ start_long parts _ _ (bank_seen (λ z. (goal.PmModule-dyn g z).holds z.1) c.loop-i.bank) _ _ _ going in
    long

pub generation-requires-clause-room : goal.generation-requires-clause-room
generation-requires-clause-room g c =
    let parts = parts_of c.args.config.now c.args.image.now c.args.parts.now in
    let fills = rw c.persistent.ensures.persistent at c.in_default.ensures in
    let going = c.loop-i.invariant _ fills in
    let long = ap length c.words_before-initial.ensures ∙ start_long parts _ _ (bank_seen (λ z. (goal.PmModule-dyn g z).holds z.1) c.loop-i.bank) _ _ _ going in
    omega (arith, long, c.requires.room, going.gone.kept.size)

pub returns-in_err-told-in-Ok-clause-made : goal.returns-in_err-told-in-Ok-clause-made
returns-in_err-told-in-Ok-clause-made g c =
    let parts = parts_of c.args.config.now c.args.image.now c.args.parts.now in
    let fills = rw c.persistent.ensures.persistent at c.in_default.ensures in
    let going = c.loop-i.invariant _ fills in
    let step = steps_of c.index-parts-i.result in
    let is = ap steps_of c.index-parts-i.is ∙ sym (get_or-map steps_of c.args.parts.now c.loop-i.i c.index-parts-i.result) in
    let lt : c.loop-i.i < length parts.steps = omega (arith, c.loop-i-test.true, length-map c.args.parts.now steps_of) in
    let p = err_from_is_err_and c.from_residual.result c.from_residual.ensures.1 in
    rw p.1 (stops_behind parts _ _ _ c.loop-i.i c.loop-i.held c.loop-i.text.items going step step lt is c.in-Ok.outcome (rw c.words_before-initial.ensures at c.in-Ok.ensures.ran) (rw c.words_before-initial.ensures at c.in-Ok.ensures.least) c.in-Ok.ensures.kept)

pub returns-in_err-told-in-Ok-clause-kept : goal.returns-in_err-told-in-Ok-clause-kept
returns-in_err-told-in-Ok-clause-kept g c =
    let fills = rw c.persistent.ensures.persistent at c.in_default.ensures in
    let going = c.loop-i.invariant _ fills in
    keeps_trans _ _ _ going.gone.kept c.in-Ok.ensures.kept

pub returns-in_default-end : goal.returns-in_default-end
returns-in_default-end g c =
    let parts = parts_of c.args.config.now c.args.image.now c.args.parts.now in
    let fills = rw c.persistent.ensures.persistent at c.in_default.ensures in
    let going = c.loop-i.invariant _ fills in
    let step = steps_of c.index-parts-i.result in
    let is = ap steps_of c.index-parts-i.is ∙ sym (get_or-map steps_of c.args.parts.now c.loop-i.i c.index-parts-i.result) in
    let lt : c.loop-i.i < length parts.steps = omega (arith, c.loop-i-test.true, length-map c.args.parts.now steps_of) in
    record {
      made = ends_last parts _ _ _ c.loop-i.i c.loop-i.held c.loop-i.text.items going step step lt is c.in-Ok.outcome (rw c.words_before-initial.ensures at c.in-Ok.ensures.ran) (rw c.words_before-initial.ensures at c.in-Ok.ensures.least) c.in-Ok.ensures.kept
          _ c.in_ok-told-in-Ok.told (rw c.mode_of-mode.ensures at c.in_ok-told-in-Ok.ensures) c.in_default-end.not-Ok (record { status = c.in_ok-told-in-Ok.told.end; text = c.tell.new.into }) refl refl;
      kept = keeps_trans _ _ _ going.gone.kept c.in-Ok.ensures.kept;
    }

pub returns-in-Err-Read-clause-made : goal.returns-in-Err-Read-clause-made
returns-in-Err-Read-clause-made g c =
    let parts = parts_of c.args.config.now c.args.image.now c.args.parts.now in
    let fills = rw c.persistent.ensures.persistent at c.in_default.ensures in
    let going = c.loop-i.invariant _ fills in
    let step = steps_of c.index-parts-i.result in
    let is = ap steps_of c.index-parts-i.is ∙ sym (get_or-map steps_of c.args.parts.now c.loop-i.i c.index-parts-i.result) in
    let lt : c.loop-i.i < length parts.steps = omega (arith, c.loop-i-test.true, length-map c.args.parts.now steps_of) in
    let failed = rw (c.in-Err-Read.field-0-is, c.words_before-initial.ensures) at c.in-Err-Read.ensures in
    answers parts _ _ _ c.fault_line-in-Err-Read.result (rw c.in-Err-Read.field-0-is at c.fault_line-in-Err-Read.ensures)
    (ends_unread parts _ _ _ c.loop-i.i c.loop-i.held c.loop-i.text.items going step step lt is _ failed.fault failed.kept)
    (stops_next parts _ _ _ c.loop-i.i c.loop-i.held c.loop-i.text.items going step step lt is (stopped_unread _ _ _ _ failed.fault))

pub returns-in-Err-Read-clause-kept : goal.returns-in-Err-Read-clause-kept
returns-in-Err-Read-clause-kept g c =
    let fills = rw c.persistent.ensures.persistent at c.in_default.ensures in
    let going = c.loop-i.invariant _ fills in
    keeps_trans _ _ _ going.gone.kept c.in-Err-Read.ensures.kept

pub returns-in-Err-OutOfMemory-clause-made : goal.returns-in-Err-OutOfMemory-clause-made
returns-in-Err-OutOfMemory-clause-made g c =
    let parts = parts_of c.args.config.now c.args.image.now c.args.parts.now in
    let fills = rw c.persistent.ensures.persistent at c.in_default.ensures in
    let going = c.loop-i.invariant _ fills in
    let step = steps_of c.index-parts-i.result in
    let is = ap steps_of c.index-parts-i.is ∙ sym (get_or-map steps_of c.args.parts.now c.loop-i.i c.index-parts-i.result) in
    let lt : c.loop-i.i < length parts.steps = omega (arith, c.loop-i-test.true, length-map c.args.parts.now steps_of) in
    let failed = rw (c.in-Err-OutOfMemory.field-0-is, c.words_before-initial.ensures) at c.in-Err-OutOfMemory.ensures in
    stops_next parts _ _ _ c.loop-i.i c.loop-i.held c.loop-i.text.items going step step lt is failed.fault

pub returns-in-Err-OutOfMemory-clause-kept : goal.returns-in-Err-OutOfMemory-clause-kept
returns-in-Err-OutOfMemory-clause-kept g c =
    let fills = rw c.persistent.ensures.persistent at c.in_default.ensures in
    let going = c.loop-i.invariant _ fills in
    keeps_trans _ _ _ going.gone.kept c.in-Err-OutOfMemory.ensures.kept

pub loop-i-preserved : goal.loop-i-preserved
loop-i-preserved g c =
    λ entry fills.
    let parts = parts_of c.args.config.now c.args.image.now c.args.parts.now in
    let going = c.loop-i.invariant entry fills in
    let step = steps_of c.index-parts-i.result in
    let is = ap steps_of c.index-parts-i.is ∙ sym (get_or-map steps_of c.args.parts.now c.loop-i.i c.index-parts-i.result) in
    let lt : c.loop-i.i < length parts.steps = omega (arith, c.loop-i-test.true, length-map c.args.parts.now steps_of) in
    going_more parts entry _ _ c.loop-i.i c.loop-i.held c.loop-i.text.items going step step lt is c.in-Ok.outcome (rw c.words_before-initial.ensures at c.in-Ok.ensures.ran) (rw c.words_before-initial.ensures at c.in-Ok.ensures.least) c.in-Ok.ensures.kept _ c.in_ok-told-in-Ok.told (rw c.mode_of-mode.ensures at c.in_ok-told-in-Ok.ensures) c.in-Ok-end.is

pub returns-clause-made : goal.returns-clause-made
returns-clause-made g c =
    let parts = parts_of c.args.config.now c.args.image.now c.args.parts.now in
    let fills = rw c.persistent.ensures.persistent at c.in_default.ensures in
    let going = c.loop-i.invariant _ fills in
    ends_all parts _ _ (bank_seen (λ z. (goal.PmModule-dyn g z).holds z.1) c.loop-i.bank) c.loop-i.i c.loop-i.held c.loop-i.text.items going (omega (arith, c.loop-i-test.false, c.loop-i.auto.i-end, length-map c.args.parts.now steps_of)) _ refl refl

pub generation-requires-clause-starts : goal.generation-requires-clause-starts
generation-requires-clause-starts g c =
    let parts = parts_of c.args.config.now c.args.image.now c.args.parts.now in
    let fills = rw c.persistent.ensures.persistent at c.in_default.ensures in
    let going = c.loop-i.invariant _ fills in
    rw c.words_before-initial.ensures (starts parts _ _ (bank_seen (λ z. (goal.PmModule-dyn g z).holds z.1) c.loop-i.bank) _ _ _ going)

pub returns-clause-kept : goal.returns-clause-kept
returns-clause-kept g c =
    let fills = rw c.persistent.ensures.persistent at c.in_default.ensures in
    let going = c.loop-i.invariant _ fills in
    going.gone.kept
