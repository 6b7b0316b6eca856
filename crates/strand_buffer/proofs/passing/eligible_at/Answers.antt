use Rattle.std.proofs.Common.{◌≡◌, ◌+◌, suc, ◌||◌, ◌∙◌, length, sym, ap, arith}
use Rattle.std.specs.Prelude.{slice_get, slice_index}
use Rattle.std.proofs.lemmas.List.{length-set}
use Rattle.strand_base.specs.Counting.{count_below}
use Rattle.strand_base.proofs.BelowBound.{count_yes, count_no}
use Rattle.strand_buffer.specs.Entries.{is_eligible, eligible_places, word_waits}
use Rattle.strand_base.proofs.ListBelow.{list_at, list_none}
use Rattle.strand_buffer.proofs.WordLinks.{waits_up_to, waits_linked, waits_more, known_more}
use Rattle.strand_buffer.proofs.passing.eligible_at.Goals as goal
use Rattle.strand_buffer.proofs.passing.eligible_at.Goals.{then-is_eligible+else-passed-j, else-is_eligible, then-is_buffered, else-is_buffered}

pub is_eligible-requires-clause-blocked : goal.is_eligible-requires-clause-blocked
is_eligible-requires-clause-blocked c =
    c.waits_before-blocked.ensures
    ∙ waits_linked c.args.entries.now c.loop-i.i (slice_index c.args.links.now c.loop-i.i) (c.requires.linked.each c.loop-i.i c.loop-i-test.true) c.loop-i.waits c.loop-i.invariant.known

pub returns-then-passed-j-clause-place : goal.returns-then-passed-j-clause-place
returns-then-passed-j-clause-place c =
    let at = list_at (length c.args.entries.now) (is_eligible c.args.durable.now c.args.entries.now) c.loop-i.i c.loop-i-test.true (sym c.is_eligible.ensures ∙ c.if-is_eligible.true) in
    sym (ap (slice_get (eligible_places c.args.durable.now c.args.entries.now)) (sym c.if-passed-j.true ∙ c.loop-i.invariant.counted) ∙ at)

pub loop-i-preserved : goal.loop-i-preserved
loop-i-preserved c =
    let entries = c.args.entries.now in
    let i = c.loop-i.i in
    let blocked : c.waits_before-blocked.result ≡ word_waits entries i =
    c.waits_before-blocked.ensures ∙ waits_linked entries i (slice_index c.args.links.now i) (c.requires.linked.each i c.loop-i-test.true) c.loop-i.waits c.loop-i.invariant.known in
    let waiting : c.if-is_buffered.waits ≡ waits_up_to entries i =
    elim c.if-is_buffered.branch [
      | then-is_buffered w ↦ w.waits-is ∙ w.if-is_buffered.true ∙ ap (λ b. b || word_waits entries i) (sym w.if-is_buffered.true ∙ c.is_buffered.ensures) ∙ waits_more entries i
      | else-is_buffered w ↦ w.waits-is ∙ blocked ∙ ap (λ b. b || word_waits entries i) (sym w.if-is_buffered.false ∙ c.is_buffered.ensures) ∙ waits_more entries i
    ] in
    let one : i + 1 ≡ suc i = omega arith in
    let counted : c.if-is_eligible.passed ≡ count_below (i + 1) (is_eligible c.args.durable.now entries) =
    elim c.if-is_eligible.branch [
      | then-is_eligible+else-passed-j w ↦ omega (arith, w.passed-is, c.loop-i.invariant.counted, count_yes i (is_eligible c.args.durable.now entries) (sym c.is_eligible.ensures ∙ w.if-is_eligible.true), ap (λ n. count_below n (is_eligible c.args.durable.now entries)) one)
      | else-is_eligible w ↦ omega (arith, w.passed-is, c.loop-i.invariant.counted, count_no i (is_eligible c.args.durable.now entries) (sym c.is_eligible.ensures ∙ w.if-is_eligible.false), ap (λ n. count_below n (is_eligible c.args.durable.now entries)) one)
    ] in
    record {
      counted = counted;
      small = elim c.if-is_eligible.branch [ then-is_eligible+else-passed-j w ↦ omega (arith, w.passed-is) | else-is_eligible w ↦ omega (arith, w.passed-is) ];
      before = elim c.if-is_eligible.branch [ then-is_eligible+else-passed-j w ↦ grind (arith, w.passed-is, w.if-passed-j.false) | else-is_eligible w ↦ omega (arith, w.passed-is) ];
      all = length-set c.loop-i.waits i c.if-is_buffered.waits ∙ c.loop-i.invariant.all;
      known = known_more entries c.loop-i.waits i c.if-is_buffered.waits (omega (arith, c.loop-i-test.true, c.requires.few, c.loop-i.invariant.all)) waiting c.loop-i.invariant.known;
    }

pub returns-clause-place : goal.returns-clause-place
returns-clause-place c =
    let all : c.loop-i.i ≡ length c.args.entries.now = omega (arith, c.loop-i-test.false, c.loop-i.auto.i-end) in
    sym (list_none (length c.args.entries.now) (is_eligible c.args.durable.now c.args.entries.now) c.args.j (omega (arith, c.loop-i.invariant.counted, c.loop-i.invariant.before, ap (λ n. count_below n (is_eligible c.args.durable.now c.args.entries.now)) all)))
