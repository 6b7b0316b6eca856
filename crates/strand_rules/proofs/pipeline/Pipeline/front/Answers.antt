use Rattle.std.proofs.Common.{◌≡◌, ◌∙◌, length, sym, ap, arith}
use Rattle.std.specs.Prelude.{slice_get}
use Rattle.strand_base.specs.Counting.{count_below}
use Rattle.strand_events.specs.Trace.{core_event_is}
use Rattle.strand_rules.specs.Cycle.{items, is_item}
use Rattle.strand_base.proofs.ListBelow.{list_at, list_none}
use Rattle.strand_rules.proofs.pipeline.Pipeline.front.Goals as goal

pub returns-then-passed-place-clause-front : goal.returns-then-passed-place-clause-front
returns-then-passed-place-clause-front c =
    let m = c.args.self.now in
    let t = m.state.now.trace in
    let at = list_at (length t) (core_event_is (is_item m.config.mode) c.args.n t) c.loop-k.k (omega (arith, c.loop-k-test.true, ap length c.events-k-end.ensures.events)) (sym c.is_item_at.ensures ∙ c.if-is_item_at.true) in
    sym (ap (slice_get (items m.config.mode t c.args.n)) (sym c.gone-place.ensures ∙ sym c.if-passed-place.true ∙ c.loop-k.invariant.counted) ∙ at)

pub returns-clause-front : goal.returns-clause-front
returns-clause-front c =
    let m = c.args.self.now in
    let t = m.state.now.trace in
    let test = core_event_is (is_item m.config.mode) c.args.n t in
    let all : c.loop-k.k ≡ length t = omega (arith, c.loop-k-test.false, c.loop-k.auto.k-end, ap length c.events-k-end.ensures.events) in
    let none = list_none (length t) test c.gone-place.result (omega (arith, c.loop-k.invariant.counted, c.loop-k.invariant.before, ap (λ n. count_below n test) all)) in
    sym (ap (slice_get (items m.config.mode t c.args.n)) (sym c.gone-place.ensures) ∙ none)
