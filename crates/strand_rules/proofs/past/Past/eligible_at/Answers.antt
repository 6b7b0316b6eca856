use Rattle.std.proofs.Common.{◌≡◌, ◌∙◌, length, sym, ap, arith}
use Rattle.std.specs.Prelude.{slice_get}
use Rattle.strand_base.specs.Counting.{count_below}
use Rattle.strand_rules.specs.Cycle.{is_eligible, eligible}
use Rattle.strand_rules.proofs.Eligible.{eligible_marked}
use Rattle.strand_base.proofs.ListBelow.{list_at, list_none}
use Rattle.strand_rules.proofs.past.Past.eligible_at.Goals as goal

pub returns-then-passed-place-clause-eligible : goal.returns-then-passed-place-clause-eligible
returns-then-passed-place-clause-eligible c =
    let m = c.args.self.now in
    let at = list_at (length m.state.now.trace) (is_eligible m.config m.state c.args.n c.args.b) c.loop-p.p (omega (arith, c.loop-p-test.true, ap length c.events-p-end.ensures.events)) (sym c.is_eligible.ensures ∙ c.if-is_eligible.true) in
    sym (ap (slice_get (eligible m.config m.state c.args.n c.args.b)) (sym c.if-passed-place.true ∙ c.loop-p.invariant.counted) ∙ at)

pub returns-then-passed-place-clause-unsent : goal.returns-then-passed-place-clause-unsent
returns-then-passed-place-clause-unsent c =
    eligible_marked c.args.self.now.config c.args.self.now.state c.args.n c.args.b c.loop-p.p (sym c.is_eligible.ensures ∙ c.if-is_eligible.true)

pub returns-clause-eligible : goal.returns-clause-eligible
returns-clause-eligible c =
    let m = c.args.self.now in
    let all : c.loop-p.p ≡ length m.state.now.trace = omega (arith, c.loop-p-test.false, c.loop-p.auto.p-end, ap length c.events-p-end.ensures.events) in
    sym (list_none (length m.state.now.trace) (is_eligible m.config m.state c.args.n c.args.b) c.args.place (omega (arith, c.loop-p.invariant.counted, c.loop-p.invariant.before, ap (λ n. count_below n (is_eligible m.config m.state c.args.n c.args.b)) all)))
