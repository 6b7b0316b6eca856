use Rattle.std.proofs.Common.{◌≡◌, ℕ, ◌+◌, ◌<◌, Bool, ◌&&◌, ◌||◌, length, arith, sym, subst, ap, ◌∙◌}
use Rattle.std.proofs.lemmas.Bool.{or_left}
use Rattle.strand_base.specs.declared.limits.TheConstants.{CORE_ROOM}
use Rattle.strand_base.specs.Counting.{any_below}
use Rattle.strand_events.specs.Fits.{AllFit}
use Rattle.strand_events.specs.Order.{set_of}
use Rattle.strand_events.specs.Trace.{core_at}
use Rattle.strand_rules.specs.Cycle.{some_wait}
use Rattle.strand_rules.specs.Looking.{opposes, holds_up}
use Rattle.strand_rules.proofs.Next.{stalls}
use Rattle.strand_rules.proofs.TraceLoop.{any_next, core_few}
use Rattle.strand_rules.proofs.past.Past.must_wait.Goals as goal
use Rattle.strand_rules.proofs.past.Past.must_wait.Goals.{then-holds_up, else-holds_up}

pub loop-a-preserved : goal.loop-a-preserved
loop-a-preserved c =
    let m = c.args.self.now in
    let t = m.state.now.trace in
    let durable = set_of m.state.durable in
    let a = c.loop-a.a in
    let test : ℕ → Bool = holds_up m.config.mode t durable c.args.event in
    let inside : a < length t = omega (arith, c.loop-a-test.true, ap length c.events-events.ensures.events) in
    let fits : AllFit t = subst AllFit c.events-events.ensures.events c.events-events.ensures.fits in
    let waits : (n : ℕ) → n < CORE_ROOM → set_of c.note_wait.new.waiting n ≡ some_wait t durable n (a + 1) = λ n lt.
    c.note_wait.ensures.marks n (omega (arith, lt, c.loop-a.invariant.cores)) (c.loop-a.invariant.waits n lt) in
    let own = core_at t a in
    let up : test a ≡ c.holds_up.result = sym (ap (λ b. opposes m.config.mode t c.args.event a && b) (waits own (core_few t a fits inside))) ∙ sym c.holds_up.ensures in
    let more : any_below (a + 1) test ≡ test a || any_below a test = any_next a test in
    record {
      found = elim c.if-holds_up.branch [
        | then-holds_up w ↦ w.found-is ∙ sym (more ∙ or_left (test a) (any_below a test) (up ∙ w.if-holds_up.true))
        | else-holds_up w ↦ w.found-is ∙ c.loop-a.invariant.found ∙ sym (more ∙ ap (λ b. b || any_below a test) (up ∙ w.if-holds_up.false))
      ];
      cores = c.note_wait.ensures.length ∙ c.loop-a.invariant.cores;
      waits = waits;
    }

pub returns : goal.returns
returns c =
    let m = c.args.self.now in
    let t = m.state.now.trace in
    let all : c.loop-a.a ≡ length t = omega (arith, c.loop-a-test.false, c.loop-a.auto.a-end, ap length c.events-events.ensures.events) in
    c.loop-a.invariant.found ∙ ap (λ n. any_below n (holds_up m.config.mode t (set_of m.state.durable) c.args.event)) all ∙ sym (stalls m.config.mode t (set_of m.state.durable) c.args.event)
