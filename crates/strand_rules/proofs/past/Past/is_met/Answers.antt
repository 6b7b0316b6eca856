use Rattle.std.proofs.Common.{◌≡◌, ap, subst, arith, ◌∙◌}
use Rattle.std.specs.Prelude.{not, nat_lt, slice_index}
use Rattle.strand_base.specs.declared.limits.TheConstants.{CORE_ROOM}
use Rattle.strand_base.specs.Counting.{any_below}
use Rattle.strand_events.specs.Fits.{AllFit}
use Rattle.strand_events.specs.Order.{set_of}
use Rattle.strand_events.specs.Waits.{wait}
use Rattle.strand_rules.specs.Machine.{Machine}
use Rattle.strand_rules.proofs.NextWait.{met_by_prefixes}
use Rattle.strand_rules.proofs.past.Past.is_met.Goals as goal

pub returns : goal.returns
returns c =
    let m = c.args.self.now in
    let all : c.loop-c.c ≡ CORE_ROOM = omega (arith, c.loop-c-test.false, c.loop-c.auto.c-end) in
    let fits : AllFit m.state.now.trace = subst (λ (m : Machine). AllFit m.state.now.trace) c.self.view_is c.keeps.ensures.fits in
    ap not (c.loop-c.invariant ∙ ap (λ n. any_below n (λ k. nat_lt (slice_index c.args.prefixes k) (wait m.config.mode m.state.now.trace k c.args.x))) all)
    ∙ met_by_prefixes m.config.mode m.state.now.trace (set_of m.state.durable) c.args.prefixes c.args.x fits c.requires.prefixes
