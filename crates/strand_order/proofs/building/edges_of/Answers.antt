use Rattle.std.proofs.Common.{◌≡◌, ℕ, ◌<◌, ◌++◌, List, length, Some, sym, ap, ◌∙◌, arith, subst, add-one}
use Rattle.std.specs.Prelude.{slice_get, slice_index_or}
use Rattle.std.proofs.lemmas.Option.{slice_get-get_or}
use Rattle.strand_events.specs.declared.event.Event.{Event}
use Rattle.strand_events.specs.declared.event.Event.TheVariants.{Load}
use Rattle.strand_order.specs.Edges.{edges_below, edges_to}
use Rattle.strand_order.specs.Seen.{IsSeen}
use Rattle.strand_order.proofs.Edges.Lasts.{edges_more}
use Rattle.strand_order.proofs.building.edges_of.Goals as goal

-- the event that was read
read : (t events : List Event) (n : ℕ) → events ≡ t → n < length events → slice_get t n ≡ Some (slice_index_or events n (Load 0 0))
read t events n same lt = ap (λ xs. slice_get xs n) (sym same) ∙ slice_get-get_or events n (Load 0 0) lt

pub loop-n-init : goal.loop-n-init
unfolding edges_below
loop-n-init c = record { edges = c.new-edges.ensures.items; seen = c.new-seen.ensures c.args.trace.now.events }

pub add_event-requires-clause-seen : goal.add_event-requires-clause-seen
add_event-requires-clause-seen c =
    let lt : c.loop-n.n < length c.events.result.now = omega (arith, c.loop-n-test.true, ap length c.events.ensures.events, ap length c.events-n-end.ensures.events) in
    (c.args.trace.now.events, read c.args.trace.now.events c.events.result.now c.loop-n.n c.events.ensures.events lt, c.loop-n.invariant.seen)

pub loop-n-preserved : goal.loop-n-preserved
loop-n-preserved c =
    let t = c.args.trace.now.events in
    let lt : c.loop-n.n < length c.events.result.now = omega (arith, c.loop-n-test.true, ap length c.events.ensures.events, ap length c.events-n-end.ensures.events) in
    let at = read t c.events.result.now c.loop-n.n c.events.ensures.events lt in
    record {
      edges = c.in_ok-add_event.ensures.edges t at c.loop-n.invariant.seen ∙ ap (λ xs. xs ++ edges_to c.args.mode t c.loop-n.n c.loop-n.n) c.loop-n.invariant.edges ∙ edges_more c.args.mode t c.loop-n.n;
      seen = subst (λ m. IsSeen t m c.add_event.new.seen) (sym (add-one c.loop-n.n)) (c.in_ok-add_event.ensures.seen t at c.loop-n.invariant.seen);
    }
