-- Serves clauses closed and joined of durable_sets_are_allowed: a core's instruction keeps the order of the parts.
use Rattle.std.proofs.Common.{◌≡◌, ℕ, ◌<◌, Bool, true, ◌&&◌, ◌||◌, inl, inr, List, [], ◌∷◌, ◌++◌, length, refl, sym, ap, ◌∙◌, arith}
use Rattle.std.specs.Prelude.{Some, None, slice_index, ◌==◌}
use Rattle.std.specs.declared.option.Option.{Option}
use Rattle.std.proofs.lemmas.Bool.{cases_eq, and_parts}
use Rattle.strand_base.proofs.BelowBound.{at_or_below, get_last}
use Rattle.strand_inputs.specs.Settings.{Settings}
use Rattle.strand_exec.specs.declared.planned.Plan.{Plan}
use Rattle.strand_events.specs.declared.event.Event.{Event}
use Rattle.strand_events.specs.Trace.{passes, is_persist, is_store, is_access, core_of, core_at, word_at, event_is}
use Rattle.strand_events.specs.Order.{set_of, conflicts}
use Rattle.strand_events.proofs.LongerTrace.{core_kept}
use Rattle.strand_rules.specs.Visible.{Program, event_of, with_event, next_plan}
use Rattle.strand_rules.specs.declared.turn.Cause.TheVariants as causes
use Rattle.strand_rules.specs.declared.turn.Turn.TheVariants.{Done}
use Rattle.strand_rules.specs.Cycle.{State, core_turn, made_turn, event_in, next_event, unmarked, core_after}
use Rattle.strand_rules.proofs.MachineInvariant.{marks_length}
use Rattle.strand_events.proofs.EventWithin.{event_within}
use Rattle.strand_rules.proofs.Next.{core_new}
use Rattle.strand_rules.proofs.Setup.{retired_cores}
use Rattle.strand_rules.proofs.MarkSets.{held_grown}
use Rattle.strand_rules.proofs.Order.Sets.Invariant.{Ordered}
use Rattle.strand_rules.proofs.Order.Sets.Event.{grows, length_grown}
use Rattle.strand_rules.proofs.Retire.Trace.{retired_trace, plan_there, event_core}
use Rattle.strand_rules.proofs.Turns.{bubble_not_done, none_wait, event_done, waited}
use Rattle.strand_rules.proofs.Order.Invariant.{Good, IsGood}

-- only an access conflicts
access_new : (t : List Event) (e : Event) (a : ℕ) → conflicts (t ++ e ∷ []) a (length t) ≡ true → is_access e ≡ true
access_new t e a h =
    let u : List Event = t ++ e ∷ [] in
    let one = and_parts (event_is is_access u a && event_is is_access u (length t) && (word_at u a == word_at u (length t))) (event_is is_store u a || event_is is_store u (length t)) h in
    let two = and_parts (event_is is_access u a && event_is is_access u (length t)) (word_at u a == word_at u (length t)) one.0 in
    ap (passes is_access) (sym (get_last t e)) ∙ (and_parts (event_is is_access u a) (event_is is_access u (length t)) two.0).1

unmarked_held : (marks : List Bool) (o : Option Event) → set_of (unmarked marks o) ≡ set_of marks
unmarked_held marks None = refl
unmarked_held marks (Some e) = held_grown marks

module _ (g : Settings) (s : State) (good : IsGood g s) (n : ℕ) (there : n < length s.now.cores) where
  ordered_more : (o : Option Event) → ((e : Event) → o ≡ Some e → core_of e ≡ n) → made_turn g s n o ≡ Done
      → Ordered g.conflict g.mode (with_event s.now.trace o) (slice_index s.dispatched) (set_of s.buffered) s.flight (set_of s.durable)
  ordered_more None own done = good.ordered
  ordered_more (Some e) own done =
      let seen = event_done g s n e done in
      grows g.mode s.now.trace e g.conflict (slice_index s.dispatched) (set_of s.buffered) s.flight (set_of s.durable) good.ordered
      (λ join p isp cp. none_wait s.now.trace (set_of s.durable) n (length s.now.trace) (seen.0 join) p isp (cp ∙ own e refl) (event_within is_persist s.now.trace p isp))
      (λ stall a lt meets apart. waited g.mode (s.now.trace ++ e ∷ []) (set_of s.durable) (length s.now.trace) (seen.1 stall (access_new s.now.trace e a meets)) a lt meets apart)

  cores_more : (o : Option Event) → ((e : Event) → o ≡ Some e → core_of e ≡ n) → (i : ℕ) → i < length (with_event s.now.trace o) → core_at (with_event s.now.trace o) i < length s.now.cores
  cores_more None own i inside = good.owned i inside
  cores_more (Some e) own i inside = elim (cases_eq i (length s.now.trace)) [
    | inl new ↦ rw (ap (core_at (s.now.trace ++ e ∷ [])) new ∙ core_new s.now.trace e ∙ own e refl) there
    | inr ne ↦ let old : i < length s.now.trace = at_or_below (omega (arith, inside, length_grown s.now.trace e)) ne in rw (core_kept s.now.trace e i old) (good.owned i old)
  ]

  pub good_more : (o : Option Event) → ((e : Event) → o ≡ Some e → core_of e ≡ n) → made_turn g s n o ≡ Done
      → Good g.conflict g.mode (with_event s.now.trace o) (length s.now.cores) s.dispatched (unmarked s.buffered o) s.flight (unmarked s.durable o)
  good_more o own done = record {
    ordered = rw (unmarked_held s.buffered o, unmarked_held s.durable o) (ordered_more o own done);
    apart = rw (unmarked_held s.buffered o, unmarked_held s.durable o) good.apart;
    buffered_marks = marks_length s.now.trace o s.buffered good.buffered_marks;
    durable_marks = marks_length s.now.trace o s.durable good.durable_marks;
    counts = good.counts;
    owned = cores_more o own;
  }

pub core_good : (g : Settings) (p : Program) (s : State) (n : ℕ) → IsGood g s → core_turn g s n (next_plan p s.now n) ≡ Done → IsGood g (core_after p s n (next_event p s.now n))
core_good g p s n good done = rw (retired_trace p s.now n, retired_cores p s.now n) (go (next_plan p s.now n) refl done)
  where
    go : (o : Option Plan) → next_plan p s.now n ≡ o → core_turn g s n o ≡ Done
        → Good g.conflict g.mode (with_event s.now.trace (event_in n s.now.memory o)) (length s.now.cores) s.dispatched (unmarked s.buffered (event_in n s.now.memory o)) s.flight (unmarked s.durable (event_in n s.now.memory o))
    go None is turned = absurd (bubble_not_done causes.Ended turned)
    go (Some plan) is turned = good_more g s good n (plan_there p s.now n plan is) (event_of n s.now.memory plan) (λ e at. event_core n s.now.memory plan e at) turned
