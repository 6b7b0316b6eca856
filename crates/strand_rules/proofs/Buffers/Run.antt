-- Serves clause buffers of parts_are_kept: what every run keeps of its buffers, rings and requests.
use Rattle.std.proofs.Common.{◌≡◌, ℕ, ◌<◌, ◌≤◌, Bool, true, inl, inr, List, [], ◌∷◌, ◌++◌, length, refl, sym, ap, subst, ◌∙◌, arith, length-append}
use Rattle.std.specs.Prelude.{Some, None, slice_get, slice_index, slice_set, ◌==◌}
use Rattle.std.specs.declared.option.Option.{Option}
use Rattle.std.proofs.lemmas.Bool.{and_parts, eqb-true, eq-eqb, both_ways, false≢true}
use Rattle.std.proofs.lemmas.Option.{slice_get_within}
use Rattle.std.proofs.lemmas.List.Edits.{length-remove}
use Rattle.strand_base.proofs.BelowBound.{list_get}
use Rattle.strand_inputs.specs.Settings.{Settings}
use Rattle.strand_inputs.specs.declared.step.Step.{Step}
use Rattle.strand_inputs.specs.declared.step.Step.TheVariants.{Core, Dispatch, Send, Write}
use Rattle.strand_exec.specs.Core as cores
use Rattle.strand_exec.specs.Memory.{Memory}
use Rattle.strand_events.specs.declared.event.Event.{Event}
use Rattle.strand_events.specs.Trace.{is_persist, core_at, event_is, core_event_is}
use Rattle.strand_events.specs.Order.{set_of}
use Rattle.strand_rules.specs.Visible.{Program, with_event}
use Rattle.strand_rules.specs.declared.turn.Turn.{Turn}
use Rattle.strand_rules.specs.declared.turn.Cause.TheVariants as causes
use Rattle.strand_rules.specs.declared.turn.Turn.TheVariants.{Done, Bubble, Fault}
use Rattle.strand_rules.specs.Cycle.{State, is_item, gone, front, eligible, turn, item_turn, send_turn, next_event, unmarked, core_after, item_after, send_after, write_after, done_after, after_turn, after, after_steps, start_at, is_of_ring}
use Rattle.strand_events.proofs.EventWithin.{event_within}
use Rattle.strand_rules.proofs.MarkSets.{held_grown, held_set}
use Rattle.strand_rules.proofs.Sets.{with_old}
use Rattle.strand_rules.proofs.Retire.Trace.{retired_trace}
use Rattle.strand_rules.proofs.Turns.{if_done}
use Rattle.strand_rules.proofs.Order.Invariant.{IsGood}
use Rattle.strand_rules.proofs.Order.Run.{step_good}
use Rattle.strand_rules.proofs.Buffers.RingUse.{uses_fewer}
use Rattle.strand_rules.proofs.Buffers.Begin.{AreEmptied, emptied_grown}
use Rattle.strand_rules.proofs.Buffers.BeginItem.{emptied_item}
use Rattle.strand_rules.proofs.Buffers.RingEvent.{RingsFit, rings_grown}
use Rattle.strand_rules.proofs.Buffers.RingItem.{rings_item}

pub record Fits (g : Settings) (t : List Event) (dispatched : List ℕ) (flight : List ℕ) (durable : List Bool) : Type 0 where
  pub emptied : AreEmptied g.mode g.buffers t (slice_index dispatched) (set_of durable)
  pub rings : RingsFit g t dispatched durable
  pub requests : length flight ≤ g.flight

abbrev pub IsFit : Settings → State → Type 0
IsFit g s = Fits g s.now.trace s.dispatched s.flight s.durable

pub start_fit : (g : Settings) (cores : List cores.Core) (memory : Memory) → IsFit g (start_at cores memory)
start_fit g cores memory = record {
  emptied = λ p j taken begins c le same. absurd (false≢true taken.persist);
  rings = λ n k. omega arith;
  requests = omega arith;
}

fit_more : (g : Settings) (s : State) → IsGood g s → IsFit g s → (o : Option Event) → Fits g (with_event s.now.trace o) s.dispatched s.flight (unmarked s.durable o)
fit_more g s good fit None = fit
fit_more g s good fit (Some e) = record {
  emptied = subst (λ d. AreEmptied g.mode g.buffers (s.now.trace ++ e ∷ []) (slice_index s.dispatched) d) (sym (held_grown s.durable))
      (emptied_grown g.mode s.now.trace e (slice_index s.dispatched) good.ordered.within g.buffers (set_of s.durable) fit.emptied);
  rings = rings_grown g s.now.trace e s.dispatched s.durable good.ordered.within fit.rings;
  requests = fit.requests;
}

core_fit : (g : Settings) (p : Program) (s : State) (n : ℕ) → IsGood g s → IsFit g s → IsFit g (core_after p s n (next_event p s.now n))
core_fit g p s n good fit = subst (λ t. Fits g t s.dispatched s.flight (unmarked s.durable (next_event p s.now n))) (sym (retired_trace p s.now n)) (fit_more g s good fit (next_event p s.now n))

item_fit : (g : Settings) (s : State) (n : ℕ) → IsGood g s → IsFit g s → (o : Option ℕ) → front g s n ≡ o → item_turn g s n o ≡ Done → IsFit g (item_after s n o)
item_fit g s n good fit None is done = fit
item_fit g s n good fit (Some k) is done =
    let item = list_get (length s.now.trace) (core_event_is (is_item g.mode) n s.now.trace) (gone s n) k is in
    let c : core_at s.now.trace k ≡ n = eqb-true (core_at s.now.trace k) n ((and_parts (event_is (is_item g.mode) s.now.trace k) (core_at s.now.trace k == n) item.1).1) in
    let there : n < length s.dispatched = omega (arith, good.owned k item.0, c, good.counts) in
    record {
      emptied = emptied_item g s n k is there done fit.emptied;
      rings = rings_item g s n k is there done fit.rings;
      requests = fit.requests;
    }

send_fit : (g : Settings) (s : State) → IsFit g s → (o : Option ℕ) → send_turn g s o ≡ Done → IsFit g (send_after s o)
send_fit g s fit None done = fit
send_fit g s fit (Some p) done =
    let free = (if_done (length s.flight == g.flight) causes.FlightFull Done done).0 in
    let other : length s.flight ≡ g.flight → ⊥ = λ e. both_ways (length s.flight == g.flight) free (eq-eqb (length s.flight) g.flight e) in
    let most = fit.requests in
    let room : length s.flight < g.flight = grind arith in
    record {
      emptied = fit.emptied;
      rings = fit.rings;
      requests = omega (arith, room, length-append s.flight (p ∷ []));
    }

write_fit : (g : Settings) (s : State) (j : ℕ) → IsGood g s → IsFit g s → (o : Option ℕ) → slice_get s.flight j ≡ o → IsFit g (write_after s j o)
write_fit g s j good fit None is = fit
write_fit g s j good fit (Some p) is =
    let inside : p < length s.durable = omega (arith, event_within is_persist s.now.trace p (good.ordered.persists p (inr (inl (j, is)))), good.durable_marks) in
    let more : (q : ℕ) → set_of s.durable q ≡ true → set_of (slice_set s.durable p true) q ≡ true = λ q d. ap (λ f. f q) (held_set s.durable p inside) ∙ with_old p (set_of s.durable) q d in
    record {
      emptied = λ x y taken begins c le same. more x (fit.emptied x y taken begins c le same);
      rings = λ n k. omega (arith, uses_fewer (length s.now.trace) (is_of_ring g s n k) (set_of s.durable) (set_of (slice_set s.durable p true)) more, fit.rings n k);
      requests = omega (arith, fit.requests, length-remove s.flight j (slice_get_within s.flight j p is));
    }

done_fit : (g : Settings) (p : Program) (s : State) (step : Step) → IsGood g s → IsFit g s → turn g p s step ≡ Done → IsFit g (done_after g p s step)
done_fit g p s (Core n) good fit done = core_fit g p s n good fit
done_fit g p s (Dispatch n) good fit done = item_fit g s n good fit (front g s n) refl done
done_fit g p s (Send n b j) good fit done = send_fit g s fit (slice_get (eligible g s n b) j) done
done_fit g p s (Write j) good fit done = write_fit g s j good fit (slice_get s.flight j) refl

turn_fit : (g : Settings) (s new : State) (it : Turn) → IsFit g s → (it ≡ Done → IsFit g new) → IsFit g (after_turn it s new)
turn_fit g s new Done fit done = done refl
turn_fit g s new (Bubble cause) fit done = fit
turn_fit g s new (Fault m) fit done = fit

pub run_fit : (g : Settings) (p : Program) (s : State) (steps : List Step) → IsGood g s → IsFit g s → IsFit g (after_steps g p s steps)
run_fit g p s [] good fit = fit
run_fit g p s (step ∷ steps) good fit = run_fit g p (after g p s step) steps (step_good g p s step good) (turn_fit g s (done_after g p s step) (turn g p s step) fit (done_fit g p s step good fit))
