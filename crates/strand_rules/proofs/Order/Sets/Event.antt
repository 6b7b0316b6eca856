-- Serves clauses closed and joined of durable_sets_are_allowed: one event more keeps the order of the parts.
use Rattle.std.proofs.Common.{◌≡◌, ℕ, suc, ◌<◌, ◌≤◌, Bool, true, false, ◌⊎◌, inl, inr, List, [], ◌∷◌, ◌++◌, length, sym, ap, subst, ◌∙◌, arith, length-append}
use Rattle.std.proofs.lemmas.Bool.{cases_eq, both_ways, and_parts, and_from}
use Rattle.strand_inputs.specs.declared.mode.Mode.{Mode}
use Rattle.strand_events.specs.declared.event.Event.{Event}
use Rattle.strand_base.specs.Counting.{count_below}
use Rattle.strand_events.specs.Trace.{is_persist, is_access, is_join, core_of, core_at, passes, event_is, core_event_is, same_strand}
use Rattle.strand_events.specs.Order.{Set, conflicts, stands_between, is_joined}
use Rattle.strand_rules.specs.Cycle.{is_item}
use Rattle.strand_base.proofs.BelowBound.{get_last, count_agree, count_mono, at_or_below}
use Rattle.strand_events.proofs.LongerTrace.{event_is_kept, core_kept, word_kept, core_event_kept, strand_kept, epoch_kept}
use Rattle.strand_events.proofs.PersistOrder.Epochs.{epochs_rise, strand_flip, direct_parts, core_linked, between_parts, between_from}
use Rattle.strand_events.proofs.PersistOrder.Chain.{AllDurableTo}
use Rattle.strand_inputs.specs.declared.conflict.Conflict.{Conflict}
use Rattle.strand_inputs.specs.declared.conflict.Conflict.TheVariants.{Stall}
use Rattle.strand_events.proofs.Waits.Counts.{IsMet, counted_why, counted_earlier}
use Rattle.strand_events.proofs.Waits.LongerTrace.{counted_was}
use Rattle.strand_rules.specs.DispatchedPersists.{IsInSomePart, Sent, Older, Lower}
use Rattle.strand_rules.proofs.Ranks.{rank}
use Rattle.strand_events.proofs.EventWithin.{event_within}
use Rattle.strand_rules.proofs.Next.{core_new}
use Rattle.strand_rules.proofs.Order.Sets.Invariant.{Ordered}

pub length_grown : (t : List Event) (e : Event) → length (t ++ e ∷ []) ≡ suc (length t)
length_grown t e = rw length-append (omega arith)

module _ (mode : Mode) (t : List Event) (e : Event) where
  -- an event of the longer trace is the new one or stands in the old trace
  pub new_or_old : (test : Event → Bool) (i : ℕ) → event_is test (t ++ e ∷ []) i ≡ true → (i ≡ length t) ⊎ (i < length t)
  new_or_old test i h = let within = event_within test (t ++ e ∷ []) i h in elim (cases_eq i (length t)) [ inl same ↦ inl same | inr ne ↦ inr (at_or_below (omega (arith, within, length_grown t e)) ne) ]

  is_new : (test : Event → Bool) → event_is test (t ++ e ∷ []) (length t) ≡ true → test e ≡ true
  is_new test h = ap (passes test) (sym (get_last t e)) ∙ h

  pub was : (test : Event → Bool) (i : ℕ) → i < length t → event_is test (t ++ e ∷ []) i ≡ true → event_is test t i ≡ true
  was test i lt h = sym (event_is_kept t e test i lt) ∙ h

  older_was : (p q : ℕ) → q < length t → Older mode (t ++ e ∷ []) p q → Older mode t p q
  older_was p q lt o =
      let lt' : p < length t = omega (arith, o.earlier) in
      record {
        persist = was is_persist p lt' o.persist;
        earlier = o.earlier;
        strand = sym (strand_kept t e mode p q lt' lt) ∙ o.strand;
        word = sym (word_kept t e p lt') ∙ o.word ∙ word_kept t e q lt;
      }

  lower_was : (p q : ℕ) → q < length t → Lower mode (t ++ e ∷ []) p q → Lower mode t p q
  lower_was p q lt l = elim (new_or_old is_persist p l.persist) [
    | inl new ↦
        let le : q ≤ p = omega arith in
        absurd (omega (arith, l.epoch, epochs_rise mode (t ++ e ∷ []) q p (strand_flip mode (t ++ e ∷ []) p q l.strand) le))
    | inr lt' ↦ record {
      persist = was is_persist p lt' l.persist;
      strand = sym (strand_kept t e mode p q lt' lt) ∙ l.strand;
      epoch = omega (arith, l.epoch, epoch_kept t e mode p lt', epoch_kept t e mode q lt);
    }
  ]

  pub rank_kept : (p : ℕ) → p < length t → rank mode (t ++ e ∷ []) p ≡ rank mode t p
  rank_kept p lt = ap (λ c. count_below p (core_event_is (is_item mode) c (t ++ e ∷ []))) (core_kept t e p lt) ∙ count_agree p (core_event_is (is_item mode) (core_at t p) (t ++ e ∷ [])) (core_event_is (is_item mode) (core_at t p) t) (λ k below. core_event_kept t e (is_item mode) (core_at t p) k (omega arith))

  pub items_kept : (core : ℕ) → count_below (length t) (core_event_is (is_item mode) core (t ++ e ∷ [])) ≡ count_below (length t) (core_event_is (is_item mode) core t)
  items_kept core = count_agree (length t) (core_event_is (is_item mode) core (t ++ e ∷ [])) (core_event_is (is_item mode) core t) (λ k below. core_event_kept t e (is_item mode) core k below)

  -- the wait of an old access is met as before
  met_still : (durable : Set) (b : ℕ) → b < length t → IsMet mode t durable b → IsMet mode (t ++ e ∷ []) durable b
  met_still durable b lt met p is counted =
      let inside : p < length t = omega (arith, counted_earlier mode (t ++ e ∷ []) b p counted) in
      met p (was is_persist p inside is) (counted_was mode t e b p lt inside counted)

  -- what the wait of a new access counts is durable, where the waits of the old ones are met and its conflicts waited for
  met_new : (durable : Set) → ((b : ℕ) → event_is is_access t b ≡ true → IsMet mode t durable b) → ((p : ℕ) → is_joined t p ≡ true → durable p ≡ true)
      → ((a : ℕ) → a < length t → conflicts (t ++ e ∷ []) a (length t) ≡ true → same_strand mode (t ++ e ∷ []) a (length t) ≡ false → AllDurableTo (t ++ e ∷ []) durable a)
      → IsMet mode (t ++ e ∷ []) durable (length t)
  met_new durable old drained waited p is counted =
      let u : List Event = t ++ e ∷ [] in
      let n : ℕ = length t in
      let why = counted_why mode u n p counted in
      let a : ℕ = why.0 in
      let parts = direct_parts mode u a n why.1 in
      let lt : a < n = parts.0 in
      elim why.2 [
        | inl handed_on ↦ met_still durable a lt (old a (was is_access a lt parts.1)) p is handed_on
        | inr (apart, made) ↦ elim parts.3 [
          | inl conflict ↦ waited a lt conflict apart p is made.core made.upto
          | inr (c, orders) ↦ elim (core_linked mode u a n lt parts.1 c orders) [
            | inl (same, low) ↦ absurd (both_ways (same_strand mode u a n) apart same)
            | inr join ↦
                let k = between_parts is_join (core_at u a) u a n join in
                let in_old : p < n = omega (arith, made.upto) in
                let core_p : core_at t k.0 ≡ core_at t p = sym (core_kept t e k.0 k.2) ∙ k.4 ∙ sym made.core ∙ core_kept t e p in_old in
                let below : p < k.0 = omega (arith, k.1, made.upto) in
                drained p (and_from (event_is is_persist t p) (stands_between is_join (core_at t p) t p n) (was is_persist p in_old is) (between_from is_join (core_at t p) t p n k.0 below k.2 (was is_join k.0 k.2 k.3) core_p))
          ]
        ]
      ]

  joined_was : (durable : Set) → ((p : ℕ) → is_joined t p ≡ true → durable p ≡ true) → (is_join e ≡ true → (p : ℕ) → event_is is_persist t p ≡ true → core_at t p ≡ core_of e → durable p ≡ true) → (p : ℕ) → is_joined (t ++ e ∷ []) p ≡ true → durable p ≡ true
  joined_was durable drained drains p h =
      let parts = and_parts (event_is is_persist (t ++ e ∷ []) p) (stands_between is_join (core_at (t ++ e ∷ []) p) (t ++ e ∷ []) p (length (t ++ e ∷ []))) h in
      let k = between_parts is_join (core_at (t ++ e ∷ []) p) (t ++ e ∷ []) p (length (t ++ e ∷ [])) parts.1 in
      elim (new_or_old is_join k.0 k.3) [
        | inl new ↦
            let lt : p < length t = omega (arith, k.1) in
            let last : event_is is_join (t ++ e ∷ []) (length t) ≡ true = ap (event_is is_join (t ++ e ∷ [])) (sym new) ∙ k.3 in
            drains (is_new is_join last) p (was is_persist p lt parts.0) (sym (core_kept t e p lt) ∙ sym k.4 ∙ ap (core_at (t ++ e ∷ [])) new ∙ core_new t e)
        | inr old ↦
            let lt : p < length t = omega (arith, k.1) in
            drained p (and_from (event_is is_persist t p) (stands_between is_join (core_at t p) t p (length t)) (was is_persist p lt parts.0) (between_from is_join (core_at t p) t p (length t) k.0 k.1 old (was is_join k.0 old k.3) (sym (core_kept t e k.0 old) ∙ k.4 ∙ core_kept t e p lt)))
      ]

  module _ (conflict : Conflict) (dispatched : ℕ → ℕ) (buffered : Set) (flight : List ℕ) (durable : Set) (kept : Ordered conflict mode t dispatched buffered flight durable) where
    old_accepted : (p : ℕ) → IsInSomePart buffered flight durable p → p < length t
    old_accepted p a = event_within is_persist t p (kept.persists p a)

    -- the waits that have to be met are met in the longer trace
    met_more : (conflict ≡ Stall → (a : ℕ) → a < length t → conflicts (t ++ e ∷ []) a (length t) ≡ true → same_strand mode (t ++ e ∷ []) a (length t) ≡ false → AllDurableTo (t ++ e ∷ []) durable a)
        → (b : ℕ) → event_is is_access (t ++ e ∷ []) b ≡ true → (conflict ≡ Stall) ⊎ Sent flight durable b → IsMet mode (t ++ e ∷ []) durable b
    met_more waited b is (inr sent) =
        let lt : b < length t = old_accepted b (inr sent) in
        met_still durable b lt (kept.met b (was is_access b lt is) (inr sent))
    met_more waited b is (inl stall) = elim (new_or_old is_access b is) [
      | inl new ↦ subst (λ x. IsMet mode (t ++ e ∷ []) durable x) (sym new) (met_new durable (λ a at. kept.met a at (inl stall)) kept.drained (waited stall))
      | inr lt ↦ met_still durable b lt (kept.met b (was is_access b lt is) (inl stall))
    ]

    taken_still : (p : ℕ) → event_is is_persist (t ++ e ∷ []) p ≡ true → rank mode (t ++ e ∷ []) p < dispatched (core_at (t ++ e ∷ []) p) → IsInSomePart buffered flight durable p
    taken_still p is below = elim (new_or_old is_persist p is) [
      | inl new ↦
          let full : rank mode (t ++ e ∷ []) p ≡ count_below (length t) (core_event_is (is_item mode) (core_at (t ++ e ∷ []) p) t) = ap (λ x. count_below x (core_event_is (is_item mode) (core_at (t ++ e ∷ []) p) (t ++ e ∷ []))) new ∙ items_kept (core_at (t ++ e ∷ []) p) in
          absurd (omega (arith, below, full, kept.within (core_at (t ++ e ∷ []) p)))
      | inr old ↦
          let same : dispatched (core_at (t ++ e ∷ []) p) ≡ dispatched (core_at t p) = ap dispatched (core_kept t e p old) in
          let lower : rank mode t p < dispatched (core_at t p) = omega (arith, below, same, rank_kept p old) in
          kept.taken p (was is_persist p old is) lower
    ]

    -- the trace grows by one event
    pub grows : (is_join e ≡ true → (p : ℕ) → event_is is_persist t p ≡ true → core_at t p ≡ core_of e → durable p ≡ true) → (conflict ≡ Stall → (a : ℕ) → a < length t → conflicts (t ++ e ∷ []) a (length t) ≡ true → same_strand mode (t ++ e ∷ []) a (length t) ≡ false → AllDurableTo (t ++ e ∷ []) durable a) → Ordered conflict mode (t ++ e ∷ []) dispatched buffered flight durable
    grows drains waited = record {
      met = met_more waited;
      drained = joined_was durable kept.drained drains;
      persists = λ p a. event_is_kept t e is_persist p (old_accepted p a) ∙ kept.persists p a;
      within = λ core. let longer : length t ≤ length (t ++ e ∷ []) = omega (arith, length_grown t e) in omega (arith, kept.within core, items_kept core, count_mono (length t) (length (t ++ e ∷ [])) (core_event_is (is_item mode) core (t ++ e ∷ [])) longer);
      ranked = λ p a. let old = old_accepted p a in omega (arith, kept.ranked p a, rank_kept p old, ap dispatched (core_kept t e p old));
      taken = taken_still;
      lower = λ p q sent l. kept.lower p q sent (lower_was p q (old_accepted q (inr sent)) l);
      older = λ p q done o. kept.older p q done (older_was p q (old_accepted q (inr (inr done))) o);
      in_flight = λ i p q at o. kept.in_flight i p q at (older_was p q (old_accepted q (inr (inl (i, at)))) o);
    }
