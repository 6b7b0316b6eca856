-- Serves clauses access, others, before and prefix of counts_tell_what_waits.
-- What an event more does to the noted accesses of a trace, and to the durable persists that lead.
use Rattle.std.proofs.Common.{◌≡◌, ℕ, zero, suc, ◌+◌, ◌<◌, ◌≤◌, Bool, true, false, inl, inr, List, [], ◌∷◌, ◌++◌, length, map, refl, sym, ap, ◌∙◌, arith}
use Rattle.std.specs.Prelude.{if◌then◌else◌}
use Rattle.std.proofs.lemmas.Bool.{cases_Bool}
use Rattle.std.proofs.lemmas.List.{length-append, map-append}
use Rattle.strand_base.specs.Counting.{list_below}
use Rattle.strand_base.proofs.BelowBound.{count_agree, list_agree}
use Rattle.strand_inputs.specs.declared.mode.Mode.{Mode}
use Rattle.strand_inputs.specs.declared.conflict.Conflict.{Conflict}
use Rattle.strand_inputs.specs.declared.conflict.Conflict.TheVariants.{Stall, Tag}
use Rattle.strand_events.specs.declared.event.Event.{Event}
use Rattle.strand_events.specs.Trace.{is_access, is_persist, is_store, core_at, event_is, core_event_is}
use Rattle.strand_events.specs.Order.{Set}
use Rattle.strand_events.proofs.TraceInvariant.{last_is}
use Rattle.strand_events.proofs.LongerTrace.{event_is_kept, core_kept, word_kept, core_event_kept, number_kept}
use Rattle.strand_events.specs.Prefixes.{made_below, leading, core_persists, core_marks, durable_prefix}
use Rattle.strand_events.specs.Waits.{wait}
use Rattle.strand_events.proofs.Waits.DurablePrefix.{leading_unset}
use Rattle.strand_events.proofs.Waits.LongerTrace.{wait_kept}
use Rattle.strand_tags.specs.Traces.{noted_wait, noted_at, noted_below, noted_accesses}
use Rattle.strand_tags.proofs.Vectors.{same_each}

-- two functions that agree where a test passes give one list of the numbers that pass
map_below : {X : Type 0} (f h : ℕ → X) (n : ℕ) (test : ℕ → Bool) → ((k : ℕ) → k < n → f k ≡ h k) → map f (list_below n test) ≡ map h (list_below n test)
map_below f h zero test same = refl
map_below f h (suc n) test same =
    let rest = map_below f h n test (λ k lt. same k (omega (arith, lt))) in
    elim (cases_Bool (test n)) [
      | inl yes_ ↦ rw yes_ (map-append f (list_below n test) (n ∷ []) ∙ cc (same n (omega arith), rest) ∙ sym (map-append h (list_below n test) (n ∷ [])))
      | inr no_ ↦ rw no_ rest
    ]

module _ (t : List Event) (e : Event) where
  longer : length (t ++ e ∷ []) ≡ suc (length t)
  longer = omega (arith, length-append t (e ∷ []))

  -- of the numbers that pass a test there is one more at the end, where the new event passes
  pub list_grown : (test old : ℕ → Bool) → ((k : ℕ) → k < length t → test k ≡ old k) → list_below (length (t ++ e ∷ [])) test ≡ (if test (length t) then list_below (length t) old ++ length t ∷ [] else list_below (length t) old)
  list_grown test old same = rw (longer, list_agree (length t) test old same) refl

  pub made_kept : (c end : ℕ) → end ≤ length t → made_below (t ++ e ∷ []) c end ≡ made_below t c end
  made_kept c end le = count_agree end (core_event_is is_persist c (t ++ e ∷ [])) (core_event_is is_persist c t) (λ k lt. core_event_kept t e is_persist c k (omega (arith, lt, le)))

  module _ (conflict : Conflict) (mode : Mode) where
    wait_noted : (conflict : Conflict) (a : ℕ) → a < length t → noted_wait conflict mode (t ++ e ∷ []) a ≡ noted_wait conflict mode t a
    wait_noted Stall a lt = refl
    wait_noted Tag a lt = same_each (λ c. wait mode (t ++ e ∷ []) c a) (λ c. wait mode t c a) (λ c. wait_kept mode t e c a lt)

    noted_kept : (a : ℕ) → a < length t → noted_at conflict mode (t ++ e ∷ []) a ≡ noted_at conflict mode t a
    noted_kept a lt =
        let made : made_below (t ++ e ∷ []) (core_at (t ++ e ∷ []) a) (a + 1) ≡ made_below t (core_at t a) (a + 1) = ap (λ c. made_below (t ++ e ∷ []) c (a + 1)) (core_kept t e a lt) ∙ made_kept (core_at t a) (a + 1) (omega (arith, lt)) in
        cc (core_kept t e a lt, number_kept t e mode a lt, word_kept t e a lt, event_is_kept t e is_store a lt, made, wait_noted conflict a lt)

    same_list : map (noted_at conflict mode (t ++ e ∷ [])) (list_below (length t) (event_is is_access t)) ≡ noted_accesses conflict mode t
    same_list = map_below (noted_at conflict mode (t ++ e ∷ [])) (noted_at conflict mode t) (length t) (event_is is_access t) noted_kept

    pub noted_before : noted_below conflict mode (t ++ e ∷ []) (length t) ≡ noted_accesses conflict mode t
    noted_before = ap (map (noted_at conflict mode (t ++ e ∷ []))) (list_agree (length t) (event_is is_access (t ++ e ∷ [])) (event_is is_access t) (λ k lt. event_is_kept t e is_access k lt)) ∙ same_list

    accesses_grown : list_below (length (t ++ e ∷ [])) (event_is is_access (t ++ e ∷ [])) ≡ (if is_access e then list_below (length t) (event_is is_access t) ++ length t ∷ [] else list_below (length t) (event_is is_access t))
    accesses_grown =
        list_grown (event_is is_access (t ++ e ∷ [])) (event_is is_access t) (λ k lt. event_is_kept t e is_access k lt)
        ∙ ap (λ b. if b then list_below (length t) (event_is is_access t) ++ length t ∷ [] else list_below (length t) (event_is is_access t)) (last_is is_access t e)

    -- a new access is noted at the end
    pub access_noted : is_access e ≡ true → noted_accesses conflict mode (t ++ e ∷ []) ≡ noted_accesses conflict mode t ++ noted_at conflict mode (t ++ e ∷ []) (length t) ∷ []
    access_noted is =
        ap (map (noted_at conflict mode (t ++ e ∷ []))) (accesses_grown ∙ (rw is refl))
        ∙ map-append (noted_at conflict mode (t ++ e ∷ [])) (list_below (length t) (event_is is_access t)) (length t ∷ [])
        ∙ ap (λ ns. ns ++ noted_at conflict mode (t ++ e ∷ []) (length t) ∷ []) same_list

    -- another event isn't
    pub other_unnoted : is_access e ≡ false → noted_accesses conflict mode (t ++ e ∷ []) ≡ noted_accesses conflict mode t
    other_unnoted is = ap (map (noted_at conflict mode (t ++ e ∷ []))) (accesses_grown ∙ (rw is refl)) ∙ same_list

  -- a new event that isn't durable changes no durable prefix
  pub prefix_kept : (durable : Set) (c : ℕ) → durable (length t) ≡ false → durable_prefix (t ++ e ∷ []) durable c ≡ durable_prefix t durable c
  prefix_kept durable c unset =
      let grown = list_grown (core_event_is is_persist c (t ++ e ∷ [])) (core_event_is is_persist c t) (λ k lt. core_event_kept t e is_persist c k lt) in
      elim (cases_Bool (core_event_is is_persist c (t ++ e ∷ []) (length t))) [
        | inl yes_ ↦ ap (λ xs. leading (map durable xs)) (grown ∙ (rw yes_ refl)) ∙ ap leading (map-append durable (core_persists t c) (length t ∷ []) ∙ ap (λ b. core_marks t durable c ++ b ∷ []) unset) ∙ leading_unset (core_marks t durable c)
        | inr no_ ↦ ap (λ xs. leading (map durable xs)) (grown ∙ (rw no_ refl))
      ]
