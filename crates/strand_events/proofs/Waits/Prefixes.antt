-- Serves clause prefixes of waits_are_met_by_prefixes.
-- A wait is met exactly where none of its numbers is greater than that of the core's first persists that are all durable.
use Rattle.std.proofs.Common.{◌≡◌, ℕ, zero, suc, ◌+◌, ◌<◌, ◌≤◌, Bool, true, false, ◌&&◌, inl, inr, List, length, refl, sym, ap, ◌∙◌, arith}
use Rattle.std.specs.Prelude.{not, ◌==◌, nat_lt}
use Rattle.std.proofs.lemmas.Bool.{cases_lt, cases_Bool, and_parts, and_from, eq-eqb, eqb-true, ltb-true, ltb-false, not-true, false_from_ne_true, both_ways, true≢false}
use Rattle.strand_base.specs.Counting.{count_below, any_below}
use Rattle.strand_base.proofs.BelowBound.{any_true, any_false, any_from, count_mono, count_strict, count_yes, count_no}
use Rattle.strand_inputs.specs.declared.mode.Mode.{Mode}
use Rattle.strand_events.specs.declared.event.Event.{Event}
use Rattle.strand_events.specs.Trace.{is_persist, core_at, event_is, core_event_is}
use Rattle.strand_events.specs.Order.{Set}
use Rattle.strand_events.specs.Prefixes.{made_below, durable_prefix}
use Rattle.strand_events.specs.Waits.{wait, is_met}
use Rattle.strand_events.proofs.Waits.DurablePrefix.{missing_up_to}
use Rattle.strand_events.proofs.Waits.Counts.{IsMet, wait_most}
use Rattle.strand_events.proofs.Waits.IsMet.{met_means, met_from}
use Rattle.strand_events.proofs.EventWithin.{event_within}

-- the number that passes and has d before it that do
count_select : (n : ℕ) (f : ℕ → Bool) (d : ℕ) → d < count_below n f → (k : ℕ) × (k < n) × (f k ≡ true) × (count_below k f ≡ d)
count_select zero f d lt = absurd (omega arith)
count_select (suc n) f d lt = elim (cases_lt d (count_below n f)) [
  | inl less ↦
      let found = count_select n f d less in
      let below : found.0 < suc n = omega (arith, found.1) in
      (found.0, below, found.2, found.3)
  | inr ge ↦ elim (cases_Bool (f n)) [
    | inl yes_ ↦ let here : count_below n f ≡ d = omega (arith, lt, count_yes n f yes_) in (n, omega arith, yes_, here)
    | inr no_ ↦ absurd (omega (arith, lt, count_no n f no_))
  ]
]

module _ (mode : Mode) (t : List Event) (durable : Set) where
  -- core n's persist p isn't durable
  abbrev missing : ℕ → ℕ → Bool
  missing n p = core_event_is is_persist n t p && not (durable p)

  -- where its persists up to the one with d before it are durable, more than d first ones are
  many_first : (n p : ℕ) → p < length t → core_event_is is_persist n t p ≡ true → ((q : ℕ) → q ≤ p → core_event_is is_persist n t q ≡ true → durable q ≡ true) → made_below t n p < durable_prefix t durable n
  many_first n p inside is all =
      let upto : p + 1 ≤ length t = omega arith in
      let none : any_below (p + 1) (missing n) ≡ false = false_from_ne_true (any_below (p + 1) (missing n)) (λ some.
      let found = any_true (p + 1) (missing n) some in
      let parts = and_parts (core_event_is is_persist n t found.0) (not (durable found.0)) found.2 in
      let le : found.0 ≤ p = omega (arith, found.1) in
      true≢false (sym (all found.0 le parts.0) ∙ not-true (durable found.0) parts.1)) in
      let reached : made_below t n (p + 1) ≤ durable_prefix t durable n = ltb-false (durable_prefix t durable n) (made_below t n (p + 1)) (sym (missing_up_to (core_event_is is_persist n t) durable (length t) (p + 1) upto) ∙ none) in
      omega (arith, reached, count_strict p p (p + 1) (core_event_is is_persist n t) (omega arith) (omega arith) is)

  -- a persist that isn't durable is none of the first ones
  few_first : (n p : ℕ) → p < length t → core_event_is is_persist n t p ≡ true → durable p ≡ false → durable_prefix t durable n ≤ made_below t n p
  few_first n p inside is not_ =
      let upto : suc p ≤ length t = omega arith in
      let near : p < suc p = omega arith in
      let some : any_below (suc p) (missing n) ≡ true = any_from (suc p) (missing n) p near (and_from (core_event_is is_persist n t p) (not (durable p)) is (ap not not_)) in
      let less : durable_prefix t durable n < made_below t n (suc p) = ltb-true (durable_prefix t durable n) (made_below t n (suc p)) (sym (missing_up_to (core_event_is is_persist n t) durable (length t) (suc p) upto) ∙ some) in
      omega (arith, less, count_yes p (core_event_is is_persist n t) is)

  pub met_firsts : (x : ℕ) → IsMet mode t durable x → (n : ℕ) → wait mode t n x ≤ durable_prefix t durable n
  met_firsts x met n = elim (cases_lt (durable_prefix t durable n) (wait mode t n x)) [
    | inr ge ↦ ge
    | inl less ↦
        let d : ℕ = durable_prefix t durable n in
        let low : d < count_below x (core_event_is is_persist n t) = omega (arith, less, wait_most mode t n x) in
        let found = count_select x (core_event_is is_persist n t) d low in
        let p : ℕ = found.0 in
        let isp = and_parts (event_is is_persist t p) (core_at t p == n) found.2 in
        absurd (omega (
          arith,
          found.3,
          many_first n p (event_within is_persist t p isp.0) found.2 (λ q le isq.
              let parts = and_parts (event_is is_persist t q) (core_at t q == n) isq in
              let c : core_at t q ≡ n = eqb-true (core_at t q) n parts.1 in
              let few : count_below q (core_event_is is_persist n t) ≤ count_below p (core_event_is is_persist n t) = count_mono q p (core_event_is is_persist n t) le in
              let under : count_below q (core_event_is is_persist n t) < wait mode t n x = omega (arith, few, found.3, less) in
              met q parts.0 (rw c under)),
        ))
  ]

  pub firsts_met : (x : ℕ) → ((n : ℕ) → wait mode t n x ≤ durable_prefix t durable n) → IsMet mode t durable x
  firsts_met x each p is counted = elim (cases_Bool (durable p)) [
    | inl yes_ ↦ yes_
    | inr no_ ↦
        let n : ℕ = core_at t p in
        let own : core_event_is is_persist n t p ≡ true = and_from (event_is is_persist t p) (core_at t p == n) is (eq-eqb (core_at t p) n refl) in
        absurd (omega (arith, counted, each n, few_first n p (event_within is_persist t p is) own no_))
  ]

  -- where each event is of one of so many cores, their entries decide
  pub met_within : (cores x : ℕ) → ((i : ℕ) → i < length t → core_at t i < cores) → is_met mode t durable x ≡ not (any_below cores (λ c. nat_lt (durable_prefix t durable c) (wait mode t c x)))
  met_within cores x few = elim (cases_Bool (is_met mode t durable x)) [
    | inl met ↦
        let each = met_firsts x (met_means mode t durable x met) in
        met ∙ sym (ap not (false_from_ne_true (any_below cores (λ c. nat_lt (durable_prefix t durable c) (wait mode t c x))) (λ some.
        let found = any_true cores (λ c. nat_lt (durable_prefix t durable c) (wait mode t c x)) some in
        omega (arith, each found.0, ltb-true (durable_prefix t durable found.0) (wait mode t found.0 x) found.2))))
    | inr unmet ↦ elim (cases_Bool (any_below cores (λ c. nat_lt (durable_prefix t durable c) (wait mode t c x)))) [
      | inl some ↦ unmet ∙ sym (ap not some)
      | inr none ↦ absurd (both_ways (is_met mode t durable x) unmet (met_from mode t durable x (firsts_met x (λ n. elim (cases_lt n cores) [
        | inl lt ↦ ltb-false (durable_prefix t durable n) (wait mode t n x) (any_false cores (λ c. nat_lt (durable_prefix t durable c) (wait mode t c x)) none n lt)
        | inr ge ↦ omega (arith, wait_most mode t n x, no_persists n ge x)
      ]))))
    ]
  ]
    where
      no_persists : (n : ℕ) → cores ≤ n → (k : ℕ) → count_below k (core_event_is is_persist n t) ≤ 0
      no_persists n ge k = elim (cases_lt 0 (count_below k (core_event_is is_persist n t))) [
        | inr none ↦ none
        | inl some ↦
            let found = count_select k (core_event_is is_persist n t) 0 some in
            let parts = and_parts (event_is is_persist t found.0) (core_at t found.0 == n) found.2 in
            let c : core_at t found.0 ≡ n = eqb-true (core_at t found.0) n parts.1 in
            absurd (omega (arith, c, ge, few found.0 (event_within is_persist t found.0 parts.0)))
      ]
