-- Serves clauses handed and counted of waits_cover_other_strands, and durable_sets_are_allowed.
-- A persist before an access is one that its wait counts, or stays in its strand.
use Rattle.std.proofs.Common.{◌≡◌, ℕ, zero, suc, ◌<◌, ◌↔◌, true, false, ◌⊎◌, inl, inr, List, [], ◌∷◌, refl, sym, subst, arith}
use Rattle.std.proofs.lemmas.Bool.{cases_Bool, both_ways}
use Rattle.strand_inputs.specs.declared.mode.Mode.{Mode}
use Rattle.strand_events.specs.declared.event.Event.{Event}
use Rattle.strand_events.specs.Trace.{is_persist, word_at, event_is, same_strand, epoch}
use Rattle.strand_events.specs.Order.{directly_before, Leads, Before}
use Rattle.strand_events.proofs.PersistOrder.Laws.{before_chain}
use Rattle.strand_events.proofs.PersistOrder.Epochs.{direct_parts, conflict_parts, core_linked, core_joined}
use Rattle.strand_events.proofs.PersistOrder.Chain.{Tied, Reaches, reaches}
use Rattle.strand_events.specs.Waits.{wait_counts, IsHandedTo}
use Rattle.strand_events.proofs.Waits.Counts.{Counts, counts_made, counts_on, counted_why}
use Rattle.strand_events.proofs.Waits.IsMet.{counts_from, counts_means}

module _ (mode : Mode) (t : List Event) where
  -- direct order stays within a strand, or its later access counts all that was made up to the first
  tied : (a b : ℕ) → directly_before mode t a b ≡ true → Tied mode t (λ p x. Counts mode t x p) a b
  tied a b on = elim (cases_Bool (same_strand mode t a b)) [
    | inr apart ↦ inr (λ p is c le. counts_made mode t a b on apart p is (record { core = c; upto = le }))
    | inl same ↦
        let parts = direct_parts mode t a b on in
        elim parts.3 [
          | inl conflict ↦ inl (same, inr ((conflict_parts t a b conflict).2))
          | inr (c, orders) ↦ elim (core_linked mode t a b parts.0 parts.1 c orders) [
            | inl (strand, low) ↦ inl (same, inl low)
            | inr join ↦ inl (same, inl (core_joined mode t a b parts.0 parts.1 same join))
          ]
        ]
  ]

  pub waits_count : (p b : ℕ) → event_is is_persist t p ≡ true → Before mode t p b → Reaches mode t (λ x y. Counts mode t y x) p b
  waits_count p b is before = reaches mode t (λ x y. Counts mode t y x) p is (λ a x on counted. counts_on mode t a x on p counted) tied b before

  pub accounted : (p b : ℕ) → event_is is_persist t p ≡ true → Before mode t p b → (wait_counts mode t b p ≡ true) ⊎ ((same_strand mode t p b ≡ true) × ((epoch mode t p < epoch mode t b) ⊎ (word_at t p ≡ word_at t b)))
  accounted p b is before = elim (waits_count p b is before) [
    | inl counted ↦ inl (counts_from mode t b p is counted)
    | inr (same, le, why) ↦ inr (same, why)
  ]

  -- a persist of another strand that is before the access is counted
  cover : (p b : ℕ) → event_is is_persist t p ≡ true → Before mode t p b → same_strand mode t p b ≡ false → Counts mode t b p
  cover p b is before apart = elim (waits_count p b is before) [ inl counted ↦ counted | inr (same, le, why) ↦ absurd (both_ways (same_strand mode t p b) apart same) ]

  pub covered : (p b : ℕ) → event_is is_persist t p ≡ true → Before mode t p b → same_strand mode t p b ≡ false → wait_counts mode t b p ≡ true
  covered p b is before apart = counts_from mode t b p is (cover p b is before apart)

  counts_chain : (xs : List ℕ) (y x p : ℕ) → Leads mode t y xs x → Counts mode t y p → Counts mode t x p
  counts_chain [] y x p leads counted = counts_on mode t y x leads p counted
  counts_chain (z ∷ zs) y x p leads counted = counts_chain zs z x p leads.1 (counts_on mode t y z leads.0 p counted)

  counts_before : (y x p : ℕ) → Before mode t y x → Counts mode t y p → Counts mode t x p
  counts_before y x p before counted = counts_chain before.0 y x p before.1 counted

  handed_by : (n x p : ℕ) → x < n → Counts mode t x p → IsHandedTo mode t p x
  handed_by zero x p lt counted = absurd (omega arith)
  handed_by (suc n) x p lt counted =
      let why = counted_why mode t x p counted in
      let a : ℕ = why.0 in
      elim why.2 [
        | inr (apart, made) ↦ (a, x, record { core = made.core; upto = made.upto; direct = why.1; apart = apart }, inl refl)
        | inl earlier ↦
            let below : a < n = omega (arith, (direct_parts mode t a x why.1).0) in
            let handed = handed_by n a p below earlier in (
              handed.0,
              handed.1,
              handed.2,
              elim handed.3 [
                | inl e ↦ inr ([], subst (λ y. directly_before mode t y x ≡ true) (sym e) why.1)
                | inr before ↦ inr (before_chain mode t handed.1 a x before ([], why.1))
              ],
            )
      ]

  -- a wait counts a persist exactly where it was handed on from another strand to the access or to one before it
  pub handed_to : (p x : ℕ) → event_is is_persist t p ≡ true → (wait_counts mode t x p ≡ true) ↔ IsHandedTo mode t p x
  handed_to p x is = (
    λ h. handed_by (suc x) x p (omega arith) ((counts_means mode t x p h).1),
    λ (a, y, crosses, on).
        let here = counts_made mode t a y crosses.direct crosses.apart p is (record { core = crosses.core; upto = crosses.upto }) in
        counts_from mode t x p is (elim on [ inl e ↦ subst (λ z. Counts mode t z p) e here | inr before ↦ counts_before y x p before here ]),
  )
