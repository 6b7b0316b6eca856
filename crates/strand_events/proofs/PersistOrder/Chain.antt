-- Serves clause counted of waits_cover_other_strands, and durable_sets_are_allowed of strand_rules.
-- A chain of direct order either stays within a strand or passes an access whose core had made its persists durable.
use Rattle.std.proofs.Common.{◌≡◌, ℕ, ◌<◌, ◌≤◌, true, ◌⊎◌, inl, inr, List, [], ◌∷◌, refl, ◌∙◌, arith}
use Rattle.strand_inputs.specs.declared.mode.Mode.{Mode}
use Rattle.strand_events.specs.declared.event.Event.{Event}
use Rattle.strand_events.specs.Trace.{is_persist, core_at, word_at, event_is, same_strand, epoch}
use Rattle.strand_events.specs.Order.{Set, directly_before, Leads, Before}
use Rattle.strand_events.proofs.PersistOrder.Epochs.{epochs_rise, strand_parts, strand_self, strand_chain, direct_parts}

-- every persist of a's core at or before a is durable
abbrev pub AllDurableTo : List Event → Set → ℕ → Type 0
AllDurableTo t durable a = (p : ℕ) → event_is is_persist t p ≡ true → core_at t p ≡ core_at t a → p ≤ a → durable p ≡ true

-- what direct order of a and b means for the persists up to a: they stay in the strand, or b holds them all
abbrev pub Tied : Mode → List Event → (ℕ → ℕ → Type 0) → ℕ → ℕ → Type 0
Tied mode t Held a b = ((same_strand mode t a b ≡ true) × ((epoch mode t a < epoch mode t b) ⊎ (word_at t a ≡ word_at t b))) ⊎ ((p : ℕ) → event_is is_persist t p ≡ true → core_at t p ≡ core_at t a → p ≤ a → Held p b)

-- persist p, which is before access b or is b, is held by b, or is of b's strand with a lower epoch or b's word
abbrev pub Reaches : Mode → List Event → (ℕ → ℕ → Type 0) → ℕ → ℕ → Type 0
Reaches mode t Held p b = Held p b ⊎ ((same_strand mode t p b ≡ true) × (p ≤ b) × ((epoch mode t p < epoch mode t b) ⊎ (word_at t p ≡ word_at t b)))

module _ (mode : Mode) (t : List Event) (Held : ℕ → ℕ → Type 0) (p : ℕ) (is : event_is is_persist t p ≡ true) where
  reaches_step : (a b : ℕ) → a < b → (Held p a → Held p b) → Tied mode t Held a b → Reaches mode t Held p a → Reaches mode t Held p b
  reaches_step a b lt rises tied (inl held) = inl (rises held)
  reaches_step a b lt rises (inr all) (inr (same, le, why)) = inl (all p is ((strand_parts mode t p a same).0) le)
  reaches_step a b lt rises (inl (strand, inl higher)) (inr (same, le, why)) = inr (strand_chain mode t p a b same strand, omega arith, inl (omega (arith, epochs_rise mode t p a same le)))
  reaches_step a b lt rises (inl (strand, inr word)) (inr (same, le, inl lower)) = inr (strand_chain mode t p a b same strand, omega arith, inl (omega (arith, epochs_rise mode t a b strand (omega arith))))
  reaches_step a b lt rises (inl (strand, inr word)) (inr (same, le, inr alike)) = inr (strand_chain mode t p a b same strand, omega arith, inr (alike ∙ word))

  module _ (rises : (a b : ℕ) → directly_before mode t a b ≡ true → Held p a → Held p b) (ties : (a b : ℕ) → directly_before mode t a b ≡ true → Tied mode t Held a b) where
    reaches_chain : (xs : List ℕ) (a b : ℕ) → Leads mode t a xs b → Reaches mode t Held p a → Reaches mode t Held p b
    reaches_chain [] a b leads reach = reaches_step a b ((direct_parts mode t a b leads).0) (rises a b leads) (ties a b leads) reach
    reaches_chain (x ∷ xs) a b leads reach = reaches_chain xs x b leads.1 (reaches_step a x ((direct_parts mode t a x leads.0).0) (rises a x leads.0) (ties a x leads.0) reach)

    -- for each access b that p is before: b holds p, or p is of b's strand with a lower epoch or b's word
    pub reaches : (b : ℕ) → Before mode t p b → Reaches mode t Held p b
    reaches b before = reaches_chain before.0 p b before.1 (inr (strand_self mode t p, omega arith, inr refl))
