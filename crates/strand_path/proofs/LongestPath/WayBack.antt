-- Serves longest, by walk: the way back from a member to the one before it, by the links.
use Rattle.std.proofs.Common.{◌≡◌, ℕ, suc, ◌<◌, ◌≤◌, ◌⊎◌, inl, inr, List, [], ◌∷◌, ◌++◌, length, refl, sym, ap, ◌∙◌, arith, cond, subst}
use Rattle.std.specs.Prelude.{slice_index, reverse}
use Rattle.std.proofs.lemmas.Bool.{cases_lt, cases_Bool}
use Rattle.std.proofs.lemmas.List.{get_or_past, reverse-append}
use Rattle.strand_inputs.specs.declared.mode.Mode.{Mode}
use Rattle.strand_events.specs.declared.event.Event.{Event}
use Rattle.strand_events.specs.Trace.{is_persist, event_is}
use Rattle.strand_order.specs.Graph.{is_edge, EdgePath}
use Rattle.strand_order.proofs.Paths.Steps.{edge_less}
use Rattle.strand_path.specs.Building.{own_level}
use Rattle.strand_path.specs.Picking.{IsAppendedPath}
use Rattle.strand_path.specs.Tracing.{AreVias}

-- the list, backwards, has the events of a path from event x to event q, without x
pub record IsBack (mode : Mode) (t : List Event) (firsts vias : List ℕ) (p q x : ℕ) (back : List ℕ) : Type 0 where
  pub at : (x ≡ p) ⊎ ((slice_index firsts x ≡ p) × (1 ≤ slice_index vias x))
  pub way : ((x ≡ q) × (back ≡ [])) ⊎ ((between : List ℕ) × EdgePath mode t x between q × (reverse back ≡ between ++ q ∷ []))

pub back_first : (mode : Mode) (t : List Event) (firsts vias : List ℕ) (p q : ℕ) (back : List ℕ) → back ≡ [] → slice_index firsts q ≡ p → 1 ≤ slice_index vias q → IsBack mode t firsts vias p q q back
back_first mode t firsts vias p q back none first via = record { at = inr (first, via); way = inl (refl, none) }

module _ (mode : Mode) (t : List Event) (levels firsts vias : List ℕ) (a : AreVias mode t levels firsts vias) (p q x : ℕ) (back : List ℕ) (b : IsBack mode t firsts vias p q x back) where
  on_way : (x ≡ p → ⊥) → (slice_index firsts x ≡ p) × (1 ≤ slice_index vias x)
  on_way ne = elim b.at [ inl e ↦ absurd (ne e) | inr on ↦ on ]

  pub back_within : (x ≡ p → ⊥) → (x < length vias) × (1 ≤ slice_index vias x)
  back_within ne =
      let on = on_way ne in
      elim (cases_lt x (length vias)) [ inl lt ↦ (lt, on.1) | inr past ↦ absurd (omega (arith, on.1, get_or_past vias x 0 past)) ]

  pub back_step : (x ≡ p → ⊥) → (i : ℕ) → slice_index vias x ≡ suc i → (i < x) × IsBack mode t firsts vias p q i (back ++ x ∷ [])
  back_step ne i e =
      let v = a.via x i e in
      let on = on_way ne in
      let made : reverse (back ++ x ∷ []) ≡ x ∷ reverse back = reverse-append back (x ∷ []) in (
        edge_less mode t i x v.edge,
        record {
          at = elim (cases_Bool (event_is is_persist t i)) [
            | inl is ↦ inl (sym (ap (λ c. cond c i (slice_index firsts i)) is) ∙ sym v.first ∙ on.0)
            | inr none ↦
                let own : own_level t i ≡ 0 = rw none refl in
                inr (sym (ap (λ c. cond c i (slice_index firsts i)) none) ∙ sym v.first ∙ on.0, a.onward i (omega (arith, own, v.positive)))
          ];
          way = elim b.way [
            | inl (here, none) ↦ inr ([], ap (is_edge mode t i) (sym here) ∙ v.edge, made ∙ ap (λ y. y ∷ reverse back) here ∙ ap (λ ys. q ∷ reverse ys) none)
            | inr (between, path, is) ↦ inr (x ∷ between, (v.edge, path), made ∙ ap (λ ys. x ∷ ys) is)
          ];
        },
      )

  pub back_end : p < q → x ≡ p → (old new : List ℕ) → new ≡ old ++ reverse back → IsAppendedPath mode t p q old new
  back_end lt here old new made = elim b.way [
    | inl (there, none) ↦ absurd (omega (arith, lt, here, there))
    | inr (between, path, is) ↦ record { between = between; path = subst (λ y. EdgePath mode t y between q) here path; made = made ∙ ap (λ ys. old ++ ys) is }
  ]
