-- Serves clauses closed and joined of durable_sets_are_allowed: marks read as a set.
use Rattle.std.proofs.Common.{◌≡◌, ℕ, ◌<◌, Bool, true, false, ◌||◌, ◌&&◌, inl, inr, List, [], ◌∷◌, ◌++◌, length, sym, ap, ◌∙◌}
use Rattle.std.specs.Prelude.{not, ◌==◌, slice_index, slice_set}
use Rattle.std.proofs.Math.Path.{fun_ext}
use Rattle.std.proofs.lemmas.Bool.{cases_eq, eq-eqb, ne_eqb, or_left, and_left}
use Rattle.std.proofs.lemmas.List.{get_or-set_same, get_or-set_other}
use Rattle.strand_events.specs.Order.{set_of}
use Rattle.strand_rules.proofs.Marks.{held_more}
use Rattle.strand_rules.proofs.Sets.{with_, without}

pub held_grown : (marks : List Bool) → set_of (marks ++ false ∷ []) ≡ set_of marks
held_grown marks = fun_ext (held_more marks)

held_one : (marks : List Bool) (p : ℕ) → p < length marks → (q : ℕ) → set_of (slice_set marks p true) q ≡ with_ p (set_of marks) q
held_one marks p lt q = elim (cases_eq q p) [
  | inl e ↦ ap (set_of (slice_set marks p true)) e ∙ get_or-set_same marks p true false lt ∙ sym (or_left (q == p) (set_of marks q) (eq-eqb q p e))
  | inr ne ↦ get_or-set_other marks p q true false ne ∙ sym (ap (λ b. b || set_of marks q) (ne_eqb q p ne))
]

pub held_set : (marks : List Bool) (p : ℕ) → p < length marks → set_of (slice_set marks p true) ≡ with_ p (set_of marks)
held_set marks p lt = fun_ext (held_one marks p lt)

held_none : (marks : List Bool) (p : ℕ) → p < length marks → (q : ℕ) → set_of (slice_set marks p false) q ≡ without p (set_of marks) q
held_none marks p lt q = elim (cases_eq q p) [
  | inl e ↦ ap (set_of (slice_set marks p false)) e ∙ get_or-set_same marks p false false lt ∙ sym (and_left (not (q == p)) (set_of marks q) (ap not (eq-eqb q p e)))
  | inr ne ↦ get_or-set_other marks p q false false ne ∙ sym (ap (λ b. not b && set_of marks q) (ne_eqb q p ne))
]

pub held_unset : (marks : List Bool) (p : ℕ) → p < length marks → set_of (slice_set marks p false) ≡ without p (set_of marks)
held_unset marks p lt = fun_ext (held_none marks p lt)

-- a number in a list after one is replaced
pub number_set : (xs : List ℕ) (i y : ℕ) → i < length xs → slice_index (slice_set xs i y) i ≡ y
number_set xs i y lt = get_or-set_same xs i y 0 lt

pub number_other : (xs : List ℕ) (i j y : ℕ) → (j ≡ i → ⊥) → slice_index (slice_set xs i y) j ≡ slice_index xs j
number_other xs i j y ne = get_or-set_other xs i j y 0 ne
