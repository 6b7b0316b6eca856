-- Serves clause marks of Pipeline::durable: marks by event number, and the marks of the persists among them.
use Rattle.std.proofs.Common.{◌≡◌, ℕ, zero, suc, ◌<◌, ◌≤◌, Bool, true, false, List, [], ◌∷◌, ◌++◌, length, map, refl, sym, ap, subst, ◌∙◌, arith, inl, inr}
use Rattle.std.specs.Prelude.{slice_set, Some, None}
use Rattle.std.specs.declared.option.Option.{Option}
use Rattle.std.proofs.Math.Seq.{set-append_seam}
use Rattle.std.proofs.lemmas.Bool.{cases_Bool, cases_eq, true≢false}
use Rattle.std.proofs.lemmas.List.{map-append, length-map, get_or-set_same, get_or-set_other, get_or_past, set-append_left}
use Rattle.strand_base.specs.Counting.{count_below, list_below}
use Rattle.strand_base.proofs.BelowBound.{at_or_below, count_strict, list_length}
use Rattle.strand_events.specs.declared.event.Event.{Event}
use Rattle.strand_events.specs.Trace.{is_persist, persists_of}
use Rattle.strand_events.specs.Order.{set_of}
use Rattle.strand_events.proofs.TraceInvariant.{persists_next, persists_most}
use Rattle.strand_rules.specs.Visible.{with_event}
use Rattle.strand_rules.specs.Cycle.{unmarked}
use Rattle.strand_rules.specs.Looking.{persists_unmarked}

-- a new event isn't held
pub held_more : (marks : List Bool) (k : ℕ) → set_of (marks ++ false ∷ []) k ≡ set_of marks k
held_more [] zero = refl
held_more [] (suc k) = refl
held_more (m ∷ marks) zero = refl
held_more (m ∷ marks) (suc k) = held_more marks k

pub held_unmarked : (marks : List Bool) (e : Option Event) (k : ℕ) → set_of (unmarked marks e) k ≡ set_of marks k
held_unmarked marks None k = refl
held_unmarked marks (Some e) k = held_more marks k

-- a number that is held is within the marks
pub held_within : (marks : List Bool) (k : ℕ) → set_of marks k ≡ true → k < length marks
held_within [] k h = absurd (true≢false (sym h))
held_within (m ∷ marks) zero h = omega arith
held_within (m ∷ marks) (suc k) h = let below = held_within marks k h in omega (arith, below)

pub held_set : (marks : List Bool) (p : ℕ) (b : Bool) → p < length marks → set_of (slice_set marks p b) p ≡ b
held_set marks p b lt = get_or-set_same marks p b false lt

pub held_other : (marks : List Bool) (p : ℕ) (b : Bool) (k : ℕ) → (k ≡ p → ⊥) → set_of (slice_set marks p b) k ≡ set_of marks k
held_other marks p b k other = get_or-set_other marks p k b false other

pub map_alike : {X Y : Type 0} (f h : X → Y) (xs : List X) → ((k : X) → f k ≡ h k) → map f xs ≡ map h xs
map_alike f h [] same = refl
map_alike f h (x ∷ xs) same = cc (same x, map_alike f h xs same)

list_yes : (n : ℕ) (f : ℕ → Bool) → f n ≡ true → list_below (suc n) f ≡ list_below n f ++ n ∷ []
list_yes n f e = rw e refl

list_no : (n : ℕ) (f : ℕ → Bool) → f n ≡ false → list_below (suc n) f ≡ list_below n f
list_no n f e = rw e refl

persists_grown : (t : List Event) (e : Event) (marks : List Bool) (b : Bool) → is_persist e ≡ b → length marks ≡ length t
    → map (set_of marks) (persists_of (t ++ e ∷ [])) ≡ persists_unmarked (map (set_of marks) (persists_of t)) (Some e)
persists_grown t e marks true is same =
    let past : set_of marks (length t) ≡ false = get_or_past marks (length t) false (omega (arith, same)) in
    rw (persists_next t e, is) (map-append (set_of marks) (persists_of t) (length t ∷ []) ∙ ap (λ b. map (set_of marks) (persists_of t) ++ b ∷ []) past)
persists_grown t e marks false is same = rw (persists_next t e, is) refl

-- a new persist isn't durable
pub marks_grown : (t : List Event) (e : Option Event) (marks : List Bool) → length marks ≡ length t
    → map (set_of (unmarked marks e)) (persists_of (with_event t e)) ≡ persists_unmarked (map (set_of marks) (persists_of t)) e
marks_grown t None marks same = refl
marks_grown t (Some e) marks same = map_alike (set_of (marks ++ false ∷ [])) (set_of marks) (persists_of (t ++ e ∷ [])) (held_more marks) ∙ persists_grown t e marks (is_persist e) refl same

-- a mark past the list changes nothing of it
marks_past : (n : ℕ) (f : ℕ → Bool) (marks : List Bool) (p : ℕ) (b : Bool) → n ≤ p → map (set_of (slice_set marks p b)) (list_below n f) ≡ map (set_of marks) (list_below n f)
marks_past zero f marks p b le = refl
marks_past (suc n) f marks p b le = elim (cases_Bool (f n)) [
  | inl yes_ ↦
      let last : set_of (slice_set marks p b) n ≡ set_of marks n = held_other marks p b n (λ same. omega (arith, same)) in
      rw (list_yes n f yes_) (map-append (set_of (slice_set marks p b)) (list_below n f) (n ∷ []) ∙ cc (last, marks_past n f marks p b (omega arith)) ∙ sym (map-append (set_of marks) (list_below n f) (n ∷ [])))
  | inr no_ ↦ rw (list_no n f no_) (marks_past n f marks p b (omega arith))
]

marks_last : (n : ℕ) (f : ℕ → Bool) (marks : List Bool) (b : Bool) → f n ≡ true → n < length marks
    → map (set_of (slice_set marks n b)) (list_below (suc n) f) ≡ slice_set (map (set_of marks) (list_below (suc n) f)) (count_below n f) b
marks_last n f marks b is within =
    let front = map (set_of marks) (list_below n f) in
    let place : count_below n f ≡ length front = omega (arith, list_length n f, length-map (list_below n f) (set_of marks)) in
    rw (list_yes n f is) (
    map-append (set_of (slice_set marks n b)) (list_below n f) (n ∷ [])
    ∙ cc (held_set marks n b within, marks_past n f marks n b (omega arith))
    ∙ sym (set-append_seam front (set_of marks n) [] b)
    ∙ ap (λ i. slice_set (front ++ set_of marks n ∷ []) i b) (sym place)
    ∙ ap (λ xs. slice_set xs (count_below n f) b) (sym (map-append (set_of marks) (list_below n f) (n ∷ [])))
    )

-- to mark a number is to mark its place in the list of those that pass
pub marks_set : (n : ℕ) (f : ℕ → Bool) (marks : List Bool) (p : ℕ) (b : Bool) → p < n → f p ≡ true → p < length marks
    → map (set_of (slice_set marks p b)) (list_below n f) ≡ slice_set (map (set_of marks) (list_below n f)) (count_below p f) b
marks_set zero f marks p b lt is within = absurd (omega arith)
marks_set (suc n) f marks p b lt is within = elim (cases_eq p n) [
  | inl same ↦
      let Marks : ℕ → Type 0 = λ q. map (set_of (slice_set marks q b)) (list_below (suc n) f) ≡ slice_set (map (set_of marks) (list_below (suc n) f)) (count_below q f) b in
      subst Marks (sym same) (marks_last n f marks b (ap f (sym same) ∙ is) (omega (arith, same)))
  | inr other ↦
      let below : p < n = at_or_below lt other in
      elim (cases_Bool (f n)) [
        | inl yes_ ↦
            let last : set_of (slice_set marks p b) n ≡ set_of marks n = held_other marks p b n (λ e. other (sym e)) in
            let place : count_below p f < length (map (set_of marks) (list_below n f)) = omega (arith, count_strict p p n f (omega arith) below is, list_length n f, length-map (list_below n f) (set_of marks)) in
            rw (list_yes n f yes_) (
            map-append (set_of (slice_set marks p b)) (list_below n f) (n ∷ [])
            ∙ cc (last, marks_set n f marks p b below is within)
            ∙ sym (set-append_left (map (set_of marks) (list_below n f)) (set_of marks n ∷ []) (count_below p f) b place)
            ∙ ap (λ xs. slice_set xs (count_below p f) b) (sym (map-append (set_of marks) (list_below n f) (n ∷ [])))
            )
        | inr no_ ↦ rw (list_no n f no_) (marks_set n f marks p b below is within)
      ]
]

-- there are no more persists than events
pub marks_few : (t : List Event) (marks : List Bool) → length (map (set_of marks) (persists_of t)) ≤ length t
marks_few t marks = omega (arith, length-map (persists_of t) (set_of marks), persists_most t)
