-- Serves longest, by route_of.
-- From one member to the next, the events along edges make a route whose persists are the members.
use Rattle.std.proofs.Common.{◌≡◌, ℕ, zero, suc, ◌+◌, ◌-◌, ◌<◌, ◌≤◌, true, inl, inr, List, [], ◌∷◌, ◌++◌, length, map, take, refl, sym, ap, ◌∙◌, arith, subst}
use Rattle.std.specs.Prelude.{slice_index}
use Rattle.std.proofs.lemmas.Bool.{cases_Bool}
use Rattle.std.proofs.lemmas.List.{map-append, take_more}
use Rattle.strand_inputs.specs.declared.mode.Mode.{Mode}
use Rattle.strand_events.specs.declared.event.Event.{Event}
use Rattle.strand_events.specs.Trace.{is_persist, event_is, persist_number}
use Rattle.strand_order.specs.Graph.{is_edge, EdgePath}
use Rattle.strand_path.specs.Checked.{IsRoute, numbers_on, AreLevels}
use Rattle.strand_path.specs.Picking.{IsAppendedPath}
use Rattle.strand_order.proofs.Edges.Ends.{edge_within}
use Rattle.strand_path.proofs.Check.Bounds.{path_lt, up_le}

-- x, then the list, is joined by edges and ends in z
abbrev pub Joins : Mode → List Event → ℕ → List ℕ → ℕ → Type 0
Joins mode t x [] z = x ≡ z
Joins mode t x (y ∷ ys) z = (is_edge mode t x y ≡ true) × Joins mode t y ys z

-- the route has come to the k-th member
pub record IsRouteTo (mode : Mode) (t : List Event) (members : List ℕ) (k : ℕ) (route : List ℕ) : Type 0 where
  pub rest : List ℕ
  pub made : route ≡ slice_index members 0 ∷ rest
  pub joins : Joins mode t (slice_index members 0) rest (slice_index members (k - 1))
  pub numbers : numbers_on t route ≡ map (persist_number t) (take k members)

on_append : (t : List Event) (xs ys : List ℕ) → numbers_on t (xs ++ ys) ≡ numbers_on t xs ++ numbers_on t ys
on_append t [] ys = refl
on_append t (x ∷ xs) ys = elim (cases_Bool (event_is is_persist t x)) [
  | inl is ↦ rw is (ap (λ zs. persist_number t x ∷ zs) (on_append t xs ys))
  | inr none ↦ rw none (on_append t xs ys)
]

numbers_more : (t : List Event) (members : List ℕ) (k : ℕ) → k < length members → map (persist_number t) (take (k + 1) members) ≡ map (persist_number t) (take k members) ++ persist_number t (slice_index members k) ∷ []
numbers_more t members k lt = ap (map (persist_number t)) (take_more members k 0 lt) ∙ map-append (persist_number t) (take k members) (slice_index members k ∷ [])

on_one : (t : List Event) (x : ℕ) → event_is is_persist t x ≡ true → numbers_on t (x ∷ []) ≡ persist_number t x ∷ []
on_one t x is = rw is refl

module _ (mode : Mode) (t : List Event) where
  -- no persist stands on a path over which the level rises by one
  none_on : (levels : List ℕ) → AreLevels mode t levels → (p : ℕ) (xs : List ℕ) (q : ℕ) → EdgePath mode t p xs q → event_is is_persist t q ≡ true → slice_index levels q ≤ suc (slice_index levels p) → numbers_on t xs ≡ []
  none_on levels a p [] q path is near = refl
  none_on levels a p (x ∷ xs) q path is near = elim (cases_Bool (event_is is_persist t x)) [
    | inl here ↦ absurd (omega (arith, path_lt mode t levels a p [] x path.0 here, path_lt mode t levels a x xs q path.1 is, near))
    | inr none ↦ rw none (none_on levels a x xs q path.1 is (omega (arith, up_le mode t levels a p x path.0, near)))
  ]

  joins_more : (x : ℕ) (ys : List ℕ) (z : ℕ) (xs : List ℕ) (q : ℕ) → Joins mode t x ys z → EdgePath mode t z xs q → Joins mode t x (ys ++ (xs ++ q ∷ [])) q
  joins_more x [] z [] q j path = (ap (λ y. is_edge mode t y q) j ∙ path, refl)
  joins_more x [] z (w ∷ ws) q j path = (ap (λ y. is_edge mode t y w) j ∙ path.0, joins_more w [] w ws q refl path.1)
  joins_more x (y ∷ ys) z xs q j path = (j.0, joins_more y ys z xs q j.1 path)

  joins_route : (x : ℕ) (ys : List ℕ) (z : ℕ) → x < length t → Joins mode t x ys z → IsRoute mode t (x ∷ ys)
  joins_route x ys z lt j = record { within = within x ys z lt j; joined = joined x ys z j }
    where
      within : (x : ℕ) (ys : List ℕ) (z : ℕ) → x < length t → Joins mode t x ys z → (k : ℕ) → k < length (x ∷ ys) → slice_index (x ∷ ys) k < length t
      within x ys z lt j zero inside = lt
      within x [] z lt j (suc k) inside = absurd (omega (arith, inside))
      within x (y ∷ ys) z lt j (suc k) inside = within y ys z (edge_within mode t x y j.0) j.1 k (omega (arith, inside))

      joined : (x : ℕ) (ys : List ℕ) (z : ℕ) → Joins mode t x ys z → (k : ℕ) → suc k < length (x ∷ ys) → is_edge mode t (slice_index (x ∷ ys) k) (slice_index (x ∷ ys) (suc k)) ≡ true
      joined x [] z j k inside = absurd (omega (arith, inside))
      joined x (y ∷ ys) z j zero inside = j.0
      joined x (y ∷ ys) z j (suc k) inside = joined y ys z j.1 k (omega (arith, inside))

  pub route_more : (levels members : List ℕ) (k : ℕ) (route new : List ℕ) → AreLevels mode t levels → k < length members → event_is is_persist t (slice_index members k) ≡ true → slice_index levels (slice_index members k) ≤ suc (slice_index levels (slice_index members (k - 1))) → IsRouteTo mode t members k route → IsAppendedPath mode t (slice_index members (k - 1)) (slice_index members k) route new → IsRouteTo mode t members (k + 1) new
  route_more levels members k route new a lt is near r w =
      let q = slice_index members k in
      let last : k + 1 - 1 ≡ k = omega arith in
      record {
        rest = r.rest ++ (w.between ++ q ∷ []);
        made = w.made ∙ ap (λ xs. xs ++ (w.between ++ q ∷ [])) r.made;
        joins = subst (λ x. Joins mode t (slice_index members 0) (r.rest ++ (w.between ++ q ∷ [])) (slice_index members x)) (sym last) (joins_more (slice_index members 0) r.rest (slice_index members (k - 1)) w.between q r.joins w.path);
        numbers = ap (numbers_on t) w.made ∙ on_append t route (w.between ++ q ∷ []) ∙ ap (λ xs. xs ++ numbers_on t (w.between ++ q ∷ [])) r.numbers
            ∙ ap (λ xs. map (persist_number t) (take k members) ++ xs) (on_append t w.between (q ∷ []) ∙ ap (λ xs. xs ++ numbers_on t (q ∷ [])) (none_on levels a (slice_index members (k - 1)) w.between q w.path is near) ∙ on_one t q is)
            ∙ sym (numbers_more t members k lt);
      }

  pub route_whole : (members route : List ℕ) (k : ℕ) → slice_index members 0 < length t → IsRouteTo mode t members k route → IsRoute mode t route
  route_whole members route k lt r = subst (λ xs. IsRoute mode t xs) (sym r.made) (joins_route (slice_index members 0) r.rest (slice_index members (k - 1)) lt r.joins)
