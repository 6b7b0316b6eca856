-- Serves clauses value and memory of Hierarchy::access: the members of a row made from another.
use Rattle.std.proofs.Common.{◌≡◌, ℕ, zero, suc, ◌≤◌, ◌⊎◌, Bool, true, false, cond, inl, inr, List, [], ◌∷◌, length, take, Some, None, refl, sym, ap, ◌∙◌, subst, arith}
use Rattle.std.specs.Prelude.{map, slice_get}
use Rattle.std.specs.List.{filter, find}
use Rattle.std.proofs.lemmas.Bool.{cases_Bool}
use Rattle.std.proofs.lemmas.Option.{none-some, same_Some}
use Rattle.strand_cache.specs.declared.held_line.HeldLine.{HeldLine}
use Rattle.strand_cache.specs.Coherence.{Among, HoldsOnce}

pub among_map : (f : HeldLine → HeldLine) (row : List HeldLine) (held : HeldLine) → Among held (map f row) → (x : HeldLine) × Among x row × (held ≡ f x)
among_map f [] held h = elim h [ ]
among_map f (x ∷ row) held (inl same) = (x, inl refl, same)
among_map f (x ∷ row) held (inr later) = let found = among_map f row held later in (found.0, inr found.1, found.2)

pub map_among : (f : HeldLine → HeldLine) (row : List HeldLine) (held : HeldLine) → Among held row → Among (f held) (map f row)
map_among f [] held h = elim h [ ]
map_among f (x ∷ row) held (inl same) = inl (ap f same)
map_among f (x ∷ row) held (inr later) = inr (map_among f row held later)

pub among_filter : (p : HeldLine → Bool) (row : List HeldLine) (held : HeldLine) → Among held (filter p row) → Among held row × (p held ≡ true)
among_filter p [] held h = elim h [ ]
among_filter p (x ∷ row) held h = elim (cases_Bool (p x)) [
  | inl yes_ ↦
      let h' : (held ≡ x) ⊎ Among held (filter p row) = subst (λ b. Among held (cond b (x ∷ filter p row) (filter p row))) yes_ h in
      elim h' [ inl same ↦ (inl same, ap p same ∙ yes_) | inr later ↦ let found = among_filter p row held later in (inr found.0, found.1) ]
  | inr no_ ↦
      let later : Among held (filter p row) = subst (λ b. Among held (cond b (x ∷ filter p row) (filter p row))) no_ h in
      let found = among_filter p row held later in (inr found.0, found.1)
]

pub filter_among : (p : HeldLine → Bool) (row : List HeldLine) (held : HeldLine) → Among held row → p held ≡ true → Among held (filter p row)
filter_among p [] held h e = elim h [ ]
filter_among p (x ∷ row) held (inl same) e = let here : p x ≡ true = ap p (sym same) ∙ e in rw here (inl same)
filter_among p (x ∷ row) held (inr later) e = elim (cases_Bool (p x)) [
  | inl yes_ ↦ rw yes_ (inr (filter_among p row held later e))
  | inr no_ ↦ rw no_ (filter_among p row held later e)
]

pub length_filter : (p : HeldLine → Bool) (row : List HeldLine) → length (filter p row) ≤ length row
length_filter p [] = omega arith
length_filter p (x ∷ row) = elim (cases_Bool (p x)) [
  | inl yes_ ↦ rw yes_ (omega (arith, length_filter p row))
  | inr no_ ↦ rw no_ (omega (arith, length_filter p row))
]

pub among_take : (n : ℕ) (row : List HeldLine) (held : HeldLine) → Among held (take n row) → Among held row
among_take zero row held h = absurd h
among_take (suc n) [] held h = h
among_take (suc n) (x ∷ row) held (inl same) = inl same
among_take (suc n) (x ∷ row) held (inr later) = inr (among_take n row held later)

-- a copy is among the first ones, or it is the last one
pub kept_or_last : (n : ℕ) (row : List HeldLine) (held : HeldLine) → length row ≤ suc n → Among held row → Among held (take n row) ⊎ (slice_get row n ≡ Some held)
kept_or_last zero [] held le h = elim h [ ]
kept_or_last (suc n) [] held le h = elim h [ ]
kept_or_last zero (x ∷ row) held le (inl same) = inr (ap Some (sym same))
kept_or_last zero (x ∷ y ∷ row) held le (inr later) = absurd (omega arith)
kept_or_last zero (x ∷ []) held le (inr later) = absurd later
kept_or_last (suc n) (x ∷ row) held le (inl same) = inl (inl same)
kept_or_last (suc n) (x ∷ row) held le (inr later) = elim (kept_or_last n row held (omega arith) later) [ inl kept ↦ inl (inr kept) | inr last ↦ inr last ]

pub get_among : (n : ℕ) (row : List HeldLine) (held : HeldLine) → slice_get row n ≡ Some held → Among held row
get_among n [] held h = absurd (none-some held h)
get_among zero (x ∷ row) held h = inl (sym (same_Some x held h))
get_among (suc n) (x ∷ row) held h = inr (get_among n row held h)

pub find_among : (p : HeldLine → Bool) (row : List HeldLine) (held : HeldLine) → find p row ≡ Some held → Among held row × (p held ≡ true)
find_among p [] held h = absurd (none-some held h)
find_among p (x ∷ row) held h = elim (cases_Bool (p x)) [
  | inl yes_ ↦
      let is : Some x ≡ Some held = subst (λ b. cond b (Some x) (find p row) ≡ Some held) yes_ h in
      let same = same_Some x held is in (inl (sym same), ap p (sym same) ∙ yes_)
  | inr no_ ↦
      let is : find p row ≡ Some held = subst (λ b. cond b (Some x) (find p row) ≡ Some held) no_ h in
      let found = find_among p row held is in (inr found.0, found.1)
]

pub find_absent : (p : HeldLine → Bool) (row : List HeldLine) → find p row ≡ None → (held : HeldLine) → Among held row → p held ≡ false
find_absent p [] none held among = elim among [ ]
find_absent p (x ∷ row) none held among = elim (cases_Bool (p x)) [
  | inl yes_ ↦ let is : Some x ≡ None = subst (λ b. cond b (Some x) (find p row) ≡ None) yes_ none in absurd (none-some x (sym is))
  | inr no_ ↦
      let is : find p row ≡ None = subst (λ b. cond b (Some x) (find p row) ≡ None) no_ none in
      elim among [ inl same ↦ ap p same ∙ no_ | inr later ↦ find_absent p row is held later ]
]

pub once_map : (f : HeldLine → HeldLine) (row : List HeldLine) → ((x : HeldLine) → (f x).line ≡ x.line) → HoldsOnce row → HoldsOnce (map f row)
once_map f [] same once = tt
once_map f (x ∷ row) same once = (λ held among e. let from = among_map f row held among in once.0 from.0 from.1 (sym (same from.0) ∙ ap (λ h. h.line) (sym from.2) ∙ e ∙ same x), once_map f row same once.1)

pub once_filter : (p : HeldLine → Bool) (row : List HeldLine) → HoldsOnce row → HoldsOnce (filter p row)
once_filter p [] once = tt
once_filter p (x ∷ row) once =
    let rest = once_filter p row once.1 in
    elim (cases_Bool (p x)) [
      | inl yes_ ↦ rw yes_ (λ held among e. let from = among_filter p row held among in once.0 held from.0 e, rest)
      | inr no_ ↦ rw no_ rest
    ]

pub once_take : (n : ℕ) (row : List HeldLine) → HoldsOnce row → HoldsOnce (take n row)
once_take zero row once = tt
once_take (suc n) [] once = tt
once_take (suc n) (x ∷ row) once = (λ held among e. once.0 held (among_take n row held among) e, once_take n row once.1)

-- two copies of one line in a row are one
pub once_same : (row : List HeldLine) (held copy : HeldLine) → HoldsOnce row → Among held row → Among copy row → held.line ≡ copy.line → held ≡ copy
once_same [] held copy once a b e = elim a [ ]
once_same (x ∷ row) held copy once (inl a) (inl b) e = a ∙ sym b
once_same (x ∷ row) held copy once (inl a) (inr b) e = absurd (once.0 copy b (sym e ∙ ap (λ h. h.line) a))
once_same (x ∷ row) held copy once (inr a) (inl b) e = absurd (once.0 held a (e ∙ ap (λ h. h.line) b))
once_same (x ∷ row) held copy once (inr a) (inr b) e = once_same row held copy once.1 a b e
