-- Serves the clause of put_in_order, and what the assembler knows of its symbols: their order.
use Rattle.std.proofs.Common.{◌≡◌, zero, suc, arith, inl, inr, ◌⊎◌, Bool, true, false, cond, List, [], ◌∷◌, get_or, refl, sym, ap, subst, ◌∙◌}
use Rattle.std.specs.List.{AllByRecursion, AllPairs, Contains}
use Rattle.std.specs.List.Sorted.{IsPermutation, IsSortedBy}
use Rattle.std.specs.Cmp.Lexicographic.{slice_cmp}
use Rattle.std.specs.Ordering.{nat_cmp, ordering_then, ordering_reverse, is_lt, is_gt, is_eq}
use Rattle.std.specs.Str.{bytes_eq}
use Rattle.std.specs.declared.cmp.Ordering.{Ordering}
use Rattle.std.specs.declared.cmp.Ordering.TheVariants.{Less, Equal, Greater}
use Rattle.std.proofs.lemmas.Bool.{true≢false}
use Rattle.std.proofs.lemmas.Cmp.{tied_itself}
use Rattle.std.proofs.lemmas.List.Elements.{recursion_from_All, All-from_recursion}
use Rattle.std.proofs.lemmas.List.Kept.{AllPairs-cons}
use Rattle.std.proofs.lemmas.List.Sorted.{ranks_by, sorted_far, Contains-permutation, IsPermutation-refl, IsPermutation-cons, IsPermutation-trans, IsPermutation-sym, IsPermutation-middle}
use Rattle.std.proofs.lemmas.Map.Keys.{apart_from_distinct, IsDistinct-from_apart, IsDistinct-IsPermutation}
use Rattle.std.proofs.lemmas.Map.Text.{is_eq-slice_cmp}
use Rattle.strand_image.specs.Symbols.{region_number, symbol_cmp, placed_in, in_order}
use Rattle.strand_image.specs.declared.symbol.Symbol.{Symbol}
use Rattle.strand_image.proofs.ByName.{not_both, is_turned, both_equal}
use Rattle.strand_image.proofs.Rules.{symbol_order}

-- symbols that ascend strictly
abbrev pub Strict : List Symbol → Type 0
Strict ss = AllPairs (λ a b. symbol_cmp a b ≡ Less) ss

-- symbols of which no two are equal in their order
abbrev pub NoTies : List Symbol → Type 0
NoTies ss = AllPairs (λ a b. is_eq (symbol_cmp a b) ≡ false) ss

abbrev pub DifferInName : List Symbol → Type 0
DifferInName ss = AllPairs (λ a b. bytes_eq a.name b.name ≡ false) ss

pub no_ties : (ss : List Symbol) → DifferInName ss → NoTies ss
no_ties ss h i j d lt below = apart (get_or ss i d) (get_or ss j d) _ refl (h i j d lt below)
  where
    apart : (a b : Symbol) (o : Ordering) → symbol_cmp a b ≡ o → bytes_eq a.name b.name ≡ false → is_eq o ≡ false
    apart a b Less e f = refl
    apart a b Greater e f = refl
    apart a b Equal e f =
        let places = both_equal (nat_cmp (region_number a.region) (region_number b.region)) (ordering_then (nat_cmp a.place b.place) (slice_cmp nat_cmp a.name b.name)) e in
        let names = both_equal (nat_cmp a.place b.place) (slice_cmp nat_cmp a.name b.name) places.1 in
        absurd (true≢false (ap is_eq (sym names.1) ∙ is_eq-slice_cmp a.name b.name ∙ f))

-- a member of a list with a head
member : (x : Symbol) (xs : List Symbol) (z : Symbol) → Contains (x ∷ xs) z → (x ≡ z) ⊎ Contains xs z
member x xs z (zero, lt, e) = inl e
member x xs z (suc k, lt, e) = inr (k, (omega arith), e)

later : (x : Symbol) (xs : List Symbol) (z : Symbol) → Contains xs z → Contains (x ∷ xs) z
later x xs z (k, lt, e) = (suc k, (omega arith), e)

above : (x : Symbol) (xs : List Symbol) (z : Symbol) → Strict (x ∷ xs) → Contains xs z → symbol_cmp x z ≡ Less
above x xs z strict (k, lt, e) = subst (λ (s : Symbol). symbol_cmp x s ≡ Less) e (strict 0 (suc k) z (omega arith) (omega arith))

rest_strict : (x : Symbol) (xs : List Symbol) → Strict (x ∷ xs) → Strict xs
rest_strict x xs strict i j d lt below = strict (suc i) (suc j) d (omega arith) (omega arith)

same_head : (x y : Symbol) (xs ys : List Symbol) → Strict (x ∷ xs) → Strict (y ∷ ys) → Contains (y ∷ ys) x → Contains (x ∷ xs) y → x ≡ y
same_head x y xs ys s t a b =
    elim (member y ys x a) [
      | inl e ↦ sym e
      | inr c ↦ elim (member x xs y b) [
        | inl e ↦ e
        | inr d ↦ absurd (not_both symbol_order x y (above x xs y s d) (above y ys x t c))
      ]
    ]

rest_same : (x : Symbol) (xs ys : List Symbol) → Strict (x ∷ xs) → ((z : Symbol) → Contains (x ∷ xs) z → Contains (x ∷ ys) z) → (z : Symbol) → Contains xs z → Contains ys z
rest_same x xs ys strict to z at =
    elim (member x ys z (to z (later x xs z at))) [
      | inl e ↦
          let less : symbol_cmp x z ≡ Less = above x xs z strict at in
          let tied : symbol_cmp x z ≡ Equal = subst (λ (s : Symbol). symbol_cmp x s ≡ Equal) e (tied_itself symbol_order x) in
          absurd cc
      | inr there ↦ there
    ]

-- lists that ascend and have the same members are one list
pub same_list : (xs ys : List Symbol) → Strict xs → Strict ys → ((z : Symbol) → Contains xs z → Contains ys z) → ((z : Symbol) → Contains ys z → Contains xs z) → xs ≡ ys
same_list [] [] s t to from = refl
same_list [] (y ∷ ys) s t to from = let c = from y (0, (omega arith), refl) in absurd (omega arith)
same_list (x ∷ xs) [] s t to from = let c = to x (0, (omega arith), refl) in absurd (omega arith)
same_list (x ∷ xs) (y ∷ ys) s t to from =
    let head : x ≡ y = same_head x y xs ys s t (to x (0, (omega arith), refl)) (from y (0, (omega arith), refl)) in
    let to_x : (z : Symbol) → Contains (x ∷ xs) z → Contains (x ∷ ys) z = subst (λ (h : Symbol). (z : Symbol) → Contains (x ∷ xs) z → Contains (h ∷ ys) z) (sym head) to in
    let from_x : (z : Symbol) → Contains (x ∷ ys) z → Contains (x ∷ xs) z = subst (λ (h : Symbol). (z : Symbol) → Contains (h ∷ ys) z → Contains (x ∷ xs) z) (sym head) from in
    let strict_x : Strict (x ∷ ys) = subst (λ (h : Symbol). Strict (h ∷ ys)) (sym head) t in
    let rest = same_list xs ys (rest_strict x xs s) (rest_strict y ys t) (rest_same x xs ys s to_x) (rest_same x ys xs strict_x from_x) in
    ap (λ (l : List Symbol). x ∷ l) rest ∙ ap (λ (h : Symbol). h ∷ ys) head

-- what stands in order has the symbols that were put in order
pub placed_moved : (s : Symbol) (ss : List Symbol) → IsPermutation (placed_in s ss) (s ∷ ss)
placed_moved s [] = IsPermutation-refl (s ∷ [])
placed_moved s (t ∷ ts) = by_test (is_gt (symbol_cmp s t)) (placed_moved s ts)
  where
    by_test : (b : Bool) → IsPermutation (placed_in s ts) (s ∷ ts) → IsPermutation (cond b (t ∷ placed_in s ts) (s ∷ t ∷ ts)) (s ∷ t ∷ ts)
    by_test true more = IsPermutation-trans (t ∷ placed_in s ts) (t ∷ s ∷ ts) (s ∷ t ∷ ts) (IsPermutation-cons t (placed_in s ts) (s ∷ ts) more) (IsPermutation-middle (t ∷ []) s ts)
    by_test false more = IsPermutation-refl (s ∷ t ∷ ts)

pub order_moved : (ss : List Symbol) → IsPermutation (in_order ss) ss
order_moved [] = IsPermutation-refl []
order_moved (s ∷ ss) = IsPermutation-trans (placed_in s (in_order ss)) (s ∷ in_order ss) (s ∷ ss) (placed_moved s (in_order ss)) (IsPermutation-cons s (in_order ss) ss (order_moved ss))

-- Sorted symbols of which no two are equal ascend strictly.
pub sorted_strict : (ss : List Symbol) → NoTies ss → IsSortedBy (λ x y. is_lt (symbol_cmp x y)) ss → Strict ss
sorted_strict ss apart sorted i j d lt below =
    let a = get_or ss i d in
    let b = get_or ss j d in
    let far = sorted_far (λ x y. is_lt (symbol_cmp x y)) (ranks_by symbol_order (λ x. x)) ss sorted i j d (omega arith) below in
    is_turned (symbol_cmp a b) (symbol_cmp b a) (symbol_order.antisymm a b) far
    (λ tied. true≢false (sym (ap is_eq (symbol_order.antisymm a b ∙ ap ordering_reverse tied)) ∙ apart i j d lt below))

tie_flips : (x y : Symbol) → is_eq (symbol_cmp x y) ≡ is_eq (symbol_cmp y x)
tie_flips x y = ap is_eq (symbol_order.antisymm x y) ∙ turned (symbol_cmp y x)
  where
    turned : (o : Ordering) → is_eq (ordering_reverse o) ≡ is_eq o
    turned Less = refl
    turned Equal = refl
    turned Greater = refl

pub apart_moved : (xs ys : List Symbol) → IsPermutation xs ys → NoTies xs → NoTies ys
apart_moved xs ys moved apart i j d lt below =
    apart_from_distinct (λ x y. is_eq (symbol_cmp x y)) ys i j d (IsDistinct-IsPermutation (λ x y. is_eq (symbol_cmp x y)) tie_flips xs ys moved (IsDistinct-from_apart (λ x y. is_eq (symbol_cmp x y)) xs apart)) lt below

-- What stands in order ascends.
placed_above : (t s : Symbol) (ss : List Symbol) → symbol_cmp t s ≡ Less → AllByRecursion (λ y. symbol_cmp t y ≡ Less) ss → AllByRecursion (λ y. symbol_cmp t y ≡ Less) (placed_in s ss)
placed_above t s [] e all = (e, tt)
placed_above t s (u ∷ us) e all = by_test (is_gt (symbol_cmp s u)) (placed_above t s us e all.1)
  where
    by_test : (b : Bool) → AllByRecursion (λ y. symbol_cmp t y ≡ Less) (placed_in s us) → AllByRecursion (λ y. symbol_cmp t y ≡ Less) (cond b (u ∷ placed_in s us) (s ∷ u ∷ us))
    by_test true more = (all.0, more)
    by_test false more = (e, all)

abbrev pub Rises : List Symbol → Type 0
Rises [] = Unit {0}
Rises (s ∷ ss) = AllByRecursion (λ y. symbol_cmp s y ≡ Less) ss × Rises ss

all_above : (s t : Symbol) (ts : List Symbol) → symbol_cmp s t ≡ Less → AllByRecursion (λ y. symbol_cmp t y ≡ Less) ts → AllByRecursion (λ y. symbol_cmp s y ≡ Less) ts
all_above s t [] e all = tt
all_above s t (u ∷ us) e all = (symbol_order.trans s t u e all.0, all_above s t us e all.1)

placed_rises : (s : Symbol) (ss : List Symbol) → AllByRecursion (λ y. is_eq (symbol_cmp s y) ≡ false) ss → Rises ss → Rises (placed_in s ss)
placed_rises s [] apart up = (tt, tt)
placed_rises s (t ∷ ts) apart up = by_order (symbol_cmp s t) refl (placed_rises s ts apart.1 up.1)
  where
    by_order : (o : Ordering) → symbol_cmp s t ≡ o → Rises (placed_in s ts) → Rises (cond (is_gt o) (t ∷ placed_in s ts) (s ∷ t ∷ ts))
    by_order Less e more = ((e, all_above s t ts e up.0), up)
    by_order Equal e more = absurd (true≢false (sym (ap is_eq e) ∙ apart.0))
    by_order Greater e more = (placed_above t s ts (symbol_order.antisymm t s ∙ ap ordering_reverse e) up.0, more)

apart_in_order : (s : Symbol) (ss : List Symbol) → AllByRecursion (λ y. is_eq (symbol_cmp s y) ≡ false) ss → AllByRecursion (λ y. is_eq (symbol_cmp s y) ≡ false) (in_order ss)
apart_in_order s [] all = tt
apart_in_order s (t ∷ ts) all = placed (in_order ts) (apart_in_order s ts all.1)
  where
    placed : (us : List Symbol) → AllByRecursion (λ y. is_eq (symbol_cmp s y) ≡ false) us → AllByRecursion (λ y. is_eq (symbol_cmp s y) ≡ false) (placed_in t us)
    placed [] more = (all.0, tt)
    placed (u ∷ us) more = by_test (is_gt (symbol_cmp t u)) (placed us more.1)
      where
        by_test : (b : Bool) → AllByRecursion (λ y. is_eq (symbol_cmp s y) ≡ false) (placed_in t us) → AllByRecursion (λ y. is_eq (symbol_cmp s y) ≡ false) (cond b (u ∷ placed_in t us) (t ∷ u ∷ us))
        by_test true rest = (more.0, rest)
        by_test false rest = (all.0, more)

order_rises : (ss : List Symbol) → NoTies ss → Rises (in_order ss)
order_rises [] apart = tt
order_rises (s ∷ ss) apart =
    placed_rises s (in_order ss) (apart_in_order s ss (recursion_from_All (λ y. is_eq (symbol_cmp s y) ≡ false) ss (λ k d lt. apart 0 (suc k) d (omega arith) (omega arith))))
    (order_rises ss (λ i j d lt below. apart (suc i) (suc j) d (omega arith) (omega arith)))

strict_from : (ss : List Symbol) → Rises ss → Strict ss
strict_from [] up = λ i j d lt below. absurd (omega arith)
strict_from (s ∷ ss) up = AllPairs-cons (λ a b. symbol_cmp a b ≡ Less) s ss (All-from_recursion (λ y. symbol_cmp s y ≡ Less) ss up.0) (strict_from ss up.1)

pub order_strict : (ss : List Symbol) → NoTies ss → Strict (in_order ss)
order_strict ss apart = strict_from (in_order ss) (order_rises ss apart)

-- a sort by their order puts symbols in order
pub sorted_is : (old new : List Symbol) → NoTies old → IsPermutation old new → IsSortedBy (λ x y. is_lt (symbol_cmp x y)) new → new ≡ in_order old
sorted_is old new apart moved sorted =
    same_list new (in_order old) (sorted_strict new (apart_moved old new moved apart) sorted) (order_strict old apart)
    (λ z at. Contains-permutation old (in_order old) z (IsPermutation-sym (in_order old) old (order_moved old)) (Contains-permutation new old z (IsPermutation-sym old new moved) at))
    (λ z at. Contains-permutation old new z moved (Contains-permutation (in_order old) old z (order_moved old) at))

-- Symbols that ascend stand in order.
pub order_stays : (ss : List Symbol) → Strict ss → in_order ss ≡ ss
order_stays ss strict =
    let apart : NoTies ss = λ i j d lt below. ap is_eq (strict i j d lt below) in
    same_list (in_order ss) ss (order_strict ss apart) strict (λ z at. Contains-permutation (in_order ss) ss z (order_moved ss) at) (λ z at. Contains-permutation ss (in_order ss) z (IsPermutation-sym (in_order ss) ss (order_moved ss)) at)
