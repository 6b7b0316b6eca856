-- Serves the clause of standing_at: the symbols at a place of a section stand one behind the other.
use Rattle.std.proofs.Common.{◌≡◌, ℕ, suc, ◌+◌, ◌<◌, ◌≤◌, arith, inl, inr, ◌⊎◌, Bool, true, false, ◌&&◌, ◌||◌, ◌==◌, List, [], ◌∷◌, ◌++◌, length, take, drop, get_or, refl, sym, ap, subst, ◌∙◌}
use Rattle.std.specs.Prelude.{nat_lt}
use Rattle.std.specs.List.{filter}
use Rattle.std.specs.List.Sorted.{IsPartitionedBy}
use Rattle.std.specs.Ordering.{nat_cmp, ordering_then}
use Rattle.std.specs.Cmp.Lexicographic.{slice_cmp}
use Rattle.std.specs.declared.cmp.Ordering.{Ordering}
use Rattle.std.specs.declared.cmp.Ordering.TheVariants.{Less, Equal, Greater}
use Rattle.std.proofs.lemmas.Bool.{cases_lt}
use Rattle.std.proofs.lemmas.Bool.Decides.{nat_tests}
use Rattle.std.proofs.lemmas.List.{append-nil, length-drop, length-take, get_or-take, get_or-drop, take-append-drop}
use Rattle.std.proofs.lemmas.List.Elements.{filter-append}
use Rattle.strand_image.specs.Symbols.{region_number, symbol_cmp}
use Rattle.strand_image.specs.declared.symbol.Region.{Region}
use Rattle.strand_image.specs.declared.symbol.Symbol.{Symbol}
use Rattle.strand_asm.specs.Listing.{Ascend, is_before, stands_at}

-- what the order says of two places
less_number : (x y : ℕ) → nat_cmp x y ≡ Less → x < y
less_number x y e = grind (arith, nat_tests)

equal_number : (x y : ℕ) → nat_cmp x y ≡ Equal → x ≡ y
equal_number x y e = grind (arith, nat_tests)

ordered : (x y p q : ℕ) (o r s : Ordering) → nat_cmp x y ≡ r → nat_cmp p q ≡ s → ordering_then r (ordering_then s o) ≡ Less → (x < y) ⊎ ((x ≡ y) × (p ≤ q))
ordered x y p q o Less s e f h = inl (less_number x y e)
ordered x y p q o Greater s e f h = absurd cc
ordered x y p q o Equal Less e f h = inr (equal_number x y e, (let lt = less_number p q f in omega arith))
ordered x y p q o Equal Equal e f h = inr (equal_number x y e, (let same = equal_number p q f in omega arith))
ordered x y p q o Equal Greater e f h = absurd cc

pub places : (a b : Symbol) → symbol_cmp a b ≡ Less → (region_number a.region < region_number b.region) ⊎ ((region_number a.region ≡ region_number b.region) × (a.place ≤ b.place))
places a b e = ordered (region_number a.region) (region_number b.region) a.place b.place (slice_cmp nat_cmp a.name b.name) _ _ refl refl e

before_kept : (x y p q r at : ℕ) → ((x < y) ⊎ ((x ≡ y) × (p ≤ q))) → (nat_lt y r || ((y == r) && nat_lt q at)) ≡ true → (nat_lt x r || ((x == r) && nat_lt p at)) ≡ true
before_kept x y p q r at (inl lt) e = grind (arith, nat_tests)
before_kept x y p q r at (inr both) e = let same = both.0 in let le = both.1 in grind (arith, nat_tests)

stands_kept : (x y p q r at : ℕ) → ((x < y) ⊎ ((x ≡ y) × (p ≤ q))) → (nat_lt x r || ((x == r) && nat_lt p at)) ≡ false → ((y == r) && (q == at)) ≡ true → ((x == r) && (p == at)) ≡ true
stands_kept x y p q r at (inl lt) e f = grind (arith, nat_tests)
stands_kept x y p q r at (inr both) e f = let same = both.0 in let le = both.1 in grind (arith, nat_tests)

not_yet : (x p r at : ℕ) → (nat_lt x r || ((x == r) && nat_lt p at)) ≡ true → ((x == r) && (p == at)) ≡ false
not_yet x p r at e = grind (arith, nat_tests)

pub before_parted : (ss : List Symbol) (region : Region) (at : ℕ) → Ascend ss → IsPartitionedBy (is_before region at) ss
before_parted ss region at up i j d le lt e =
    elim (cases_lt i j) [
      | inl less ↦
          let a = get_or ss i d in
          let b = get_or ss j d in
          before_kept (region_number a.region) (region_number b.region) a.place b.place (region_number region) at (places a b (up i j d less lt)) e
      | inr more ↦ let same : j ≡ i = omega arith in subst (λ (k : ℕ). is_before region at (get_or ss k d) ≡ true) same e
    ]

pub stands_parted : (ss : List Symbol) (region : Region) (at from : ℕ) → Ascend ss → ((k : ℕ) (d : Symbol) → from ≤ k → k < length ss → is_before region at (get_or ss k d) ≡ false) → IsPartitionedBy (stands_at region at) (drop from ss)
stands_parted ss region at from up past i j d le lt e =
    let short = length-drop from ss in
    let f : stands_at region at (get_or ss (from + j) d) ≡ true = rw get_or-drop at e in
    elim (cases_lt i j) [
      | inl less ↦
          let a = get_or ss (from + i) d in
          let b = get_or ss (from + j) d in
          rw (get_or-drop from ss i d) (stands_kept (region_number a.region) (region_number b.region) a.place b.place (region_number region) at (places a b (up (from + i) (from + j) d (omega arith) (omega arith))) (past (from + i) d (omega arith) (omega arith)) f)
      | inr more ↦ let same : j ≡ i = omega arith in subst (λ (k : ℕ). stands_at region at (get_or (drop from ss) k d) ≡ true) same e
    ]

-- a filter of a list that passes a test from one place on, up to another
pub none_pass : (p : Symbol → Bool) (ss : List Symbol) → ((k : ℕ) (d : Symbol) → k < length ss → p (get_or ss k d) ≡ false) → filter p ss ≡ []
none_pass p [] h = refl
none_pass p (s ∷ ss) h = let first = h 0 s (omega arith) in rw first (none_pass p ss (λ k d lt. h (suc k) d (omega arith)))

pub all_pass : (p : Symbol → Bool) (ss : List Symbol) → ((k : ℕ) (d : Symbol) → k < length ss → p (get_or ss k d) ≡ true) → filter p ss ≡ ss
all_pass p [] h = refl
all_pass p (s ∷ ss) h = let first = h 0 s (omega arith) in rw first (ap (λ (l : List Symbol). s ∷ l) (all_pass p ss (λ k d lt. h (suc k) d (omega arith))))

pub run_is : (p : Symbol → Bool) (ss : List Symbol) (from count : ℕ) → from ≤ length ss → count ≤ length (drop from ss)
    → ((k : ℕ) (d : Symbol) → k < from → p (get_or ss k d) ≡ false)
    → ((k : ℕ) (d : Symbol) → k < count → p (get_or (drop from ss) k d) ≡ true)
    → ((k : ℕ) (d : Symbol) → count ≤ k → k < length (drop from ss) → p (get_or (drop from ss) k d) ≡ false)
    → take count (drop from ss) ≡ filter p ss
run_is p ss from count le few early there late =
    let rest = drop from ss in
    let front : filter p (take from ss) ≡ [] = none_pass p (take from ss) (λ k d lt. let here : k < from = omega (arith, length-take from ss) in rw (get_or-take from ss k d here) (early k d here)) in
    let middle : filter p (take count rest) ≡ take count rest = all_pass p (take count rest) (λ k d lt. let here : k < count = omega (arith, length-take count rest) in rw (get_or-take count rest k d here) (there k d here)) in
    let back : filter p (drop count rest) ≡ [] = none_pass p (drop count rest) (λ k d lt. rw (get_or-drop count rest k d) (late (count + k) d (omega arith) (omega (arith, length-drop count rest)))) in
    let inner : filter p rest ≡ take count rest = ap (filter p) (sym (take-append-drop count rest)) ∙ filter-append p (take count rest) (drop count rest) ∙ ap (λ (l : List Symbol). filter p (take count rest) ++ l) back ∙ append-nil (filter p (take count rest)) ∙ middle in
    sym (ap (filter p) (sym (take-append-drop from ss)) ∙ filter-append p (take from ss) rest ∙ ap (λ (l : List Symbol). l ++ filter p rest) front ∙ inner)

pub stands_late : (s : Symbol) (region : Region) (at : ℕ) → is_before region at s ≡ true → stands_at region at s ≡ false
stands_late s region at e = not_yet (region_number s.region) s.place (region_number region) at e
