-- Serves clause again of list: the symbols that stand before a place, as a listing goes on.
use Rattle.std.proofs.Common.{◌≡◌, ℕ, suc, ◌+◌, ◌<◌, ◌≤◌, arith, inl, inr, ◌⊎◌, Bool, true, false, ◌&&◌, ◌||◌, ◌==◌, List, [], ◌∷◌, ◌++◌, length, get_or, refl, sym, ap, ◌∙◌}
use Rattle.std.specs.Prelude.{nat_lt}
use Rattle.std.specs.List.{filter}
use Rattle.std.proofs.lemmas.Bool.Decides.{nat_tests}
use Rattle.strand_image.specs.Symbols.{AreSymbols, region_number, sizes_of, words_in}
use Rattle.strand_image.specs.ImageSeen.{ImageSeen}
use Rattle.strand_image.specs.declared.symbol.Region.{Region}
use Rattle.strand_image.specs.declared.symbol.Region.TheVariants.{Code, Volatile, Persistent}
use Rattle.strand_image.specs.declared.symbol.Symbol.{Symbol}
use Rattle.strand_asm.specs.Listing.{Ascend, is_before, stands_at}
use Rattle.strand_asm.proofs.Standing.{all_pass, none_pass, places, stands_late}

-- the symbols before a place, and those at it
abbrev pub named_before : List Symbol → Region → ℕ → List Symbol
named_before ss region at = filter (is_before region at) ss

abbrev pub named_at : List Symbol → Region → ℕ → List Symbol
named_at ss region at = filter (stands_at region at) ss

-- A symbol before the next place stands before this one, or at it.
next_before : (x p r at : ℕ) → (nat_lt x r || ((x == r) && nat_lt p at)) ≡ true → (nat_lt x r || ((x == r) && nat_lt p (at + 1))) ≡ true
next_before x p r at e = grind (arith, nat_tests)

next_stands : (x p r at : ℕ) → ((x == r) && (p == at)) ≡ true → (nat_lt x r || ((x == r) && nat_lt p (at + 1))) ≡ true
next_stands x p r at e = grind (arith, nat_tests)

next_neither : (x p r at : ℕ) → (nat_lt x r || ((x == r) && nat_lt p at)) ≡ false → ((x == r) && (p == at)) ≡ false → (nat_lt x r || ((x == r) && nat_lt p (at + 1))) ≡ false
next_neither x p r at e f = grind (arith, nat_tests)

-- Behind a symbol at a place none stands before it.
not_earlier : (x y p q r at : ℕ) → ((x < y) ⊎ ((x ≡ y) × (p ≤ q))) → ((x == r) && (p == at)) ≡ true → (nat_lt y r || ((y == r) && nat_lt q at)) ≡ false
not_earlier x y p q r at (inl lt) e = grind (arith, nat_tests)
not_earlier x y p q r at (inr both) e = let same = both.0 in let le = both.1 in grind (arith, nat_tests)

none_earlier : (s : Symbol) (ss : List Symbol) (region : Region) (at : ℕ) → Ascend (s ∷ ss) → stands_at region at s ≡ true → named_before ss region at ≡ []
none_earlier s ss region at up e =
    none_pass (is_before region at) ss (λ k d lt.
    let t = get_or ss k d in
    not_earlier (region_number s.region) (region_number t.region) s.place t.place (region_number region) at (places s t (up 0 (suc k) d (omega arith) (omega arith))) e)

pub named_more : (ss : List Symbol) (region : Region) (at : ℕ) → Ascend ss → named_before ss region at ++ named_at ss region at ≡ named_before ss region (at + 1)
named_more [] region at up = refl
named_more (s ∷ ss) region at up = by_before (is_before region at s) refl (named_more ss region at (λ i j d lt below. up (suc i) (suc j) d (omega arith) (omega arith)))
  where
    x : ℕ
    x = region_number s.region

    by_stands : (h : Bool) → is_before region at s ≡ false → stands_at region at s ≡ h → named_before ss region at ++ named_at ss region at ≡ named_before ss region (at + 1)
        → named_before (s ∷ ss) region at ++ named_at (s ∷ ss) region at ≡ named_before (s ∷ ss) region (at + 1)
    by_stands true e f rest =
        let none = none_earlier s ss region at up f in
        let same : named_at ss region at ≡ named_before ss region (at + 1) = ap (λ (l : List Symbol). l ++ named_at ss region at) (sym none) ∙ rest in
        rw (e, f, next_stands x s.place (region_number region) at f, none) (ap (λ (l : List Symbol). s ∷ l) same)
    by_stands false e f rest = rw (e, f, next_neither x s.place (region_number region) at e f) rest

    by_before : (b : Bool) → is_before region at s ≡ b → named_before ss region at ++ named_at ss region at ≡ named_before ss region (at + 1)
        → named_before (s ∷ ss) region at ++ named_at (s ∷ ss) region at ≡ named_before (s ∷ ss) region (at + 1)
    by_before true e rest = rw (e, stands_late s region at e, next_before x s.place (region_number region) at e) (ap (λ (l : List Symbol). s ∷ l) rest)
    by_before false e rest = by_stands (stands_at region at s) e refl rest

-- At the start none was named.
pub named_first : (ss : List Symbol) → named_before ss Code 0 ≡ []
named_first ss = none_pass (is_before Code 0) ss (λ k d lt. none_first (region_number (get_or ss k d).region) (get_or ss k d).place)
  where
    none_first : (x p : ℕ) → (nat_lt x 0 || ((x == 0) && nat_lt p 0)) ≡ false
    none_first x p = grind (arith, nat_tests)

-- Symbols that pass the same tests pass the same filter.
same_filter : (p q : Symbol → Bool) (ss : List Symbol) → ((k : ℕ) (d : Symbol) → k < length ss → p (get_or ss k d) ≡ q (get_or ss k d)) → filter p ss ≡ filter q ss
same_filter p q [] h = refl
same_filter p q (s ∷ ss) h = rw (h 0 s (omega arith), same_filter p q ss (λ k d lt. h (suc k) d (omega arith))) refl

-- Behind a section stands what stands before the next one.
pub named_code : (p : ImageSeen) (ss : List Symbol) → AreSymbols (sizes_of p) ss → named_before ss Code (length p.code + 1) ≡ named_before ss Volatile 0
named_code p ss are = same_filter (is_before Code (length p.code + 1)) (is_before Volatile 0) ss (λ k d lt. at_end (get_or ss k d) _ refl (are.places k d lt))
  where
    at_end : (s : Symbol) (r : Region) → s.region ≡ r → s.place ≤ words_in (sizes_of p) s.region → is_before Code (length p.code + 1) s ≡ is_before Volatile 0 s
    at_end s Code e le = let le : s.place ≤ length p.code = rw e at le in let inside : nat_lt s.place (length p.code + 1) ≡ true = grind (arith, nat_tests) in rw (e, inside) refl
    at_end s Volatile e le = let none : nat_lt s.place 0 ≡ false = grind (arith, nat_tests) in rw (e, none) refl
    at_end s Persistent e le = rw e refl

pub named_volatile : (p : ImageSeen) (ss : List Symbol) → AreSymbols (sizes_of p) ss → named_before ss Volatile (length p.volatile + 1) ≡ named_before ss Persistent 0
named_volatile p ss are = same_filter (is_before Volatile (length p.volatile + 1)) (is_before Persistent 0) ss (λ k d lt. at_end (get_or ss k d) _ refl (are.places k d lt))
  where
    at_end : (s : Symbol) (r : Region) → s.region ≡ r → s.place ≤ words_in (sizes_of p) s.region → is_before Volatile (length p.volatile + 1) s ≡ is_before Persistent 0 s
    at_end s Code e le = rw e refl
    at_end s Volatile e le = let le : s.place ≤ length p.volatile = rw e at le in let inside : nat_lt s.place (length p.volatile + 1) ≡ true = grind (arith, nat_tests) in rw (e, inside) refl
    at_end s Persistent e le = let none : nat_lt s.place 0 ≡ false = grind (arith, nat_tests) in rw (e, none) refl

-- At the end all were named.
pub named_all : (p : ImageSeen) (ss : List Symbol) → AreSymbols (sizes_of p) ss → named_before ss Persistent (length p.persistent + 1) ≡ ss
named_all p ss are = all_pass (is_before Persistent (length p.persistent + 1)) ss (λ k d lt. at_end (get_or ss k d) _ refl (are.places k d lt))
  where
    at_end : (s : Symbol) (r : Region) → s.region ≡ r → s.place ≤ words_in (sizes_of p) s.region → is_before Persistent (length p.persistent + 1) s ≡ true
    at_end s Code e le = rw e refl
    at_end s Volatile e le = rw e refl
    at_end s Persistent e le = let le : s.place ≤ length p.persistent = rw e at le in let inside : nat_lt s.place (length p.persistent + 1) ≡ true = grind (arith, nat_tests) in rw (e, inside) refl
