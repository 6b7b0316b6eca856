-- Serves the clauses of count_before_fault and kept_image, again of write_image: the rules on symbols, one by one and all together.
use Rattle.std.proofs.Common.{min, zero-add, ◌⊎◌, ◌≡◌, ℕ, zero, suc, ◌+◌, ◌-◌, ◌<◌, ◌≤◌, arith, inl, inr, Bool, true, false, ◌&&◌, ◌||◌, ◌==◌, List, [], ◌∷◌, ◌++◌, length, take, get_or, refl, sym, ap, ◌∙◌, append_assoc}
use Rattle.std.specs.Prelude.{nat_le}
use Rattle.std.specs.List.{list_all}
use Rattle.std.specs.Str.{bytes_eq}
use Rattle.std.specs.Cmp.{IsTotalOrder}
use Rattle.std.specs.Ordering.{is_lt}
use Rattle.std.specs.declared.cmp.Ordering.{Ordering}
use Rattle.std.specs.declared.cmp.Ordering.TheVariants.{Less, Equal, Greater}
use Rattle.std.proofs.lemmas.Bool.{cases_lt}
use Rattle.std.proofs.lemmas.Bool.Decides.{nat_tests}
use Rattle.std.proofs.lemmas.Cmp.{then_total, on_total, nat_cmp_total, nat_list_cmp_total}
use Rattle.std.proofs.lemmas.List.{append-nil, length-append, length-map, length-take, get_or-take, get_or-map}
use Rattle.std.proofs.lemmas.List.Folds.{list_all_at}
use Rattle.std.proofs.lemmas.Slice.Eq.{bytes_eq-Decides}
use Rattle.strand_image.specs.Symbols.{AreSymbols, words_in, region_number, symbol_cmp, may_precede, keeps_rules, count_before_fault}
use Rattle.strand_image.specs.Checking.{stands_in_turn, StandInTurn, AreDifferent, name_at, names_of}
use Rattle.strand_image.specs.declared.checking.SectionSizes.{SectionSizes}
use Rattle.strand_image.specs.declared.symbol.Region.TheVariants.{Code}
use Rattle.strand_image.specs.declared.symbol.Symbol.{Symbol}

pub symbol_order : IsTotalOrder symbol_cmp
symbol_order = then_total (on_total (λ (s : Symbol). region_number s.region) nat_cmp_total) (then_total (on_total (λ (s : Symbol). s.place) nat_cmp_total) (on_total (λ (s : Symbol). s.name) nat_list_cmp_total))

pub nobody : Symbol
nobody = record { region = Code; place = 0; name = [] }

-- where the first symbol that breaks a rule stands
pub stop_is : (sizes : SectionSizes) (before ss : List Symbol) (r : ℕ) (d : Symbol) → r ≤ length ss
    → ((k : ℕ) → k < r → keeps_rules sizes (before ++ take k ss) (get_or ss k d) ≡ true)
    → (r < length ss → keeps_rules sizes (before ++ take r ss) (get_or ss r d) ≡ false) → count_before_fault sizes before ss ≡ length before + r
stop_is sizes before [] r d le kept stops = omega arith
stop_is sizes before (s ∷ ss) zero d le kept stops =
    let fails : keeps_rules sizes before s ≡ false = rw (append-nil before) at (stops (omega arith)) in
    rw fails (omega arith)
stop_is sizes before (s ∷ ss) (suc r) d le kept stops =
    let yes : keeps_rules sizes before s ≡ true = rw (append-nil before) at (kept 0 (omega arith)) in
    let more = stop_is sizes (before ++ s ∷ []) ss r d (omega arith) (λ k lt. rw (append_assoc before (s ∷ []) (take k ss)) (kept (suc k) (omega arith))) (λ lt. rw (append_assoc before (s ∷ []) (take r ss)) (stops (omega arith))) in
    rw yes (more ∙ long before s r)
  where
    long : (before : List Symbol) (s : Symbol) (r : ℕ) → length (before ++ s ∷ []) + r ≡ length before + suc r
    long before s r = omega (arith, length-append before (s ∷ []))

-- the rules of the first symbols
pub record Keep (sizes : SectionSizes) (ss : List Symbol) (n : ℕ) : Type 0 where
  pub places : (k : ℕ) (d : Symbol) → k < n → (get_or ss k d).place ≤ words_in sizes (get_or ss k d).region
  pub ascend : (i j : ℕ) (d : Symbol) → i < j → j < n → symbol_cmp (get_or ss i d) (get_or ss j d) ≡ Less
  pub differ : (i j : ℕ) (d : Symbol) → i < j → j < n → bytes_eq (get_or ss i d).name (get_or ss j d).name ≡ false

all_pass : {X : Type 0} (p : X → Bool) (xs : List X) (d : X) → ((i : ℕ) → i < length xs → p (get_or xs i d) ≡ true) → list_all p xs ≡ true
all_pass p [] d h = refl
all_pass p (x ∷ xs) d h = let first = h 0 (omega arith) in let more = all_pass p xs d (λ i lt. h (suc i) (omega arith)) in rw (first, more) refl

pub keeps : (sizes : SectionSizes) (ss : List Symbol) (n k : ℕ) (d : Symbol) → Keep sizes ss n → n ≤ length ss → k < n → keeps_rules sizes (take k ss) (get_or ss k d) ≡ true
keeps sizes ss n k d h le lt =
    let place = h.places k d lt in
    let stands : nat_le (get_or ss k d).place (words_in sizes (get_or ss k d).region) ≡ true = grind (arith, nat_tests) in
    let behind : list_all (λ b. may_precede b (get_or ss k d)) (take k ss) ≡ true = all_pass (λ b. may_precede b (get_or ss k d)) (take k ss) d (λ i l.
    let here : i < k = omega (arith, length-take k ss) in
    rw (get_or-take k ss i d here, h.ascend i k d here lt, h.differ i k d here lt) refl) in
    rw (stands, behind) refl

-- a symbol that breaks one
breaks_at : (sizes : SectionSizes) (before : List Symbol) (s : Symbol) (i : ℕ) (d : Symbol) → i < length before → may_precede (get_or before i d) s ≡ false → keeps_rules sizes before s ≡ false
breaks_at sizes before s i d lt fails = rw (list_all_at (λ b. may_precede b s) before i d lt fails) (and_false (nat_le s.place (words_in sizes s.region)))
  where
    and_false : (b : Bool) → (b && false) ≡ false
    and_false true = refl
    and_false false = refl

no_place : (sizes : SectionSizes) (before : List Symbol) (s : Symbol) → nat_le s.place (words_in sizes s.region) ≡ false → keeps_rules sizes before s ≡ false
no_place sizes before s fails = rw fails refl

same_name : (a b : Symbol) → a.name ≡ b.name → may_precede a b ≡ false
same_name a b e = rw ((bytes_eq-Decides a.name b.name).1 e) (and_false (is_lt (symbol_cmp a b)))
  where
    and_false : (b : Bool) → (b && false) ≡ false
    and_false true = refl
    and_false false = refl

not_less : (a b : Symbol) → is_lt (symbol_cmp a b) ≡ false → may_precede a b ≡ false
not_less a b e = rw e refl

-- what a placed symbol keeps
and_both : (a b : Bool) → (a && b) ≡ true → (a ≡ true) × (b ≡ true)
and_both true true e = (refl, refl)
and_both true false e = absurd cc
and_both false b e = absurd cc

and_either : (a b : Bool) → (a && b) ≡ false → (a ≡ true → ⊥) ⊎ (b ≡ true → ⊥)
and_either true b e = inr (λ f. absurd cc)
and_either false b e = inl (λ f. absurd cc)

less_is : (r : Ordering) → is_lt r ≡ true → r ≡ Less
less_is Less e = refl
less_is Equal e = absurd cc
less_is Greater e = absurd cc

not_true : (b : Bool) → (b ≡ true → ⊥) → b ≡ false
not_true true n = absurd (n refl)
not_true false n = refl

-- a place that is not the first
behind_first : (k : ℕ) (b : Bool) → ((suc k == 0) || b) ≡ b
behind_first k b = let e : (suc k == 0) ≡ false = grind (arith, nat_tests) in rw e refl

adjacent : (sizes : SectionSizes) (ss : List Symbol) (k : ℕ) (d : Symbol) → stands_in_turn sizes ss (suc k) d ≡ true → symbol_cmp (get_or ss k d) (get_or ss (suc k) d) ≡ Less
adjacent sizes ss k d e =
    let s = get_or ss (suc k) d in
    let back : suc k - 1 ≡ k = omega arith in
    let last = (and_both (nat_le s.place (words_in sizes s.region)) ((suc k == 0) || is_lt (symbol_cmp (get_or ss (suc k - 1) d) s)) e).1 in
    less_is (symbol_cmp (get_or ss k d) s) (sym (ap (λ (i : ℕ). is_lt (symbol_cmp (get_or ss i d) s)) back) ∙ sym (behind_first k (is_lt (symbol_cmp (get_or ss (suc k - 1) d) s))) ∙ last)

rising : (sizes : SectionSizes) (ss : List Symbol) (n : ℕ) → StandInTurn sizes ss n → (i j : ℕ) (d : Symbol) → i < j → j < n → symbol_cmp (get_or ss i d) (get_or ss j d) ≡ Less
rising sizes ss n h i zero d lt below = absurd (omega arith)
rising sizes ss n h i (suc j) d lt below =
    let next = adjacent sizes ss j d (h.placed (suc j) d below) in
    elim (cases_lt i j) [
      | inl before ↦ symbol_order.trans (get_or ss i d) (get_or ss j d) (get_or ss (suc j) d) (rising sizes ss n h i j d before (omega arith)) next
      | inr after ↦ let same : i ≡ j = omega arith in rw same next
    ]

pub name_is : (ss : List Symbol) (k : ℕ) (d : Symbol) → k < length ss → name_at (names_of ss) k ≡ (get_or ss k d).name
name_is ss k d lt = get_or-map (λ (s : Symbol). s.name) ss k d [] lt

-- a name of the first symbols
front_name : (ss : List Symbol) (m k : ℕ) (d : Symbol) → m ≤ length ss → k < m → name_at (names_of (take m ss)) k ≡ (get_or ss k d).name
front_name ss m k d le lt = name_is (take m ss) k d (omega (arith, length-take m ss)) ∙ ap (λ (s : Symbol). s.name) (get_or-take m ss k d lt)

-- the first symbols keep the rules, where they are placed and their names differ
pub kept : (sizes : SectionSizes) (ss : List Symbol) (m r : ℕ) → StandInTurn sizes ss m → AreDifferent (names_of (take m ss)) r → r ≤ m → Keep sizes ss r
kept sizes ss m r h g le = record {
  places = λ k d lt.
      let s = get_or ss k d in
      let first = (and_both (nat_le s.place (words_in sizes s.region)) ((k == 0) || is_lt (symbol_cmp (get_or ss (k - 1) d) s)) (h.placed k d (omega arith))).0 in
      grind (arith, nat_tests);
  ascend = λ i j d lt below. rising sizes ss m h i j d lt (omega arith);
  differ = λ i j d lt below. let bound = h.bound in rw (front_name ss m i d bound (omega arith), front_name ss m j d bound (omega arith)) at (g.differ i j lt below);
}

-- the next one breaks a rule
stopped_in : (sizes : SectionSizes) (ss : List Symbol) (m r : ℕ) (d : Symbol) → m ≤ length ss → AreDifferent (names_of (take m ss)) r → r < m → keeps_rules sizes (take r ss) (get_or ss r d) ≡ false
stopped_in sizes ss m r d le g lt =
    let found = g.repeats (simp length-map (omega (arith, length-take m ss))) in
    let j = found.0 in
    let here : j < r = found.1 in
    let same : (get_or ss j d).name ≡ (get_or ss r d).name = sym (front_name ss m j d le (omega arith)) ∙ found.2 ∙ front_name ss m r d le lt in
    breaks_at sizes (take r ss) (get_or ss r d) j d (omega (arith, length-take r ss)) (same_name (get_or (take r ss) j d) (get_or ss r d) (ap (λ (s : Symbol). s.name) (get_or-take r ss j d here) ∙ same))

stopped_past : (sizes : SectionSizes) (ss : List Symbol) (m : ℕ) (d : Symbol) → m < length ss → stands_in_turn sizes ss m d ≡ false → keeps_rules sizes (take m ss) (get_or ss m d) ≡ false
stopped_past sizes ss zero d lt e =
    let s = get_or ss 0 d in
    elim (and_either (nat_le s.place (words_in sizes s.region)) ((0 == 0) || is_lt (symbol_cmp (get_or ss (0 - 1) d) s)) e) [
      | inl fails ↦ no_place sizes (take 0 ss) s (not_true (nat_le s.place (words_in sizes s.region)) fails)
      | inr fails ↦ absurd (fails refl)
    ]
stopped_past sizes ss (suc k) d lt e =
    let s = get_or ss (suc k) d in
    let back : suc k - 1 ≡ k = omega arith in
    elim (and_either (nat_le s.place (words_in sizes s.region)) ((suc k == 0) || is_lt (symbol_cmp (get_or ss (suc k - 1) d) s)) e) [
      | inl fails ↦ no_place sizes (take (suc k) ss) s (not_true (nat_le s.place (words_in sizes s.region)) fails)
      | inr fails ↦
          let before = is_lt (symbol_cmp (get_or ss (suc k - 1) d) s) in
          let not_behind : is_lt (symbol_cmp (get_or ss k d) s) ≡ false = sym (ap (λ (i : ℕ). is_lt (symbol_cmp (get_or ss i d) s)) back) ∙ not_true before (λ (t : before ≡ true). fails (behind_first k before ∙ t)) in
          let here : k < suc k = omega arith in
          breaks_at sizes (take (suc k) ss) s k d (omega (arith, length-take (suc k) ss)) (rw (get_or-take (suc k) ss k d here) (not_less (get_or ss k d) s not_behind))
    ]

pub first_broken : (sizes : SectionSizes) (ss : List Symbol) (m r : ℕ) → StandInTurn sizes ss m → AreDifferent (names_of (take m ss)) r → r ≡ count_before_fault sizes [] ss
first_broken sizes ss m r h g =
    let bound = h.bound in
    let within = g.bound in
    let le : r ≤ m = let short : r ≤ min m (length ss) = simp (length-map, length-take) at within in omega arith in
    let all = kept sizes ss m r h g le in
    sym (zero-add r) ∙ sym (stop_is sizes [] ss r nobody (omega arith) (λ k lt. keeps sizes ss r k nobody all (omega arith) lt) (λ lt. elim (cases_lt r m) [
      | inl before ↦ stopped_in sizes ss m r nobody bound g before
      | inr after ↦ let same : m ≡ r = omega arith in rw same at (stopped_past sizes ss m nobody (omega arith) (h.stops nobody (omega arith)))
    ]))

pub all_stand : (sizes : SectionSizes) (ss : List Symbol) (m r : ℕ) → StandInTurn sizes ss m → AreDifferent (names_of (take m ss)) r → length ss ≤ r → AreSymbols sizes ss
all_stand sizes ss m r h g le =
    let within = g.bound in
    let front : r ≤ m = let short : r ≤ min m (length ss) = simp (length-map, length-take) at within in omega arith in
    let all = kept sizes ss m r h g front in
    record {
      labels = λ k d lt. h.labels k d (omega arith);
      places = λ k d lt. all.places k d (omega arith);
      ascend = λ i j d lt below. all.ascend i j d lt (omega arith);
      differ = λ i j d lt below. all.differ i j d lt (omega arith);
    }

-- symbols that keep all rules
pub none_broken : (sizes : SectionSizes) (ss : List Symbol) → AreSymbols sizes ss → count_before_fault sizes [] ss ≡ length ss
none_broken sizes ss h =
    let all : Keep sizes ss (length ss) = record { places = h.places; ascend = h.ascend; differ = h.differ } in
    stop_is sizes [] ss (length ss) nobody (omega arith) (λ k lt. keeps sizes ss (length ss) k nobody all (omega arith) lt) (λ lt. absurd (omega arith)) ∙ zero-add (length ss)
