-- Serves the clauses of read_symbols and symbols_size, spelling of read_image and again of write_image: symbols in a file.
use Rattle.std.proofs.Common.{cond, ◌≡◌, ℕ, zero, suc, ◌+◌, ◌-◌, ◌*◌, ◌^◌, ◌<◌, ◌≤◌, arith, Bool, true, false, ◌&&◌, ◌==◌, List, [], ◌∷◌, ◌++◌, length, take, drop, get_or, Option, Some, None, refl, sym, ap, subst, ◌∙◌, append_assoc}
use Rattle.std.specs.Prelude.{nat_lt, nat_le, slice_index}
use Rattle.std.specs.List.{flat_map}
use Rattle.std.proofs.lemmas.Bool.Decides.{nat_tests}
use Rattle.std.proofs.lemmas.List.{append-nil, drop-drop, length-append, length-take, take-append-drop}
use Rattle.std.proofs.Math.Seq.{take-append_seam, drop-append_seam}
use Rattle.strand_base.specs.declared.limits.TheConstants.{MOST_LABEL}
use Rattle.strand_base.specs.Name.{is_label, is_name}
use Rattle.strand_base.specs.LittleEndian.{u32_of, bytes_of_u32}
use Rattle.strand_base.proofs.AppendsFront.{flat_more, flat_split, flat_all}
use Rattle.strand_base.proofs.LittleEndian.{AreBytes, bytes_in_drop, u32_spells}
use Rattle.strand_image.specs.Symbols.{region_number, region_with_number, named_symbol, symbol_of, onto_spelt, spelt_symbols, is_whole, bytes_of_symbol, bytes_of_symbols}
use Rattle.strand_image.specs.declared.symbol.Region.{Region}
use Rattle.strand_image.specs.declared.symbol.Region.TheVariants.{Code, Volatile, Persistent}
use Rattle.strand_image.specs.declared.symbol.Symbol.{Symbol}

region_again : (r : Region) → region_with_number (region_number r) ≡ Some r
region_again Code = refl
region_again Volatile = refl
region_again Persistent = refl

-- a symbol by its bytes
parts_again : (r : Region) (place p q u v : ℕ) (name rest : List ℕ) → u32_of (p ∷ q ∷ u ∷ v ∷ length name ∷ (name ++ rest)) ≡ place → is_label name ≡ true
    → symbol_of (region_number r ∷ p ∷ q ∷ u ∷ v ∷ length name ∷ (name ++ rest)) ≡ Some (record { region = r; place = place; name = name }, rest)
unfolding symbol_of
parts_again r place p q u v name rest e label =
    let bytes = region_number r ∷ p ∷ q ∷ u ∷ v ∷ length name ∷ (name ++ rest) in
    let long = length-append name rest in
    let enough : nat_lt (length bytes) (6 + length name) ≡ false = grind (arith, nat_tests) in
    let back : drop (6 + length name) bytes ≡ rest = sym (drop-drop (length name) 6 bytes) ∙ drop-append_seam name rest in
    rw (enough, region_again r, e, take-append_seam name rest, back, label) refl

pub symbol_again : (s : Symbol) (rest : List ℕ) → s.place < 2 ^ 32 → is_label s.name ≡ true → symbol_of (bytes_of_symbol s ++ rest) ≡ Some (s, rest)
unfolding bytes_of_u32
symbol_again s rest lt label = parts_again s.region s.place _ _ _ _ s.name rest (u32_spells.again s.place (length s.name ∷ (s.name ++ rest)) lt) label

pub symbols_again : (ss : List Symbol) → ((k : ℕ) (d : Symbol) → k < length ss → (get_or ss k d).place < 2 ^ 32) → ((k : ℕ) (d : Symbol) → k < length ss → is_label (get_or ss k d).name ≡ true)
    → spelt_symbols (length ss) (bytes_of_symbols ss) ≡ (ss, [])
unfolding spelt_symbols bytes_of_symbols
symbols_again [] small labels = refl
symbols_again (s ∷ ss) small labels =
    let first = symbol_again s (bytes_of_symbols ss) (small 0 s (omega arith)) (labels 0 s (omega arith)) in
    let more = symbols_again ss (λ k d lt. small (suc k) d (omega arith)) (λ k d lt. labels (suc k) d (omega arith)) in
    rw (first, more) refl

-- the bytes of a symbol that was spelt
region_spelt : (b : ℕ) (r : Region) → region_with_number b ≡ Some r → region_number r ≡ b
region_spelt b r e = by_tests (b == 0) (b == 1) (b == 2) (λ t. grind (arith, nat_tests)) (λ t. grind (arith, nat_tests)) (λ t. grind (arith, nat_tests)) e
  where
    by_tests : (x y z : Bool) → (x ≡ true → b ≡ 0) → (y ≡ true → b ≡ 1) → (z ≡ true → b ≡ 2) → cond x (Some Code) (cond y (Some Volatile) (cond z (Some Persistent) None)) ≡ Some r → region_number r ≡ b
    by_tests true y z f g h e = let same : Code ≡ r = cc in ap region_number (sym same) ∙ sym (f refl)
    by_tests false true z f g h e = let same : Volatile ≡ r = cc in ap region_number (sym same) ∙ sym (g refl)
    by_tests false false true f g h e = let same : Persistent ≡ r = cc in ap region_number (sym same) ∙ sym (h refl)
    by_tests false false false f g h e = absurd cc

pub record IsSymbolAt (bytes : List ℕ) (s : Symbol) (rest : List ℕ) : Type 0 where
  pub long : 6 + slice_index bytes 5 ≤ length bytes
  pub region : region_with_number (slice_index bytes 0) ≡ Some s.region
  pub place : u32_of (drop 1 bytes) ≡ s.place
  pub name : take (slice_index bytes 5) (drop 6 bytes) ≡ s.name
  pub label : is_label s.name ≡ true
  pub behind : drop (6 + slice_index bytes 5) bytes ≡ rest

told_name : (r : Region) (place : ℕ) (name left : List ℕ) (l : Bool) (s : Symbol) (rest : List ℕ) → is_label name ≡ l → cond {A = Option (Symbol × List ℕ)} l (Some (record { region = r; place = place; name = name }, left)) None ≡ Some (s, rest)
    → (r ≡ s.region) × (place ≡ s.place) × (name ≡ s.name) × (is_label s.name ≡ true) × (left ≡ rest)
told_name r place name left true s rest l e =
    let t : Symbol = record { region = r; place = place; name = name } in
    let both : (t, left) ≡ (s, rest) = cc in
    let same : t ≡ s = ap (λ (x : Symbol × List ℕ). x.0) both in
    let names : name ≡ s.name = ap (λ (x : Symbol). x.name) same in
    (ap (λ (x : Symbol). x.region) same, ap (λ (x : Symbol). x.place) same, names, subst (λ (n : List ℕ). is_label n ≡ true) names l, ap (λ (x : Symbol × List ℕ). x.1) both)
told_name r place name left false s rest l e = absurd cc

told_region : (o : Option Region) (place : ℕ) (name left : List ℕ) (s : Symbol) (rest : List ℕ) → named_symbol o place name left ≡ Some (s, rest)
    → (o ≡ Some s.region) × (place ≡ s.place) × (name ≡ s.name) × (is_label s.name ≡ true) × (left ≡ rest)
told_region None place name left s rest e = absurd cc
told_region (Some r) place name left s rest e = let t = told_name r place name left _ s rest refl e in (ap (λ (x : Region). Some x) t.0, t.1, t.2, t.3, t.4)

told : (bytes : List ℕ) (b : Bool) (s : Symbol) (rest : List ℕ) → nat_lt (length bytes) (6 + slice_index bytes 5) ≡ b
    → cond b None (named_symbol (region_with_number (slice_index bytes 0)) (u32_of (drop 1 bytes)) (take (slice_index bytes 5) (drop 6 bytes)) (drop (6 + slice_index bytes 5) bytes)) ≡ Some (s, rest) → IsSymbolAt bytes s rest
told bytes true s rest f e = absurd cc
told bytes false s rest f e =
    let t = told_region (region_with_number (slice_index bytes 0)) (u32_of (drop 1 bytes)) (take (slice_index bytes 5) (drop 6 bytes)) (drop (6 + slice_index bytes 5) bytes) s rest e in
    record { long = grind (arith, nat_tests); region = t.0; place = t.1; name = t.2; label = t.3; behind = t.4 }

pub is_symbol_at : (bytes : List ℕ) (s : Symbol) (rest : List ℕ) → symbol_of bytes ≡ Some (s, rest) → IsSymbolAt bytes s rest
unfolding symbol_of
is_symbol_at bytes s rest e = told bytes _ s rest refl e

six_spelt : (a p q u v n : ℕ) (tail : List ℕ) (s : Symbol) (rest : List ℕ) → AreBytes (a ∷ p ∷ q ∷ u ∷ v ∷ n ∷ tail) → IsSymbolAt (a ∷ p ∷ q ∷ u ∷ v ∷ n ∷ tail) s rest
    → bytes_of_symbol s ++ rest ≡ a ∷ p ∷ q ∷ u ∷ v ∷ n ∷ tail
six_spelt a p q u v n tail s rest all h =
    let bytes = a ∷ p ∷ q ∷ u ∷ v ∷ n ∷ tail in
    let place : bytes_of_u32 s.place ≡ p ∷ q ∷ u ∷ v ∷ [] = rw h.place at (u32_spells.spelt (p ∷ q ∷ u ∷ v ∷ n ∷ tail) (omega arith) (bytes_in_drop 1 bytes all)) in
    let size : length s.name ≡ n = ap length (sym h.name) ∙ long in
    let behind : drop n tail ≡ rest = drop-drop n 6 bytes ∙ h.behind in
    let ends : s.name ++ rest ≡ tail = rw (← h.name, ← behind) (take-append-drop n tail) in
    rw (region_spelt a s.region h.region, place, size, ends) refl
  where
    long : length (take n tail) ≡ n
    long = let enough = h.long in omega (arith, length-take n tail)

pub symbol_spelt : (bytes : List ℕ) (s : Symbol) (rest : List ℕ) → AreBytes bytes → symbol_of bytes ≡ Some (s, rest) → bytes_of_symbol s ++ rest ≡ bytes
symbol_spelt bytes s rest all e = by_length bytes all (is_symbol_at bytes s rest e)
  where
    by_length : (bytes : List ℕ) → AreBytes bytes → IsSymbolAt bytes s rest → bytes_of_symbol s ++ rest ≡ bytes
    by_length [] all h = let l = h.long in absurd (omega arith)
    by_length (a ∷ []) all h = let l = h.long in absurd (omega arith)
    by_length (a ∷ p ∷ []) all h = let l = h.long in absurd (omega arith)
    by_length (a ∷ p ∷ q ∷ []) all h = let l = h.long in absurd (omega arith)
    by_length (a ∷ p ∷ q ∷ u ∷ []) all h = let l = h.long in absurd (omega arith)
    by_length (a ∷ p ∷ q ∷ u ∷ v ∷ []) all h = let l = h.long in absurd (omega arith)
    by_length (a ∷ p ∷ q ∷ u ∷ v ∷ n ∷ tail) all h = six_spelt a p q u v n tail s rest all h

-- symbols and what is behind them
pub symbols_spelt : (count : ℕ) (bytes : List ℕ) → AreBytes bytes → bytes_of_symbols (spelt_symbols count bytes).0 ++ (spelt_symbols count bytes).1 ≡ bytes
unfolding spelt_symbols bytes_of_symbols
symbols_spelt zero bytes all = refl
symbols_spelt (suc count) bytes all = next (symbol_of bytes) refl (λ rest fit. symbols_spelt count rest fit)
  where
    next : (o : Option (Symbol × List ℕ)) → symbol_of bytes ≡ o → ((rest : List ℕ) → AreBytes rest → flat_map bytes_of_symbol (spelt_symbols count rest).0 ++ (spelt_symbols count rest).1 ≡ rest)
        → let r = onto_spelt o bytes (λ rest. spelt_symbols count rest) in flat_map bytes_of_symbol r.0 ++ r.1 ≡ bytes
    next None e again = refl
    next (Some (s, rest)) e again =
        let here = symbol_spelt bytes s rest all e in
        let h = is_symbol_at bytes s rest e in
        let more = again rest (rw (← h.behind) (bytes_in_drop (6 + slice_index bytes 5) bytes all)) in
        append_assoc (bytes_of_symbol s) (flat_map bytes_of_symbol (spelt_symbols count rest).0) (spelt_symbols count rest).1 ∙ ap (λ (l : List ℕ). bytes_of_symbol s ++ l) more ∙ here

-- how many bytes symbols take
pub length-symbol : (s : Symbol) → length (bytes_of_symbol s) ≡ 6 + length s.name
unfolding bytes_of_u32
length-symbol s = omega arith

second : (a b : Bool) → (a && b) ≡ true → b ≡ true
second true b e = e
second false b e = absurd cc

pub label_short : (w : List ℕ) → is_label w ≡ true → length w ≤ 64
label_short w e = let short : nat_le (length w) MOST_LABEL ≡ true = second (is_name w) (nat_le (length w) MOST_LABEL) e in grind (arith, nat_tests)

pub names_bound : (ss : List Symbol) → ((k : ℕ) (d : Symbol) → k < length ss → is_label (get_or ss k d).name ≡ true) → length (bytes_of_symbols ss) ≤ 70 * length ss
unfolding bytes_of_symbols
names_bound [] labels = omega arith
names_bound (s ∷ ss) labels =
    let short = label_short s.name (labels 0 s (omega arith)) in
    let more = names_bound ss (λ k d lt. labels (suc k) d (omega arith)) in
    omega (arith, length-append (bytes_of_symbol s) (flat_map bytes_of_symbol ss), length-symbol s)

-- In a loop that reads symbols: so many are read, and the rest is to be read.
pub record SpeltSoFar (count : ℕ) (part : List ℕ) (done : ℕ) (symbols : List Symbol) (rest : List ℕ) : Type 0 where
  pub long : length symbols ≡ done
  pub front : (spelt_symbols count part).0 ≡ symbols ++ (spelt_symbols (count - done) rest).0
  pub back : (spelt_symbols count part).1 ≡ (spelt_symbols (count - done) rest).1

pub spelt_none : (count : ℕ) (part : List ℕ) → SpeltSoFar count part 0 [] part
spelt_none count part = let all : count - 0 ≡ count = omega arith in record { long = refl; front = rw all refl; back = rw all refl }

one_more : (left : ℕ) (bytes : List ℕ) (s : Symbol) (rest : List ℕ) → symbol_of bytes ≡ Some (s, rest) → spelt_symbols (suc left) bytes ≡ (s ∷ (spelt_symbols left rest).0, (spelt_symbols left rest).1)
unfolding spelt_symbols
one_more left bytes s rest e = rw e refl

pub spelt_more : (count : ℕ) (part : List ℕ) (done : ℕ) (symbols : List Symbol) (bytes : List ℕ) (s : Symbol) (rest : List ℕ) → done < count → SpeltSoFar count part done symbols bytes → symbol_of bytes ≡ Some (s, rest)
    → SpeltSoFar count part (done + 1) (symbols ++ s ∷ []) rest
spelt_more count part done symbols bytes s rest lt h e =
    let left : count - done ≡ suc (count - (done + 1)) = omega arith in
    let step = one_more (count - (done + 1)) bytes s rest e in
    record {
      long = let l = h.long in omega (arith, length-append symbols (s ∷ []));
      front = h.front ∙ ap (λ (n : ℕ). symbols ++ (spelt_symbols n bytes).0) left ∙ ap (λ (r : List Symbol × List ℕ). symbols ++ r.0) step ∙ sym (append_assoc symbols (s ∷ []) (spelt_symbols (count - (done + 1)) rest).0);
      back = h.back ∙ ap (λ (n : ℕ). (spelt_symbols n bytes).1) left ∙ ap (λ (r : List Symbol × List ℕ). r.1) step;
    }

-- where the loop stops at bytes that are no symbol, and where it comes to its end
none_there : (left : ℕ) (bytes : List ℕ) → symbol_of bytes ≡ None → spelt_symbols left bytes ≡ ([], bytes)
unfolding spelt_symbols
none_there zero bytes e = refl
none_there (suc left) bytes e = rw e refl

pub spelt_stops : (count : ℕ) (part : List ℕ) (done : ℕ) (symbols : List Symbol) (bytes : List ℕ) → SpeltSoFar count part done symbols bytes → symbol_of bytes ≡ None → symbols ≡ (spelt_symbols count part).0
spelt_stops count part done symbols bytes h e = sym (h.front ∙ ap (λ (r : List Symbol × List ℕ). symbols ++ r.0) (none_there (count - done) bytes e) ∙ append-nil symbols)

pub spelt_all : (count : ℕ) (part : List ℕ) (done : ℕ) (symbols : List Symbol) (bytes : List ℕ) → SpeltSoFar count part done symbols bytes → count ≤ done → (symbols ≡ (spelt_symbols count part).0) × (bytes ≡ (spelt_symbols count part).1)
unfolding spelt_symbols
spelt_all count part done symbols bytes h le =
    let none : count - done ≡ 0 = omega arith in
    (sym (h.front ∙ ap (λ (n : ℕ). symbols ++ (spelt_symbols n bytes).0) none ∙ append-nil symbols), sym (h.back ∙ ap (λ (n : ℕ). (spelt_symbols n bytes).1) none))

other_number : (m n : ℕ) → m < n → (m == n) ≡ false
other_number m n lt = grind (arith, nat_tests)

same_number : (m n : ℕ) → m ≡ n → (m == n) ≡ true
same_number m n e = grind (arith, nat_tests)

pub spelt_short : (count : ℕ) (part : List ℕ) (done : ℕ) (symbols : List Symbol) (bytes : List ℕ) → done < count → SpeltSoFar count part done symbols bytes → symbol_of bytes ≡ None → is_whole count (spelt_symbols count part) ≡ false
spelt_short count part done symbols bytes lt h e =
    let short : (length (spelt_symbols count part).0 == count) ≡ false = other_number (length (spelt_symbols count part).0) count (rw (← spelt_stops count part done symbols bytes h e, h.long) lt) in
    rw short refl

pub spelt_whole : (count : ℕ) (part : List ℕ) (done : ℕ) (symbols : List Symbol) (bytes : List ℕ) → count ≤ done → done ≤ count → SpeltSoFar count part done symbols bytes → (length bytes == 0) ≡ is_whole count (spelt_symbols count part)
spelt_whole count part done symbols bytes le ge h =
    let all = spelt_all count part done symbols bytes h le in
    let same : length (spelt_symbols count part).0 ≡ count = ap length (sym all.0) ∙ h.long ∙ done_is in
    let yes : (length (spelt_symbols count part).0 == count) ≡ true = same_number (length (spelt_symbols count part).0) count same in
    rw (yes, ← all.1) refl
  where
    done_is : done ≡ count
    done_is = omega arith

pub spelt_bound : (count : ℕ) (bytes : List ℕ) → length (spelt_symbols count bytes).0 ≤ count
unfolding spelt_symbols
spelt_bound zero bytes = omega arith
spelt_bound (suc count) bytes = next (symbol_of bytes) (λ rest. spelt_bound count rest)
  where
    next : (o : Option (Symbol × List ℕ)) → ((rest : List ℕ) → length (spelt_symbols count rest).0 ≤ count) → length (onto_spelt o bytes (λ rest. spelt_symbols count rest)).0 ≤ suc count
    next None more = omega arith
    next (Some (s, rest)) more = let m = more rest in omega arith

-- in a loop that adds the sizes of symbols
pub size_more : (ss : List Symbol) (i : ℕ) (d : Symbol) → i < length ss → length (bytes_of_symbols (take (i + 1) ss)) ≡ length (bytes_of_symbols (take i ss)) + (6 + length (get_or ss i d).name)
unfolding bytes_of_symbols
size_more ss i d lt = ap length (flat_more bytes_of_symbol ss i d lt) ∙ length-append (flat_map bytes_of_symbol (take i ss)) (bytes_of_symbol (get_or ss i d)) ∙ ap (λ (n : ℕ). length (flat_map bytes_of_symbol (take i ss)) + n) (length-symbol (get_or ss i d))

pub size_within : (ss : List Symbol) (i : ℕ) (d : Symbol) → i < length ss → length (bytes_of_symbols (take i ss)) + (6 + length (get_or ss i d).name) ≤ length (bytes_of_symbols ss)
unfolding bytes_of_symbols
size_within ss i d lt =
    let parts = ap length (flat_split bytes_of_symbol ss i d lt) ∙ length-append (flat_map bytes_of_symbol (take i ss)) (bytes_of_symbol (get_or ss i d) ++ flat_map bytes_of_symbol (drop (suc i) ss)) in
    let inner = length-append (bytes_of_symbol (get_or ss i d)) (flat_map bytes_of_symbol (drop (suc i) ss)) in
    omega (arith, length-symbol (get_or ss i d))

pub size_all : (ss : List Symbol) (n : ℕ) → length ss ≤ n → length (bytes_of_symbols (take n ss)) ≡ length (bytes_of_symbols ss)
unfolding bytes_of_symbols
size_all ss n le = ap length (flat_all bytes_of_symbol ss n le)

pub size_none : (ss : List Symbol) → 0 ≡ length (bytes_of_symbols (take 0 ss))
unfolding bytes_of_symbols
size_none ss = refl
