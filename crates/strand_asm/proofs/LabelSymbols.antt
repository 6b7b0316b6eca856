-- Serves assemble, where it calls Labels::symbols and Draft::finish: the labels of a text are symbols of its image.
use Rattle.std.proofs.Common.{◌≡◌, ℕ, zero, suc, ◌+◌, ◌<◌, ◌≤◌, ◌^◌, arith, inl, inr, Bool, true, false, cond, List, [], ◌∷◌, ◌++◌, length, map, get_or, Option, Some, None, Result, Ok, Err, refl, sym, subst, ◌∙◌}
use Rattle.std.specs.Prelude.{nat_le}
use Rattle.std.specs.List.{All, AllPairs}
use Rattle.std.specs.Option.{ok_or}
use Rattle.std.specs.Str.{bytes_eq}
use Rattle.std.proofs.Math.ListN.{get_or-append}
use Rattle.std.proofs.Math.Seq.{get_or-append_seam}
use Rattle.std.proofs.lemmas.Bool.{cases_lt}
use Rattle.std.proofs.lemmas.List.{get_or-map, length-append, length-map}
use Rattle.std.proofs.lemmas.List.Elements.{All-append, All-from_recursion}
use Rattle.std.proofs.lemmas.List.Sorted.{All-permutation, IsPermutation-sym, length_permutation}
use Rattle.std.proofs.lemmas.Map.{none_passes_from_lookup}
use Rattle.std.proofs.lemmas.Map.Keys.{apart_from_distinct, IsDistinct-from_apart, IsDistinct-IsPermutation}
use Rattle.strand_base.specs.declared.limits.TheConstants.{MOST_LABEL}
use Rattle.strand_base.specs.Name.{is_label, is_name}
use Rattle.strand_base.specs.Text.{content_of, lines_of}
use Rattle.strand_image.specs.ImageSeen.{ImageSeen}
use Rattle.strand_image.specs.Symbols.{AreSymbols, in_order, sizes_of, words_in}
use Rattle.strand_image.specs.declared.symbol.Symbol.{Symbol}
use Rattle.strand_image.proofs.Order.{no_ties, order_moved, order_strict}
use Rattle.strand_asm_lines.specs.Bytes.{after_blanks, pieces}
use Rattle.strand_asm_lines.specs.Line.{◌>>=◌, HasLabel, body_of, label_fits, labelled, line_of, line_parts}
use Rattle.strand_asm_lines.specs.declared.fault.LineKind.{LineKind}
use Rattle.strand_asm_lines.specs.declared.fault.LineKind.TheVariants.{BadToken, LongName}
use Rattle.strand_asm_lines.specs.declared.line.Section.{Section}
use Rattle.strand_asm_lines.specs.declared.line.Section.TheVariants as sections
use Rattle.strand_asm_lines.specs.declared.line.Body.{Body}
use Rattle.strand_asm_lines.specs.declared.line.Body.TheVariants as bodies
use Rattle.strand_asm_lines.specs.declared.line.Line.{Line}
use Rattle.strand_asm.specs.declared.layout.Layout.{Layout}
use Rattle.strand_asm.specs.declared.place.Place.{Place}
use Rattle.strand_asm.specs.Layout.{at_line, count_in, empty_layout, is_placed, label_place, laid, layout_after, layout_of, on_line, over_lines, size_of, unless_duplicate, with_label, with_more_words}
use Rattle.strand_asm.specs.Encode.{Table}
use Rattle.strand_asm.specs.Assemble.{AreLabels, label_symbol, label_symbols, region_of}
use Rattle.strand_asm.proofs.PassCounts.{both, if_true, not_duplicate, ok_inside}
use Rattle.strand_asm.proofs.LabelLookup.{flipped}

-- a line's label may name a symbol
line_both : {A B : Type 0} (r : Result A LineKind) (f : A → Result B LineKind) (y : B) → (r >>= f) ≡ Ok y → (x : A) × ((r ≡ Ok x) × (f x ≡ Ok y))
line_both (Ok x) f y e = (x, (refl, e))
line_both (Err k) f y e = absurd cc

abbrev IsNamed : Option (List ℕ) → Type 0
IsNamed None = Unit {0}
IsNamed (Some name) = is_name name ≡ true

some_inside : {A : Type 0} (x y : A) → (let o : Option A = Some x in o ≡ Some y) → x ≡ y
some_inside x y e = cc

tested : (b : Bool) (name rest : List ℕ) (parts : Option (List ℕ) × List ℕ) → is_name name ≡ b → cond b (Some (Some name, rest)) None ≡ Some parts → IsNamed parts.0
tested true name rest parts e f = subst (λ (ps : Option (List ℕ) × List ℕ). IsNamed ps.0) (some_inside _ parts f) e
tested false name rest parts e f = absurd cc

labelled_named : (ps : List (List ℕ)) (parts : Option (List ℕ) × List ℕ) → labelled ps ≡ Some parts → IsNamed parts.0
labelled_named [] parts e = absurd cc
labelled_named (rest ∷ []) parts e = subst (λ (qs : Option (List ℕ) × List ℕ). IsNamed qs.0) (some_inside _ parts e) tt
labelled_named (front ∷ rest ∷ []) parts e = tested (is_name (after_blanks front)) (after_blanks front) rest parts refl e
labelled_named (front ∷ rest ∷ more ∷ ps) parts e = absurd cc

if_some : {A : Type 0} (b : Bool) (o : Option A) (x : A) → cond b o None ≡ Some x → o ≡ Some x
if_some true o x e = e
if_some false o x e = absurd cc

parts_named : (content : List ℕ) (parts : Option (List ℕ) × List ℕ) → line_parts content ≡ Some parts → IsNamed parts.0
unfolding line_parts
parts_named content parts e = labelled_named (pieces 58 content) parts (if_some _ (labelled (pieces 58 content)) parts e)

ok_some : {A : Type 0} (o : Option A) (x : A) → ok_or o BadToken ≡ Ok x → o ≡ Some x
ok_some (Some y) x e = cc
ok_some None x e = absurd cc

fits_length : (b : Bool) → (let r : Result (Unit {0}) LineKind = cond b (Ok tt) (Err LongName) in r ≡ Ok tt) → b ≡ true
fits_length true e = refl
fits_length false e = absurd cc

label_is : (o : Option (List ℕ)) (body : Body) → IsNamed o → label_fits o ≡ Ok tt → HasLabel (record { label = o; body = body })
label_is None body h e = tt
label_is (Some name) body h e = rw (h, fits_length (nat_le (length name) MOST_LABEL) e) refl

line_label : (text : List ℕ) (line : Line) → line_of text ≡ Ok line → HasLabel line
unfolding line_of
line_label text line e =
    let a = line_both (ok_or (line_parts (content_of text)) BadToken) _ line e in
    let b = line_both (label_fits a.0.0) _ line a.1.1 in
    let c = line_both (body_of a.0.1) _ line b.1.1 in
    let named = parts_named (content_of text) a.0 (ok_some (line_parts (content_of text)) a.0 a.1.0) in
    let same : record { label = a.0.0; body = c.0 } ≡ line = line_inside (record { label = a.0.0; body = c.0 }) line c.1.1 in
    subst HasLabel same (label_is a.0.0 c.0 named b.1.0)
  where
    line_inside : (x y : Line) → (let r : Result Line LineKind = Ok x in r ≡ Ok y) → x ≡ y
    line_inside x y e = cc

-- what is known of the labels of a layout: each stands in its section or at its end
record AreMarked (l : Layout) : Type 0 where
  names : All (λ (e : List ℕ × Place). is_label e.0 ≡ true) l.labels
  places : All (λ (e : List ℕ × Place). e.1.index ≤ count_in e.1.section l) l.labels
  differ : AllPairs (λ (a b : List ℕ × Place). bytes_eq a.0 b.0 ≡ false) l.labels

none_marked : AreMarked empty_layout
unfolding empty_layout
none_marked = record { names = λ k d lt. absurd (omega arith); places = λ k d lt. absurd (omega arith); differ = λ i j d lt below. absurd (omega arith) }

-- one element more
pairs_more : {X : Type 0} (R : X → X → Type 0) (xs : List X) (x : X) → AllPairs R xs → All (λ a. R a x) xs → AllPairs R (xs ++ x ∷ [])
pairs_more R xs x pairs all i j d lt below =
    let long = length-append xs (x ∷ []) in
    elim (cases_lt j (length xs)) [
      | inl before ↦ rw (get_or-append xs (x ∷ []) d i (omega arith), get_or-append xs (x ∷ []) d j before) (pairs i j d lt before)
      | inr after ↦
          let last : j ≡ length xs = omega (arith, long) in
          rw (get_or-append xs (x ∷ []) d i (omega arith), last, get_or-append_seam xs x [] d) (all i d (omega arith))
    ]

lone : {X : Type 0} (P : X → Type 0) (x : X) → P x → All P (x ∷ [])
lone P x p zero d lt = p
lone P x p (suc k) d lt = absurd (omega arith)

same_count : (s : Section) (l : Layout) (labels : Table) → count_in s (record l { labels = labels }) ≡ count_in s l
same_count sections.Code l labels = refl
same_count sections.Volatile l labels = refl
same_count sections.Persist l labels = refl

-- a label that no earlier one repeats
label_marked : (n : ℕ) (l : Layout) (name : List ℕ) → is_label name ≡ true → label_place l.labels name ≡ None → AreMarked l
    → AreMarked (record l { labels = l.labels ++ (name, record { line = n; section = l.section; index = count_in l.section l }) ∷ [] })
unfolding label_place
label_marked n l name is new h =
    let place : Place = record { line = n; section = l.section; index = count_in l.section l } in
    let labels = l.labels ++ (name, place) ∷ [] in
    let apart = All-from_recursion (λ (e : List ℕ × Place). bytes_eq name e.0 ≡ false) l.labels (none_passes_from_lookup (bytes_eq name) l.labels new) in
    record {
      names = All-append (λ (e : List ℕ × Place). is_label e.0 ≡ true) l.labels ((name, place) ∷ []) h.names (lone (λ (e : List ℕ × Place). is_label e.0 ≡ true) (name, place) is);
      places = All-append (λ (e : List ℕ × Place). e.1.index ≤ count_in e.1.section (record l { labels = labels })) l.labels ((name, place) ∷ []) (λ k d lt. rw (same_count (get_or l.labels k d).1.section l labels) (h.places k d lt))
          (lone (λ (e : List ℕ × Place). e.1.index ≤ count_in e.1.section (record l { labels = labels })) (name, place) (let e = same_count l.section l labels in omega arith));
      differ = pairs_more (λ (a b : List ℕ × Place). bytes_eq a.0 b.0 ≡ false) l.labels (name, place) h.differ (λ k d lt. flipped name (get_or l.labels k d).0 _ (apart k d lt) refl);
    }

-- Sizes grow, and labels stay.
more_count : (s t : Section) (n : ℕ) (l : Layout) → count_in s l ≤ count_in s (with_more_words t n l)
more_count sections.Code sections.Code n l = omega arith
more_count sections.Code sections.Volatile n l = omega arith
more_count sections.Code sections.Persist n l = omega arith
more_count sections.Volatile sections.Code n l = omega arith
more_count sections.Volatile sections.Volatile n l = omega arith
more_count sections.Volatile sections.Persist n l = omega arith
more_count sections.Persist sections.Code n l = omega arith
more_count sections.Persist sections.Volatile n l = omega arith
more_count sections.Persist sections.Persist n l = omega arith

same_labels : (t : Section) (n : ℕ) (l : Layout) → l.labels ≡ (with_more_words t n l).labels
same_labels sections.Code n l = refl
same_labels sections.Volatile n l = refl
same_labels sections.Persist n l = refl

kept_marked : (l m : Layout) → l.labels ≡ m.labels → ((s : Section) → count_in s l ≤ count_in s m) → AreMarked l → AreMarked m
kept_marked l m same grows h = record {
  names = subst (λ (labels : Table). All (λ (e : List ℕ × Place). is_label e.0 ≡ true) labels) same h.names;
  places = subst (λ (labels : Table). All (λ (e : List ℕ × Place). e.1.index ≤ count_in e.1.section m) labels) same (λ k d lt. let le = h.places k d lt in let more = grows (get_or l.labels k d).1.section in omega arith);
  differ = subst (λ (labels : Table). AllPairs (λ (a b : List ℕ × Place). bytes_eq a.0 b.0 ≡ false) labels) same h.differ;
}

words_marked : (t : Section) (n : ℕ) (l : Layout) → AreMarked l → AreMarked (with_more_words t n l)
words_marked t n l h = kept_marked l (with_more_words t n l) (same_labels t n l) (λ s. more_count s t n l) h

turned_count : (s t : Section) (l : Layout) → count_in s l ≤ count_in s (record l { section = t })
turned_count sections.Code t l = omega arith
turned_count sections.Volatile t l = omega arith
turned_count sections.Persist t l = omega arith

entered_count : (s : Section) (l : Layout) → count_in s l ≤ count_in s (record l { cores = l.cores + 1 })
entered_count sections.Code l = omega arith
entered_count sections.Volatile l = omega arith
entered_count sections.Persist l = omega arith

body_marked : (l : Layout) (body : Body) → AreMarked l → AreMarked (layout_after l body)
body_marked l bodies.Empty h = h
body_marked l (bodies.Section t) h = kept_marked l (record l { section = t }) refl (λ s. turned_count s t l) h
body_marked l (bodies.Entry target) h = kept_marked l (record l { cores = l.cores + 1 }) refl (λ s. entered_count s l) h
body_marked l (bodies.Word z) h = words_marked l.section 1 l h
body_marked l (bodies.Space n) h = words_marked l.section n l h
body_marked l (bodies.Code p) h = words_marked sections.Code (size_of p) l h

none_there : (n : ℕ) (o : Option Place) (m named : Layout) → unless_duplicate n o m ≡ Ok named → o ≡ None
none_there n None m named e = refl
none_there n (Some place) m named e = absurd cc

named_marked : (n : ℕ) (o : Option (List ℕ)) (body : Body) (l named : Layout) → HasLabel (record { label = o; body = body }) → with_label n o l ≡ Ok named → AreMarked l → AreMarked named
named_marked n None body l named is e h = subst AreMarked (ok_inside l named e) h
named_marked n (Some name) body l named is e h =
    subst AreMarked (not_duplicate n (label_place l.labels name) _ named e) (label_marked n l name is (none_there n (label_place l.labels name) _ named e) h)

line_marked : (n : ℕ) (l after : Layout) (line : Line) → HasLabel line → laid n l line ≡ Ok after → AreMarked l → AreMarked after
unfolding laid
line_marked n l after line is e h =
    let t = if_true (is_placed l.section line.body) _ _ after e in
    let named = both (with_label n line.label l) _ after t.1 in
    subst AreMarked (ok_inside _ after named.1.1) (body_marked named.0 line.body (named_marked n line.label line.body l named.0 is named.1.0 h))

at_line_ok : (n : ℕ) (r : Result Line LineKind) (line : Line) → at_line n r ≡ Ok line → r ≡ Ok line
at_line_ok n (Ok x) line e = cc
at_line_ok n (Err k) line e = absurd cc

lines_marked : (n : ℕ) (l after : Layout) (texts : List (List ℕ)) → over_lines laid n l texts ≡ Ok after → AreMarked l → AreMarked after
unfolding over_lines
lines_marked n l after [] e h = subst AreMarked (ok_inside l after e) h
lines_marked n l after (text ∷ texts) e h =
    let one = both (on_line laid n l text) _ after e in
    let line = both (at_line n (line_of text)) _ one.0 one.1.0 in
    lines_marked (n + 1) one.0 after texts one.1.1 (line_marked n l one.0 line.0 (line_label text line.0 (at_line_ok n (line_of text) line.0 line.1.0)) line.1.1 h)

marked : (text : List ℕ) (layout : Layout) → layout_of text ≡ Ok layout → AreMarked layout
unfolding layout_of
marked text layout e = lines_marked 1 empty_layout layout (lines_of text) e none_marked

-- Where no section has 2 ^ 32 words, the labels are symbols.
below_all : (s : Section) (l : Layout) → l.code < 2 ^ 32 → l.volatile < 2 ^ 32 → l.persistent < 2 ^ 32 → count_in s l < 2 ^ 32
below_all sections.Code l c v p = c
below_all sections.Volatile l c v p = v
below_all sections.Persist l c v p = p

pub are_labels : (text : List ℕ) (layout : Layout) → layout_of text ≡ Ok layout → layout.code < 2 ^ 32 → layout.volatile < 2 ^ 32 → layout.persistent < 2 ^ 32 → AreLabels layout.labels
are_labels text layout e c v p =
    let h = marked text layout e in
    record {
      names = h.names;
      places = λ k d lt. let le = h.places k d lt in let few = below_all (get_or layout.labels k d).1.section layout c v p in omega arith;
      differ = h.differ;
    }

-- The symbols of the labels keep the rules, in their order.
pub nowhere : List ℕ × Place
nowhere = ([], record { line = 0; section = sections.Code; index = 0 })

symbols_all : (P : Symbol → Type 0) (labels : Table) → All (λ (e : List ℕ × Place). P (label_symbol e)) labels → All P (label_symbols labels)
symbols_all P labels all =
    let ss = map label_symbol labels in
    All-permutation P ss (in_order ss) (IsPermutation-sym (in_order ss) ss (order_moved ss)) (λ k d lt. let here : k < length labels = omega (arith, length-map labels label_symbol) in rw (get_or-map label_symbol labels k nowhere d here) (all k nowhere here))

pub differ_mapped : (labels : Table) → AllPairs (λ (a b : List ℕ × Place). bytes_eq a.0 b.0 ≡ false) labels → AllPairs (λ (a b : Symbol). bytes_eq a.name b.name ≡ false) (map label_symbol labels)
differ_mapped labels differ i j d lt below =
    let here : j < length labels = omega (arith, length-map labels label_symbol) in
    rw (get_or-map label_symbol labels i nowhere d (omega arith), get_or-map label_symbol labels j nowhere d here) (differ i j nowhere lt here)

flips : (x y : Symbol) → bytes_eq x.name y.name ≡ bytes_eq y.name x.name
flips x y = by_both (bytes_eq x.name y.name) (bytes_eq y.name x.name) refl refl
  where
    by_both : (a b : Bool) → bytes_eq x.name y.name ≡ a → bytes_eq y.name x.name ≡ b → a ≡ b
    by_both false b e f = sym (flipped x.name y.name b e f)
    by_both true true e f = refl
    by_both true false e f = flipped y.name x.name true f e

differ_moved : (ss : List Symbol) → AllPairs (λ a b. bytes_eq a.name b.name ≡ false) ss → AllPairs (λ a b. bytes_eq a.name b.name ≡ false) (in_order ss)
differ_moved ss differ i j d lt below =
    let same = λ (x y : Symbol). bytes_eq x.name y.name in
    apart_from_distinct same (in_order ss) i j d (IsDistinct-IsPermutation same flips ss (in_order ss) (IsPermutation-sym (in_order ss) ss (order_moved ss)) (IsDistinct-from_apart same ss differ)) lt below

-- An image has as many words as were counted.
pub record IsCounted (l : Layout) (p : ImageSeen) : Type 0 where
  pub code_words : length p.code ≡ l.code
  pub volatile_words : length p.volatile ≡ l.volatile
  pub persistent_words : length p.persistent ≡ l.persistent

words_counted : (s : Section) (l : Layout) (p : ImageSeen) → IsCounted l p → count_in s l ≡ words_in (sizes_of p) (region_of s)
words_counted sections.Code l p h = sym h.code_words
words_counted sections.Volatile l p h = sym h.volatile_words
words_counted sections.Persist l p h = sym h.persistent_words

pub label_symbols_stand : (text : List ℕ) (layout : Layout) (p : ImageSeen) → layout_of text ≡ Ok layout → IsCounted layout p → AreSymbols (sizes_of p) (label_symbols layout.labels)
label_symbols_stand text layout p e counted =
    let h = marked text layout e in
    let ss = map label_symbol layout.labels in
    let differ = differ_mapped layout.labels h.differ in
    record {
      labels = symbols_all (λ s. is_label s.name ≡ true) layout.labels h.names;
      places = symbols_all (λ s. s.place ≤ words_in (sizes_of p) s.region) layout.labels (λ k d lt. let same = words_counted (get_or layout.labels k d).1.section layout p counted in let le = h.places k d lt in omega (arith, same));
      ascend = order_strict ss (no_ties ss differ);
      differ = differ_moved ss differ;
    }

pub symbols_long : (labels : Table) → length (label_symbols labels) ≡ length labels
symbols_long labels = let ss = map label_symbol labels in length_permutation ss (in_order ss) (IsPermutation-sym (in_order ss) ss (order_moved ss)) ∙ length-map labels label_symbol
