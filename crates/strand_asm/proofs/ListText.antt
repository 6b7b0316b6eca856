-- Serves clause text of list: the text of lines, part by part.
use Rattle.std.proofs.Common.{◌≡◌, ℕ, zero, suc, ◌+◌, ◌<◌, ◌≤◌, arith, List, [], ◌∷◌, ◌++◌, length, map, drop, get_or, Bool, true, Option, Some, None, Result, Ok, Err, refl, sym, ap, ◌∙◌, append_assoc, add-one, drop-cons}
use Rattle.std.specs.Fmt.{decimal}
use Rattle.std.proofs.lemmas.List.{append-nil, drop_all}
use lib.Chars.{codes}
use Rattle.std.specs.List.{flat_map}
use Rattle.strand_base.proofs.AppendsFront.{flat_of_map, front_before, puts_after}
use Rattle.strand_base.specs.declared.out_of_memory.OutOfMemory.{OutOfMemory}
use Rattle.strand_base.specs.Puts.{AppendsFront, Puts}
use Rattle.strand_isa.specs.Print.{Prints}
use Rattle.strand_image.specs.ImageSeen.{ImageSeen}
use Rattle.strand_image.specs.declared.symbol.Symbol.{Symbol}
use Rattle.strand_image.specs.declared.symbol.Region.TheVariants.{Code, Volatile, Persistent}
use Rattle.strand_asm.specs.Listing.{code_lines, code_text, code_texts, data_lines, data_texts, entry_lines, lines_text, listing, name_text, names_at, names_lines, past_names, past_word, space_text, text_or, word_lines}

pub lines_append : (xs ys : List (List ℕ)) → lines_text (xs ++ ys) ≡ lines_text xs ++ lines_text ys
unfolding lines_text
lines_append [] ys = refl
lines_append (x ∷ xs) ys = ap (λ (s : List ℕ). (x ++ 10 ∷ []) ++ s) (lines_append xs ys) ∙ sym (append_assoc (x ++ 10 ∷ []) (lines_text xs) (lines_text ys))

pub lines_of_map : {X : Type 0} (f : X → List ℕ) (xs : List X) → lines_text (map f xs) ≡ flat_map (λ x. f x ++ 10 ∷ []) xs
unfolding lines_text
lines_of_map f xs = flat_of_map (λ l. l ++ 10 ∷ []) f xs

pub no_space : (n : ℕ) → n ≡ 0 → lines_text (space_text n) ≡ []
unfolding lines_text
no_space zero e = refl
no_space (suc n) e = absurd (omega (arith, e))

pub some_space : (n : ℕ) → (n ≡ 0 → ⊥) → lines_text (space_text n) ≡ codes ".space " ++ decimal n ++ 10 ∷ []
unfolding lines_text
some_space zero e = absurd (e refl)
some_space (suc n) e = append-nil (codes ".space " ++ decimal (suc n) ++ 10 ∷ [])

pub lone_line : (l : List ℕ) → lines_text (l ∷ []) ≡ l ++ 10 ∷ []
unfolding lines_text
lone_line l = append-nil (l ++ 10 ∷ [])

-- one more code word, with the names before it, and the end
pub code_more : (names : ℕ → List (List ℕ)) (ws : List ℕ) (i : ℕ) → i < length ws → lines_text (code_texts names i (drop i ws)) ≡ lines_text (names i ++ code_text (get_or ws i 0) ∷ []) ++ lines_text (code_texts names (i + 1) (drop (i + 1) ws))
code_more names ws i lt =
    rw (add-one i, drop-cons ws i 0 lt) (ap lines_text (rw (add-one i) (sym (append_assoc (names i) (code_text (get_or ws i 0) ∷ []) (code_texts names (suc i) (drop (suc i) ws))))) ∙ lines_append (names i ++ code_text (get_or ws i 0) ∷ []) (code_texts names (suc i) (drop (suc i) ws)))

pub code_end : (names : ℕ → List (List ℕ)) (ws : List ℕ) (i : ℕ) → length ws ≤ i → lines_text (code_texts names i (drop i ws)) ≡ lines_text (names i)
code_end names ws i le = rw (drop_all i ws le) refl

pub past_names_least : (count : ℕ) (names : List (List ℕ)) → past_names count names ≤ count
past_names_least count [] = omega arith
past_names_least count (n ∷ ns) = omega arith

pub past_word_least : (count w : ℕ) → past_word count w ≤ count + 1
past_word_least count zero = omega arith
past_word_least count (suc w) = omega arith

-- one more data word
pub data_more : (names : ℕ → List (List ℕ)) (count : ℕ) (ws : List ℕ) (i : ℕ) → i < length ws
    → let w = get_or ws i 0 in let left = past_names count (names i) in
    lines_text (data_texts names i count (drop i ws)) ≡ lines_text (names_lines count (names i) ++ word_lines left w) ++ lines_text (data_texts names (i + 1) (past_word left w) (drop (i + 1) ws))
data_more names count ws i lt =
    let w = get_or ws i 0 in
    let left = past_names count (names i) in
    rw (add-one i, drop-cons ws i 0 lt) (ap lines_text (rw (add-one i) (sym (append_assoc (names_lines count (names i)) (word_lines left w) (data_texts names (suc i) (past_word left w) (drop (suc i) ws))))) ∙ lines_append (names_lines count (names i) ++ word_lines left w) (data_texts names (suc i) (past_word left w) (drop (suc i) ws)))

pub data_end : (names : ℕ → List (List ℕ)) (count : ℕ) (ws : List ℕ) (i : ℕ) → length ws ≤ i → lines_text (data_texts names i count (drop i ws)) ≡ lines_text (space_text count ++ names i)
data_end names count ws i le = rw (drop_all i ws le) refl

-- an instruction's line behind its text
pub print_stops : (e : OutOfMemory) (o : Option (List ℕ)) (w : ℕ) (old new : List ℕ) → (let r : Result Bool OutOfMemory = Err e in Prints r o old new) → AppendsFront (text_or w o ++ 10 ∷ []) old new
print_stops e (Some text) w old new h = front_before text (10 ∷ []) old new h
print_stops e None w old new h = absurd h

pub line_printed : {T F : Type 0} (r : Result T F) (b : Bool) (o : Option (List ℕ)) (w : ℕ) (old mid new : List ℕ) → b ≡ true → (let k : Result Bool OutOfMemory = Ok b in Prints k o old mid) → Puts r (10 ∷ []) mid new → Puts r (text_or w o ++ 10 ∷ []) old new
line_printed r b (Some text) w old mid new is h g = puts_after r text (10 ∷ []) old mid new h.1 g
line_printed r b None w old mid new is h g = absurd (let e = h.0 in cc)

-- a listing, section by section
pub listing_parts : (p : ImageSeen) → listing p
    ≡ (lines_text (entry_lines p.entries) ++ (codes ".code\n" ++ lines_text (code_lines (names_at p.symbols Code) p.code)))
    ++ ((codes ".volatile\n" ++ lines_text (data_lines (names_at p.symbols Volatile) p.volatile)) ++ (codes ".persist\n" ++ lines_text (data_lines (names_at p.symbols Persistent) p.persistent)))
unfolding listing lines_text
listing_parts p =
    let e = entry_lines p.entries in
    let c = codes ".code" ∷ code_lines (names_at p.symbols Code) p.code in
    let v = codes ".volatile" ∷ data_lines (names_at p.symbols Volatile) p.volatile in
    let q = codes ".persist" ∷ data_lines (names_at p.symbols Persistent) p.persistent in
    lines_append (e ++ c ++ v) q ∙ ap (λ (s : List ℕ). s ++ lines_text q) (lines_append (e ++ c) v ∙ ap (λ (s : List ℕ). s ++ lines_text v) (lines_append e c))
    ∙ append_assoc (lines_text e ++ lines_text c) (lines_text v) (lines_text q)

-- no lines: of a word of 0, and before a word without names
pub no_word : (count w : ℕ) → w ≡ 0 → lines_text (word_lines count w) ≡ []
unfolding lines_text
no_word count zero e = refl
no_word count (suc w) e = absurd (omega arith)

pub no_names : (count : ℕ) (names : List Symbol) → length names ≡ 0 → lines_text (names_lines count (map name_text names)) ≡ []
unfolding lines_text
no_names count [] e = refl
no_names count (s ∷ ss) e = absurd (omega arith)
