-- Serves clause again of list: the assembly of a listing is the image again.
use Rattle.std.proofs.Common.{◌≡◌, ℕ, zero, suc, ◌+◌, ◌^◌, ◌<◌, ◌≤◌, true, false, List, [], ◌∷◌, ◌++◌, length, get_or, map, Result, Ok, Err, refl, sym, ap, ◌∙◌, arith}
use Rattle.std.specs.Prelude.{◌==◌, slice_index}
use Rattle.std.proofs.lemmas.List.{length-map}
use Rattle.std.specs.List.{AllByRecursion, list_all}
use Rattle.std.specs.Result.{OnOk}
use Rattle.std.proofs.lemmas.List.Elements.{All-filter, recursion_from_All}
use Rattle.std.proofs.lemmas.List.Folds.{list_all-append}
use Rattle.std.proofs.lemmas.Bool.Decides.{nat_tests}
use Rattle.std.specs.Fmt.{decimal}
use lib.Chars.{codes}
use Rattle.strand_base.specs.declared.limits.TheConstants.{MOST_DATA}
use Rattle.strand_base.specs.Name.{is_label}
use Rattle.strand_base.specs.Text.{lines_of}
use Rattle.strand_image.specs.ImageSeen.{ImageSeen}
use Rattle.strand_image.specs.Limits.{IsImage}
use Rattle.strand_image.specs.declared.quantity.Quantity.TheVariants.{Cores, Code, Volatile, Persistent, Symbols}
use Rattle.strand_image.specs.Symbols.{in_order}
use Rattle.strand_image.specs.declared.symbol.Region.{Region}
use Rattle.strand_image.specs.declared.symbol.Region.TheVariants as regions
use Rattle.strand_image.specs.declared.symbol.Symbol.{Symbol}
use Rattle.strand_image.proofs.Order.{order_stays}
use Rattle.strand_image.proofs.Versions.{within_passes}
use Rattle.strand_asm_lines.specs.declared.line.Section.TheVariants as sections
use Rattle.strand_asm.specs.declared.layout.Layout.{Layout}
use Rattle.strand_asm.specs.declared.addition.Addition.TheVariants as additions
use Rattle.strand_asm.specs.Layout.{laid, layout_of, empty_layout}
use Rattle.strand_asm.specs.DraftSeen.{DraftSeen}
use Rattle.strand_asm.specs.Draft.{added, addition, blank, draft_of, drafted}
use Rattle.strand_asm.specs.Assemble.{assembled, cores_of_entries, entered, label_symbol, limited}
use Rattle.strand_asm.specs.Listing.{IsDecoded, code_lines, code_text, code_texts, data_lines, data_texts, entry_lines, entry_text, listing, listing_lines, name_text, names_at, names_lines, past_names, past_word, space_text, stands_at, word_lines, word_text}
use Rattle.strand_asm.proofs.ListAgain.Lines.{IsShown, IsText, is_shown, label_line_shown, lines_again, text_shown}
use Rattle.strand_asm.proofs.ListAgain.ManyLines.{Goes, goes_all, goes_append, goes_cons}
use Rattle.strand_asm.proofs.ListAgain.Directives.{code_line, entry_line, persist_line, space_line, volatile_line, word_line}
use Rattle.strand_asm.proofs.ListAgain.CodeWords.{IsCodeLine, code_line_of}
use Rattle.strand_asm.proofs.ListAgain.NamedSoFar.{named_all, named_at, named_before, named_code, named_first, named_volatile}
use Rattle.strand_asm.proofs.ListAgain.Names.{AreNamed, IsLaid, st}
use Rattle.strand_asm.proofs.ListAgain.Sections.{Is, code_drafted, code_laid, dr, draft_takes, entries_drafted, entries_laid, high_word, lay_takes, persist_drafted, persist_laid, volatile_drafted, volatile_laid}

-- lines of bytes that show
abbrev AreShown : List (List ℕ) → Type 0
AreShown ls = list_all (λ l. list_all is_shown l) ls ≡ true

shown_lines : (xs ys : List (List ℕ)) → AreShown xs → AreShown ys → AreShown (xs ++ ys)
shown_lines xs ys p q = rw (list_all-append (λ (l : List ℕ). list_all is_shown l) xs ys, p, q) refl

first_line : (l : List ℕ) (ls : List (List ℕ)) → IsShown l → AreShown ls → AreShown (l ∷ ls)
first_line l ls p q = rw (p, q) refl

map_shown : (text : ℕ → List ℕ) (P : ℕ → Type 0) → ((w : ℕ) → P w → IsText (text w)) → (ws : List ℕ) → ((k : ℕ) → k < length ws → P (get_or ws k 0)) → AreShown (map text ws)
map_shown text P plain [] all = refl
map_shown text P plain (w ∷ ws) all = first_line (text w) (map text ws) (text_shown (text w) (plain w (all zero (omega arith)))) (map_shown text P plain ws (λ k lt. all (suc k) (omega (arith, lt))))

names_shown : (ss : List Symbol) → AllByRecursion (λ (s : Symbol). is_label s.name ≡ true) ss → AreShown (map name_text ss)
names_shown [] all = refl
names_shown (s ∷ ss) all = first_line (name_text s) (map name_text ss) (label_line_shown s.name all.0) (names_shown ss all.1)

place_shown : (ss : List Symbol) (region : Region) (at : ℕ) → AreNamed ss → AreShown (names_at ss region at)
place_shown ss region at are = names_shown (named_at ss region at) (recursion_from_All (λ (s : Symbol). is_label s.name ≡ true) (named_at ss region at) (All-filter (stands_at region at) (λ s. is_label s.name ≡ true) ss are.labels))

space_shown : (count : ℕ) → count ≤ MOST_DATA → AreShown (space_text count)
space_shown zero le = refl
space_shown (suc n) le = first_line (codes ".space " ++ decimal (suc n)) [] (text_shown (codes ".space " ++ decimal (suc n)) (space_line (suc n) le).plain) refl

-- the lines of a section, where those of its names show
module _ (names : ℕ → List (List ℕ)) (named : (at : ℕ) → AreShown (names at)) where
  code_shown : (at : ℕ) (ws : List ℕ) → ((k : ℕ) → k < length ws → IsCodeLine (code_text (get_or ws k 0)) (get_or ws k 0)) → AreShown (code_texts names at ws)
  code_shown at [] all = named at
  code_shown at (w ∷ ws) all =
      shown_lines (names at) (code_text w ∷ code_texts names (at + 1) ws) (named at)
      (first_line (code_text w) (code_texts names (at + 1) ws) (text_shown (code_text w) (all zero (omega arith)).line.plain) (code_shown (at + 1) ws (λ k lt. all (suc k) (omega (arith, lt)))))

  ended_shown : (count : ℕ) (ns : List (List ℕ)) → count ≤ MOST_DATA → AreShown ns → AreShown (names_lines count ns)
  ended_shown count [] le p = refl
  ended_shown count (n ∷ ns) le p = shown_lines (space_text count) (n ∷ ns) (space_shown count le) p

  left_least : (count : ℕ) (ns : List (List ℕ)) → past_names count ns ≤ count
  left_least count [] = omega arith
  left_least count (n ∷ ns) = omega arith

  word_shown : (left w : ℕ) → left ≤ MOST_DATA → w < 2 ^ 64 → AreShown (word_lines left w)
  word_shown left zero le fits = refl
  word_shown left (suc w) le fits =
      shown_lines (space_text left) (word_text 0 (suc w) ∷ []) (space_shown left le)
      (first_line (word_text 0 (suc w)) [] (text_shown (word_text 0 (suc w)) (word_line 0 (suc w) (omega arith) fits (high_word (suc w) fits)).plain) refl)

  next_least : (left w : ℕ) → past_word left w ≤ left + 1
  next_least left zero = omega arith
  next_least left (suc w) = omega arith

  data_shown : (ws : List ℕ) (at count : ℕ) → count + length ws ≤ MOST_DATA → ((k : ℕ) → k < length ws → get_or ws k 0 < 2 ^ 64) → AreShown (data_texts names at count ws)
  data_shown [] at count le all = shown_lines (space_text count) (names at) (space_shown count (omega (arith, le))) (named at)
  data_shown (w ∷ ws) at count le all =
      let left = past_names count (names at) in
      let few = left_least count (names at) in
      let next = next_least left w in
      shown_lines (names_lines count (names at)) (word_lines left w ++ data_texts names (at + 1) (past_word left w) ws) (ended_shown count (names at) (omega (arith, le)) (named at))
      (shown_lines (word_lines left w) (data_texts names (at + 1) (past_word left w) ws) (word_shown left w (omega (arith, le, few)) (all zero (omega arith)))
      (data_shown ws (at + 1) (past_word left w) (omega (arith, le, few, next)) (λ k lt. all (suc k) (omega (arith, lt)))))

-- what is known of an image whose words are listed
record Listed (p : ImageSeen) : Type 0 where
  image : IsImage p
  code_words : (k : ℕ) → k < length p.code → IsCodeLine (code_text (get_or p.code k 0)) (get_or p.code k 0)

-- Its symbols have labels, ascend, and differ in their names.
named : (p : ImageSeen) → Listed p → AreNamed p.symbols
named p h = record { labels = h.image.symbols.labels; ascend = h.image.symbols.ascend; differ = h.image.symbols.differ }

all_shown : (p : ImageSeen) → Listed p → AreShown (listing_lines p)
unfolding entry_lines code_lines data_lines
all_shown p h =
    let are = named p h in
    let es = entry_lines p.entries in
    let cs = code_lines (names_at p.symbols regions.Code) p.code in
    let vs = data_lines (names_at p.symbols regions.Volatile) p.volatile in
    let qs = data_lines (names_at p.symbols regions.Persistent) p.persistent in
    let e = map_shown entry_text (λ n. n < 2 ^ 32) (λ w fits. (entry_line w (omega (arith, fits))).plain) p.entries h.image.entry_numbers in
    let c = first_line (codes ".code") cs refl (code_shown (names_at p.symbols regions.Code) (λ at. place_shown p.symbols regions.Code at are) 0 p.code h.code_words) in
    let v = first_line (codes ".volatile") vs refl (data_shown (names_at p.symbols regions.Volatile) (λ at. place_shown p.symbols regions.Volatile at are) p.volatile 0 0 (omega (arith, h.image.limits.volatile_within.1)) h.image.volatile_numbers) in
    let q = first_line (codes ".persist") qs refl (data_shown (names_at p.symbols regions.Persistent) (λ at. place_shown p.symbols regions.Persistent at are) p.persistent 0 0 (omega (arith, h.image.limits.persistent_within.1)) h.image.persistent_numbers) in
    let ec = es ++ codes ".code" ∷ cs in
    let ecv = ec ++ codes ".volatile" ∷ vs in
    shown_lines ecv (codes ".persist" ∷ qs) (shown_lines ec (codes ".volatile" ∷ vs) (shown_lines es (codes ".code" ∷ cs) e c) v) q

-- the layout and the draft of a listing
abbrev IsWhole : ImageSeen → Layout → Type 0
IsWhole p l = IsLaid sections.Persist (length p.entries) (length p.code) (length p.volatile) (length p.persistent) p.symbols l

abbrev end : ImageSeen → DraftSeen
end p = dr sections.Persist p.entries p.code p.volatile p.persistent

lays : (p : ImageSeen) → Listed p → Goes laid (IsLaid sections.Code 0 0 0 0 []) (IsWhole p) (listing_lines p)
lays p h =
    let c = length p.entries in
    let k = length p.code in
    let v = length p.volatile in
    let q = length p.persistent in
    let ss = p.symbols in
    let are = named p h in
    let e1 = entries_laid p.entries h.image.entry_numbers in
    let start = lay_takes sections.Code c 0 0 0 sections.Code c 0 0 0 (named_before ss regions.Code 0) (codes ".code") _ code_line refl (λ labels. refl) in
    let c1 = goes_cons laid (IsLaid sections.Code c 0 0 0 (named_before ss regions.Code 0)) (IsLaid sections.Code c 0 0 0 (named_before ss regions.Code 0)) (IsLaid sections.Code c k 0 0 (named_before ss regions.Code (k + 1))) (codes ".code") (code_lines (names_at ss regions.Code) p.code) start (code_laid c ss p.code are h.code_words) in
    let turn = lay_takes sections.Code c k 0 0 sections.Volatile c k 0 0 (named_before ss regions.Volatile 0) (codes ".volatile") _ volatile_line refl (λ labels. refl) in
    let v1 = goes_cons laid (IsLaid sections.Code c k 0 0 (named_before ss regions.Volatile 0)) (IsLaid sections.Volatile c k 0 0 (named_before ss regions.Volatile 0)) (IsLaid sections.Volatile c k v 0 (named_before ss regions.Volatile (v + 1))) (codes ".volatile") (data_lines (names_at ss regions.Volatile) p.volatile) turn
    (volatile_laid c k ss p.volatile are h.image.limits.volatile_within.1 h.image.volatile_numbers) in
    let last = lay_takes sections.Volatile c k v 0 sections.Persist c k v 0 (named_before ss regions.Persistent 0) (codes ".persist") _ persist_line refl (λ labels. refl) in
    let p1 = goes_cons laid (IsLaid sections.Volatile c k v 0 (named_before ss regions.Persistent 0)) (IsLaid sections.Persist c k v 0 (named_before ss regions.Persistent 0)) (IsLaid sections.Persist c k v q (named_before ss regions.Persistent (q + 1))) (codes ".persist") (data_lines (names_at ss regions.Persistent) p.persistent) last
    (persist_laid c k v ss p.persistent are h.image.limits.persistent_within.1 h.image.persistent_numbers) in
    let c1 = rw (named_first ss, named_code p ss h.image.symbols) at c1 in
    let v1 = rw (named_volatile p ss h.image.symbols) at v1 in
    let p1 = rw (named_all p ss h.image.symbols) at p1 in
    goes_append laid _ _ _ _ _ (goes_append laid _ _ _ _ _ (goes_append laid _ _ _ _ _ e1 c1) v1) p1

drafts : (p : ImageSeen) (whole : Layout) → Listed p → whole.code ≡ length p.code → Goes (drafted whole) (Is (dr sections.Code [] [] [] [])) (Is (end p)) (listing_lines p)
unfolding added addition
drafts p w h all_code =
    let are = named p h in
    let ss = p.symbols in
    let e1 = entries_drafted w p.entries (λ k lt. (h.image.entry_numbers k lt, (rw all_code (h.image.entries k lt)))) in
    let c1 = goes_cons (drafted w) (Is (dr sections.Code p.entries [] [] [])) _ _ (codes ".code") _ (draft_takes w (dr sections.Code p.entries [] [] []) (codes ".code") _ (additions.Section sections.Code) code_line (λ site. refl)) (code_drafted w ss p.entries p.code are h.code_words) in
    let v1 = goes_cons (drafted w) (Is (dr sections.Code p.entries p.code [] [])) _ _ (codes ".volatile") _ (draft_takes w (dr sections.Code p.entries p.code [] []) (codes ".volatile") _ (additions.Section sections.Volatile) volatile_line (λ site. refl)) (volatile_drafted w ss p.entries p.code p.volatile are h.image.limits.volatile_within.1 h.image.volatile_numbers) in
    let p1 = goes_cons (drafted w) (Is (dr sections.Volatile p.entries p.code p.volatile [])) _ _ (codes ".persist") _ (draft_takes w (dr sections.Volatile p.entries p.code p.volatile []) (codes ".persist") _ (additions.Section sections.Persist) persist_line (λ site. refl)) (persist_drafted w ss p.entries p.code p.volatile p.persistent are h.image.limits.persistent_within.1 h.image.persistent_numbers) in
    goes_append (drafted w) _ _ _ _ _ (goes_append (drafted w) _ _ _ _ _ (goes_append (drafted w) _ _ _ _ _ e1 c1) v1) p1

listing_is_read : (p : ImageSeen) → Listed p → lines_of (listing p) ≡ listing_lines p
unfolding listing
listing_is_read p h = lines_again (listing_lines p) (all_shown p h)

layout_again : (p : ImageSeen) → Listed p → (l : Layout) × (IsWhole p l × (layout_of (listing p) ≡ Ok l))
unfolding layout_of empty_layout
layout_again p h =
    let g = goes_all laid (IsLaid sections.Code 0 0 0 0 []) (IsWhole p) (listing_lines p) (lays p h) 1 (st sections.Code 0 0 0 0 []) (record { is = refl; symbols = refl }) in
    (g.0, (g.1.0, rw (listing_is_read p h) g.1.1))

draft_again : (p : ImageSeen) (whole : Layout) → Listed p → whole.code ≡ length p.code → draft_of whole (listing p) ≡ Ok (end p)
unfolding draft_of blank
draft_again p whole h all_code =
    let g = goes_all (drafted whole) (Is (dr sections.Code [] [] [] [])) (Is (end p)) (listing_lines p) (drafts p whole h all_code) 1 (dr sections.Code [] [] [] []) refl in
    rw (listing_is_read p h) (g.1.1 ∙ ap (λ (d : DraftSeen). Ok d) g.1.0)

some_cores : (n : ℕ) → 1 ≤ n → cores_of_entries n ≡ n
some_cores zero le = absurd (omega (arith, le))
some_cores (suc n) le = let apart : (suc n == 0) ≡ false = grind (arith, nat_tests) in rw apart refl

limits_again : (p : ImageSeen) (l : Layout) → IsImage p → IsWhole p l → limited l ≡ Ok tt
unfolding limited
limits_again p l h whole =
    let count : length l.labels ≡ length p.symbols = sym (length-map l.labels label_symbol) ∙ ap length whole.symbols in
    rw (
      ap (λ (m : Layout). m.cores) whole.is,
      ap (λ (m : Layout). m.code) whole.is,
      ap (λ (m : Layout). m.volatile) whole.is,
      ap (λ (m : Layout). m.persistent) whole.is,
      count,
      some_cores (length p.entries) h.limits.cores_within.0,
      within_passes Cores (length p.entries) h.limits.cores_within,
      within_passes Code (length p.code) h.limits.code_within,
      within_passes Volatile (length p.volatile) h.limits.volatile_within,
      within_passes Persistent (length p.persistent) h.limits.persistent_within,
      within_passes Symbols (length p.symbols) h.limits.symbols_within,
    ) refl

same_entries : (es : List ℕ) → 1 ≤ length es → entered es ≡ es
same_entries [] le = absurd (omega (arith, le))
same_entries (e ∷ es) le = refl

pub again : (p : ImageSeen) → IsImage p → ((k : ℕ) → k < length p.code → IsDecoded (slice_index p.code k)) → assembled (listing p) ≡ Ok p
unfolding assembled
again p image decoded =
    let h : Listed p = record { image = image; code_words = λ k lt. code_line_of (get_or p.code k 0) (image.code_numbers k lt) (decoded k lt) } in
    let laid_again = layout_again p h in
    let l = laid_again.0 in
    let whole = laid_again.1.0 in
    let symbols : in_order (map label_symbol l.labels) ≡ p.symbols = ap in_order whole.symbols ∙ order_stays p.symbols image.symbols.ascend in
    rw (laid_again.1.1, limits_again p l image whole, draft_again p l h (ap (λ (m : Layout). m.code) whole.is), symbols)
    (ap (λ (es : List ℕ). Ok (record p { entries = es })) (same_entries p.entries image.limits.cores_within.0))

pub ok_when : {T E : Type 0} (r : Result T E) (P : Type 0) → P → OnOk r P
ok_when (Ok x) P p = p
ok_when (Err e) P p = tt
