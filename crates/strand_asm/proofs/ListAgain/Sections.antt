-- Serves clause again of list: the two passes over each part of a listing.
use Rattle.std.proofs.Common.{◌≡◌, ℕ, suc, ◌+◌, ◌-◌, ◌*◌, ◌/◌, ◌^◌, ◌<◌, ◌≤◌, true, List, [], ◌∷◌, ◌++◌, length, get_or, Ok, refl, ap, ◌∙◌, arith, zero-add}
use Rattle.std.specs.Fmt.{decimal}
use Rattle.std.proofs.lemmas.List.{length-append, length-replicate}
use lib.Chars.{codes}
use Rattle.strand_base.specs.declared.limits.TheConstants.{MOST_DATA}
use Rattle.strand_image.specs.ImageSeen.{image_seen}
use Rattle.strand_image.specs.declared.symbol.Region.TheVariants as regions
use Rattle.strand_image.specs.declared.symbol.Symbol.{Symbol}
use Rattle.strand_asm_lines.specs.declared.line.Section.{Section}
use Rattle.strand_asm_lines.specs.declared.line.Section.TheVariants as sections
use Rattle.strand_asm_lines.specs.declared.line.Body.{Body}
use Rattle.strand_asm.specs.declared.layout.Layout.{Layout}
use Rattle.strand_asm.specs.declared.place.Site.{Site}
use Rattle.strand_asm.specs.declared.addition.Addition.{Addition}
use Rattle.strand_asm.specs.declared.addition.Addition.TheVariants as additions
use Rattle.strand_asm.specs.Layout.{layout_after, is_placed, laid}
use Rattle.strand_asm.specs.Encode.{Table}
use Rattle.strand_asm.specs.DraftSeen.{DraftSeen}
use Rattle.strand_asm.specs.Draft.{added, addition, drafted, entry_added, word_added}
use Rattle.strand_asm.specs.Listing.{code_lines, code_text, data_lines, entry_lines, entry_text, names_at, word_text}
use Rattle.strand_asm.proofs.ListAgain.OneLine.{drafted_line, laid_line}
use Rattle.strand_asm.proofs.ListAgain.ManyLines.{Goes, Takes, goes_code, goes_data, goes_map, zeros_of}
use Rattle.strand_asm.proofs.ListAgain.Forms.{below_fits}
use Rattle.strand_asm.proofs.ListAgain.Directives.{Printed, entry_line, space_line, word_line}
use Rattle.strand_asm.proofs.ListAgain.CodeWords.{IsCodeLine}
use Rattle.strand_asm.proofs.ListAgain.NamedSoFar.{named_before}
use Rattle.strand_asm.proofs.ListAgain.Names.{AreNamed, IsLaid, place_drafted, place_laid, st}

abbrev pub dr : Section → List ℕ → List ℕ → List ℕ → List ℕ → DraftSeen
dr s entries code volatile persistent = record { section = s; parts = image_seen entries code volatile persistent [] }

push_length : (xs : List ℕ) (w : ℕ) → length (xs ++ w ∷ []) ≡ length xs + 1
push_length xs w = length-append xs (w ∷ [])

zeros_length : (xs : List ℕ) (n : ℕ) → length (xs ++ zeros_of n) ≡ length xs + n
zeros_length xs n = length-append xs (zeros_of n) ∙ ap (λ (k : ℕ). length xs + k) (length-replicate n 0)

pub high_word : (w : ℕ) → w < 2 ^ 64 → w / 2 ^ (4 * (16 - 0)) ≡ 0
high_word w fits = omega (arith, fits)

-- the first pass
pub lay_takes : (s : Section) (cores code volatile persistent : ℕ) (s' : Section) (cores' code' volatile' persistent' : ℕ) (named : List Symbol) (text : List ℕ) (body : Body)
    → Printed text body → is_placed s body ≡ true → ((labels : Table) → layout_after (st s cores code volatile persistent labels) body ≡ st s' cores' code' volatile' persistent' labels)
    → Takes laid (IsLaid s cores code volatile persistent named) (IsLaid s' cores' code' volatile' persistent' named) text
lay_takes s cores code volatile persistent s' cores' code' volatile' persistent' named text body p placed grows n l h =
    let section : l.section ≡ s = ap (λ (m : Layout). m.section) h.is in
    let here : is_placed l.section body ≡ true = ap (λ (r : Section). is_placed r body) section ∙ placed in
    let after : layout_after l body ≡ st s' cores' code' volatile' persistent' l.labels = ap (λ (m : Layout). layout_after m body) h.is ∙ grows l.labels in (
      st s' cores' code' volatile' persistent' l.labels,
      (record { is = refl; symbols = h.symbols }, laid_line n l text body p.says here ∙ ap (λ (m : Layout). Ok m) after),
    )

pub entries_laid : (es : List ℕ) → ((k : ℕ) → k < length es → get_or es k 0 < 2 ^ 32) → Goes laid (IsLaid sections.Code 0 0 0 0 []) (IsLaid sections.Code (length es) 0 0 0 []) (entry_lines es)
unfolding entry_lines
entries_laid es all =
    goes_map laid entry_text (λ n. n < 2 ^ 32) (λ xs. IsLaid sections.Code (length xs) 0 0 0 [])
    (λ xs w fits. rw (push_length xs w) (lay_takes sections.Code (length xs) 0 0 0 sections.Code (length xs + 1) 0 0 0 [] (entry_text w) _ (entry_line w (omega (arith, fits))) refl (λ labels. refl))) [] es all

pub code_laid : (c : ℕ) (ss : List Symbol) (ws : List ℕ) → AreNamed ss → ((k : ℕ) → k < length ws → IsCodeLine (code_text (get_or ws k 0)) (get_or ws k 0))
    → Goes laid (IsLaid sections.Code c 0 0 0 (named_before ss regions.Code 0)) (IsLaid sections.Code c (length ws) 0 0 (named_before ss regions.Code (length ws + 1))) (code_lines (names_at ss regions.Code) ws)
unfolding code_lines
code_laid c ss ws are all =
    rw (zero-add (length ws)) at (goes_code laid (names_at ss regions.Code) (λ j xs. IsLaid sections.Code c (length xs) 0 0 (named_before ss regions.Code j))
    (λ at xs here. place_laid sections.Code c (length xs) 0 0 at ss are (λ some labels. here some))
    (λ j xs w h. rw (push_length xs w) (lay_takes sections.Code c (length xs) 0 0 sections.Code c (length xs + 1) 0 0 (named_before ss regions.Code j) (code_text w) h.body h.line h.placed (λ labels. h.grows (st sections.Code c (length xs) 0 0 labels) refl))) ws 0 [] refl all)

pub volatile_laid : (c k : ℕ) (ss : List Symbol) (ws : List ℕ) → AreNamed ss → length ws ≤ MOST_DATA → ((j : ℕ) → j < length ws → get_or ws j 0 < 2 ^ 64)
    → Goes laid (IsLaid sections.Volatile c k 0 0 (named_before ss regions.Volatile 0)) (IsLaid sections.Volatile c k (length ws) 0 (named_before ss regions.Volatile (length ws + 1))) (data_lines (names_at ss regions.Volatile) ws)
unfolding data_lines
volatile_laid c k ss ws are le all =
    rw (zero-add (length ws)) at (goes_data laid (names_at ss regions.Volatile) (λ j xs. IsLaid sections.Volatile c k (length xs) 0 (named_before ss regions.Volatile j))
    (λ at xs here. place_laid sections.Volatile c k (length xs) 0 at ss are (λ some labels. here some))
    (λ j xs n small. rw (zeros_length xs (suc n)) (lay_takes sections.Volatile c k (length xs) 0 sections.Volatile c k (length xs + suc n) 0 (named_before ss regions.Volatile j) (codes ".space " ++ decimal (suc n)) _ (space_line (suc n) small) refl (λ labels. refl)))
    (λ j xs w fits. rw (push_length xs w) (lay_takes sections.Volatile c k (length xs) 0 sections.Volatile c k (length xs + 1) 0 (named_before ss regions.Volatile j) (word_text 0 w) _ (word_line 0 w (omega arith) fits (high_word w fits)) refl (λ labels. refl))) ws all 0 0 [] refl (omega (arith, le)))

pub persist_laid : (c k v : ℕ) (ss : List Symbol) (ws : List ℕ) → AreNamed ss → length ws ≤ MOST_DATA → ((j : ℕ) → j < length ws → get_or ws j 0 < 2 ^ 64)
    → Goes laid (IsLaid sections.Persist c k v 0 (named_before ss regions.Persistent 0)) (IsLaid sections.Persist c k v (length ws) (named_before ss regions.Persistent (length ws + 1))) (data_lines (names_at ss regions.Persistent) ws)
unfolding data_lines
persist_laid c k v ss ws are le all =
    rw (zero-add (length ws)) at (goes_data laid (names_at ss regions.Persistent) (λ j xs. IsLaid sections.Persist c k v (length xs) (named_before ss regions.Persistent j))
    (λ at xs here. place_laid sections.Persist c k v (length xs) at ss are (λ some labels. here some))
    (λ j xs n small. rw (zeros_length xs (suc n)) (lay_takes sections.Persist c k v (length xs) sections.Persist c k v (length xs + suc n) (named_before ss regions.Persistent j) (codes ".space " ++ decimal (suc n)) _ (space_line (suc n) small) refl (λ labels. refl)))
    (λ j xs w fits. rw (push_length xs w) (lay_takes sections.Persist c k v (length xs) sections.Persist c k v (length xs + 1) (named_before ss regions.Persistent j) (word_text 0 w) _ (word_line 0 w (omega arith) fits (high_word w fits)) refl (λ labels. refl))) ws all 0 0 [] refl (omega (arith, le)))

-- the second pass
abbrev pub Is : DraftSeen → DraftSeen → Type 0
Is d e = e ≡ d

pub draft_takes : (whole : Layout) (d : DraftSeen) (text : List ℕ) (body : Body) (more : Addition) → Printed text body → ((site : Site) → addition whole site d.section body ≡ Ok more) → Takes (drafted whole) (Is d) (Is (added d more)) text
draft_takes whole d text body more p e n x same = (added d more, (refl, rw same (drafted_line whole n d text body more p.says (e _))))

pub entries_drafted : (whole : Layout) (es : List ℕ) → ((k : ℕ) → k < length es → (get_or es k 0 < 2 ^ 32) × (get_or es k 0 < whole.code)) → Goes (drafted whole) (Is (dr sections.Code [] [] [] [])) (Is (dr sections.Code es [] [] [])) (entry_lines es)
unfolding entry_lines addition entry_added added
entries_drafted whole es all =
    goes_map (drafted whole) entry_text (λ n. (n < 2 ^ 32) × (n < whole.code)) (λ xs. Is (dr sections.Code xs [] [] []))
    (λ xs w fits. draft_takes whole (dr sections.Code xs [] [] []) (entry_text w) _ (additions.Entry w) (entry_line w (omega (arith, fits.0))) (λ site. rw (below_fits w whole.code fits.1) refl)) [] es all

pub code_drafted : (whole : Layout) (ss : List Symbol) (es ws : List ℕ) → AreNamed ss → ((k : ℕ) → k < length ws → IsCodeLine (code_text (get_or ws k 0)) (get_or ws k 0)) → Goes (drafted whole) (Is (dr sections.Code es [] [] [])) (Is (dr sections.Code es ws [] [])) (code_lines (names_at ss regions.Code) ws)
unfolding code_lines added
code_drafted whole ss es ws are all =
    goes_code (drafted whole) (names_at ss regions.Code) (λ j xs. Is (dr sections.Code es xs [] []))
    (λ at xs here. place_drafted whole (dr sections.Code es xs [] []) ss regions.Code at are)
    (λ j xs w h. draft_takes whole (dr sections.Code es xs [] []) (code_text w) h.body (additions.Code w) h.line (h.adds whole)) ws 0 [] refl all

pub volatile_drafted : (whole : Layout) (ss : List Symbol) (es code ws : List ℕ) → AreNamed ss → length ws ≤ MOST_DATA → ((j : ℕ) → j < length ws → get_or ws j 0 < 2 ^ 64) → Goes (drafted whole) (Is (dr sections.Volatile es code [] [])) (Is (dr sections.Volatile es code ws [])) (data_lines (names_at ss regions.Volatile) ws)
unfolding data_lines addition word_added added
volatile_drafted whole ss es code ws are le all =
    goes_data (drafted whole) (names_at ss regions.Volatile) (λ j xs. Is (dr sections.Volatile es code xs []))
    (λ at xs here. place_drafted whole (dr sections.Volatile es code xs []) ss regions.Volatile at are)
    (λ j xs n small. draft_takes whole (dr sections.Volatile es code xs []) (codes ".space " ++ decimal (suc n)) _ (additions.Zeros (suc n)) (space_line (suc n) small) (λ site. refl))
    (λ j xs w fits. draft_takes whole (dr sections.Volatile es code xs []) (word_text 0 w) _ (additions.Data w) (word_line 0 w (omega arith) fits (high_word w fits)) (λ site. rw (below_fits w (2 * 9223372036854775808) (omega (arith, fits))) refl)) ws all 0 0 [] refl (omega (arith, le))

pub persist_drafted : (whole : Layout) (ss : List Symbol) (es code volatile ws : List ℕ) → AreNamed ss → length ws ≤ MOST_DATA → ((j : ℕ) → j < length ws → get_or ws j 0 < 2 ^ 64) → Goes (drafted whole) (Is (dr sections.Persist es code volatile [])) (Is (dr sections.Persist es code volatile ws)) (data_lines (names_at ss regions.Persistent) ws)
unfolding data_lines addition word_added added
persist_drafted whole ss es code volatile ws are le all =
    goes_data (drafted whole) (names_at ss regions.Persistent) (λ j xs. Is (dr sections.Persist es code volatile xs))
    (λ at xs here. place_drafted whole (dr sections.Persist es code volatile xs) ss regions.Persistent at are)
    (λ j xs n small. draft_takes whole (dr sections.Persist es code volatile xs) (codes ".space " ++ decimal (suc n)) _ (additions.Zeros (suc n)) (space_line (suc n) small) (λ site. refl))
    (λ j xs w fits. draft_takes whole (dr sections.Persist es code volatile xs) (word_text 0 w) _ (additions.Data w) (word_line 0 w (omega arith) fits (high_word w fits)) (λ site. rw (below_fits w (2 * 9223372036854775808) (omega (arith, fits))) refl)) ws all 0 0 [] refl (omega (arith, le))
