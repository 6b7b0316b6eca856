-- Serves assemble, where it calls Draft::finish: what that requires.
-- A text within the limits gives an image: its sizes are those that were counted, and its entries are code words.
use Rattle.std.proofs.Common.{◌≡◌, ℕ, zero, suc, ◌<◌, ◌≤◌, ◌^◌, arith, Bool, true, false, ltb, List, [], ◌∷◌, length, get_or, None, Ok, refl, sym, ap, ◌∙◌, subst, position}
use Rattle.std.specs.Prelude.{nat_le, ◌==◌}
use Rattle.std.proofs.lemmas.List.Sums.{position_or_len_is}
use Rattle.std.proofs.lemmas.Bool.Decides.{nat_tests}
use Rattle.strand_base.specs.declared.limits.TheConstants.{MOST_CODE, MOST_DATA}
use Rattle.strand_base.specs.Text.{lines_of}
use Rattle.strand_image.specs.Symbols.{AreSymbols, sizes_of}
use Rattle.strand_image.proofs.Rules.{none_broken}
use Rattle.strand_image.specs.Limits.{AreEntries, is_within}
use Rattle.strand_image.specs.ImageSeen.{ImageSeen}
use Rattle.strand_image.specs.Image as image
use Rattle.strand_image.specs.declared.quantity.Quantity.{Quantity}
use Rattle.strand_image.specs.declared.quantity.Quantity.TheVariants.{Cores, Code, Volatile, Persistent, Symbols}
use Rattle.strand_asm.specs.declared.layout.Layout.{Layout}
use Rattle.strand_asm.specs.Layout.{layout_of, empty_layout}
use Rattle.strand_asm.specs.DraftSeen.{DraftSeen}
use Rattle.strand_asm.specs.Draft.{blank, draft_of}
use Rattle.strand_asm.specs.Assemble.{AreLabels, limit_check, cores_of_entries, label_symbols, limited, entered, with_symbols}
use Rattle.strand_asm.proofs.LabelSymbols.{are_labels, label_symbols_stand, symbols_long}
use Rattle.strand_asm.proofs.ListAgain.Lines.{and_both}
use Rattle.strand_asm.proofs.PassCounts.{Agrees, both, lines_agree}

starts : (total : ℕ) → Agrees total empty_layout blank
unfolding empty_layout blank
starts total = record { sections = refl; entries_count = refl; code_count = refl; volatile_count = refl; persistent_count = refl; entries_within = λ k here. absurd (omega (arith, here)) }

agrees : (text : List ℕ) (layout : Layout) (draft : DraftSeen) → layout_of text ≡ Ok layout → draft_of layout text ≡ Ok draft → Agrees layout.code layout draft
unfolding layout_of draft_of
agrees text layout draft e f = lines_agree layout 1 empty_layout layout blank draft (lines_of text) e f (starts layout.code)

passes : (what : Quantity) (n : ℕ) (b : Bool) (x : Unit {0}) → is_within what n ≡ b → limit_check what n ≡ Ok x → is_within what n ≡ true
passes what n true x t e = t
passes what n false x t e = absurd (let f = rw t at e in cc)

record IsLimited (l : Layout) : Type 0 where
  cores_pass : is_within Cores (cores_of_entries l.cores) ≡ true
  code_pass : is_within Code l.code ≡ true
  volatile_pass : is_within Volatile l.volatile ≡ true
  persistent_pass : is_within Persistent l.persistent ≡ true
  symbols_pass : is_within Symbols (length l.labels) ≡ true

limits : (l : Layout) → limited l ≡ Ok tt → IsLimited l
unfolding limited
limits l e =
    let a = both (limit_check Cores (cores_of_entries l.cores)) _ tt e in
    let b = both (limit_check Code l.code) _ tt a.1.1 in
    let c = both (limit_check Volatile l.volatile) _ tt b.1.1 in
    let d = both (limit_check Persistent l.persistent) _ tt c.1.1 in
    record {
      cores_pass = passes Cores (cores_of_entries l.cores) _ a.0 refl a.1.0;
      code_pass = passes Code l.code _ b.0 refl b.1.0;
      volatile_pass = passes Volatile l.volatile _ c.0 refl c.1.0;
      persistent_pass = passes Persistent l.persistent _ d.0 refl d.1.0;
      symbols_pass = passes Symbols (length l.labels) _ tt refl d.1.1;
    }

entry_count : (es : List ℕ) (n : ℕ) → length es ≡ n → length (entered es) ≡ cores_of_entries n
entry_count [] zero e = refl
entry_count [] (suc n) e = absurd (omega (arith, e))
entry_count (x ∷ es) zero e = absurd (omega (arith, e))
entry_count (x ∷ es) (suc n) e = let no : (suc n == 0) ≡ false = grind (arith, nat_tests) in rw no e

entries_in : (es : List ℕ) (total : ℕ) → AreEntries es total → 1 ≤ total → AreEntries (entered es) total
entries_in [] total all one zero here = one
entries_in [] total all one (suc k) here = absurd (omega (arith, here))
entries_in (e ∷ es) total all one k here = all k here

none_stray : (es : List ℕ) (words : ℕ) → AreEntries es words → position (λ e. nat_le words e) es ≡ None
none_stray es words all =
    let fails : (k : ℕ) → k < length es → nat_le words (get_or es k 0) ≡ false = λ k here. let small = all k here in grind (arith, nat_tests) in
    let len = position_or_len_is (λ e. nat_le words e) es (length es) 0 (omega arith) fails (λ past. absurd (omega arith)) in
    let no : ltb (length es) (length es) ≡ false = grind (arith, nat_tests) in
    rw (len, no) refl

limits_pass : (a b c d e : ℕ) → is_within Cores a ≡ true → is_within Code b ≡ true → is_within Volatile c ≡ true → is_within Persistent d ≡ true → is_within Symbols e ≡ true → image.within_image_limits a b c d e ≡ Ok tt
unfolding image.within_limits
limits_pass a b c d e p q r s t = rw (p, q, r, s, t) refl

makes : (p : ImageSeen) → AreSymbols (sizes_of p) p.symbols → image.within_image_limits (length p.entries) (length p.code) (length p.volatile) (length p.persistent) (length p.symbols) ≡ Ok tt → AreEntries p.entries (length p.code) → image.checked_image p ≡ Ok p
unfolding image.checked_image image.kept_image image.entries_exist image.symbols_stand
makes p symbols e all =
    let kept = none_broken (sizes_of p) p.symbols symbols in
    let none : ltb (length p.symbols) (length p.symbols) ≡ false = grind (arith, nat_tests) in
    rw (e, none_stray p.entries (length p.code) all, kept, none) refl

one_word : (n : ℕ) → is_within Code n ≡ true → 1 ≤ n
one_word n e = grind (arith, nat_tests)

pub fits : (text : List ℕ) (layout : Layout) (draft : DraftSeen) → layout_of text ≡ Ok layout → limited layout ≡ Ok tt → draft_of layout text ≡ Ok draft
    → let p = with_symbols (label_symbols layout.labels) draft.parts in image.checked_image p ≡ Ok p
fits text layout draft e g f =
    let h = agrees text layout draft e f in
    let l = limits layout g in
    let code_entries = entries_in draft.parts.entries layout.code h.entries_within (one_word layout.code l.code_pass) in
    let p = with_symbols (label_symbols layout.labels) draft.parts in
    makes p (label_symbols_stand text layout p e (record { code_words = h.code_count; volatile_words = h.volatile_count; persistent_words = h.persistent_count }))
    (limits_pass _ _ _ _ _
    (ap (is_within Cores) (entry_count draft.parts.entries layout.cores h.entries_count) ∙ l.cores_pass)
    (ap (is_within Code) h.code_count ∙ l.code_pass)
    (ap (is_within Volatile) h.volatile_count ∙ l.volatile_pass)
    (ap (is_within Persistent) h.persistent_count ∙ l.persistent_pass)
    (ap (is_within Symbols) (symbols_long layout.labels) ∙ l.symbols_pass))
    (subst (λ (n : ℕ). AreEntries (entered draft.parts.entries) n) (sym h.code_count) code_entries)

-- within the limits, each label is a symbol
few_code : (n : ℕ) → is_within Code n ≡ true → n < 2 ^ 32
few_code n e = let le : n ≤ MOST_CODE = grind (arith, nat_tests) in omega (arith, le)

few_data : (n : ℕ) → nat_le n MOST_DATA ≡ true → n < 2 ^ 32
few_data n e = let le : n ≤ MOST_DATA = grind (arith, nat_tests) in omega (arith, le)

pub labels_fit : (text : List ℕ) (layout : Layout) → layout_of text ≡ Ok layout → limited layout ≡ Ok tt → AreLabels layout.labels
labels_fit text layout e g =
    let l = limits layout g in
    are_labels text layout e (few_code layout.code l.code_pass) (few_data layout.volatile (and_both _ (nat_le layout.volatile MOST_DATA) l.volatile_pass).1) (few_data layout.persistent (and_both _ (nat_le layout.persistent MOST_DATA) l.persistent_pass).1)
