-- Serves assemble, where it calls Draft::finish: the second pass makes as many words as the first one counted.
use Rattle.std.proofs.Common.{◌≡◌, ℕ, zero, suc, ◌+◌, ◌<◌, arith, Bool, true, false, cond, List, [], ◌∷◌, ◌++◌, length, replicate, Option, Some, None, Result, Ok, Err, refl, sym, ap, ◌∙◌, subst}
use Rattle.std.specs.Prelude.{ℤ, pos, negsuc, nat_lt}
use Rattle.std.proofs.lemmas.List.{length-append, length-replicate}
use Rattle.std.proofs.lemmas.Bool.Decides.{nat_tests}
use Rattle.strand_isa.specs.Faults.{is_in_range}
use Rattle.strand_isa.specs.declared.instr.Instr.{Instr}
use Rattle.strand_image.specs.Limits.{AreEntries}
use Rattle.strand_asm_lines.specs.declared.line.Section.{Section}
use Rattle.strand_asm_lines.specs.declared.line.Section.TheVariants as sections
use Rattle.strand_asm_lines.specs.declared.line.Operand.{Operand}
use Rattle.strand_asm_lines.specs.declared.line.Pattern.{Pattern}
use Rattle.strand_asm_lines.specs.declared.mnemonic.Mnemonic.{Mnemonic}
use Rattle.strand_asm_lines.specs.declared.mnemonic.Mnemonic.TheVariants as mnemonics
use Rattle.strand_asm_lines.specs.declared.line.Body.{Body}
use Rattle.strand_asm_lines.specs.declared.line.Body.TheVariants as bodies
use Rattle.strand_asm_lines.specs.declared.line.Line.{Line}
use Rattle.strand_asm_lines.specs.Line.{line_of}
use Rattle.strand_asm.specs.declared.fault.AsmFault.{AsmFault}
use Rattle.strand_asm.specs.declared.coded.Coded.{Coded}
use Rattle.strand_asm.specs.declared.coded.Coded.TheVariants.{One, Two}
use Rattle.strand_asm.specs.declared.addition.Addition.{Addition}
use Rattle.strand_asm.specs.declared.layout.Layout.{Layout}
use Rattle.strand_asm.specs.declared.place.Place.{Place}
use Rattle.strand_asm.specs.declared.place.Site.{Site}
use Rattle.strand_asm.specs.Operands.{number, natural_below, wrapped}
use Rattle.strand_asm.specs.Layout.{◌>>=◌, at_line, on_line, over_lines, label_place, size_by, size_of, layout_after, is_code, is_placed, unless_duplicate, with_more_words, with_label, laid}
use Rattle.strand_asm.specs.Encode.{Table, fitted, one_coded, jump, li_coded, offset_to, label_address, coded}
use Rattle.strand_asm.specs.DraftSeen.{DraftSeen}
use Rattle.strand_asm.specs.Draft.{entry_number, entry_added, word_added, coded_words, with_data, addition, added, drafted}

-- what two passes have in common behind a line
pub record Agrees (total : ℕ) (l : Layout) (d : DraftSeen) : Type 0 where
  pub sections : l.section ≡ d.section
  pub entries_count : length d.parts.entries ≡ l.cores
  pub code_count : length d.parts.code ≡ l.code
  pub volatile_count : length d.parts.volatile ≡ l.volatile
  pub persistent_count : length d.parts.persistent ≡ l.persistent
  pub entries_within : AreEntries d.parts.entries total

-- a step that gave something, in its two parts
pub both : {A B : Type 0} (r : Result A AsmFault) (f : A → Result B AsmFault) (y : B) → (r >>= f) ≡ Ok y → (x : A) × ((r ≡ Ok x) × (f x ≡ Ok y))
both (Ok x) f y e = (x, (refl, e))
both (Err z) f y e = absurd cc

pub ok_inside : {A : Type 0} (x y : A) → (let r : Result A AsmFault = Ok x in r ≡ Ok y) → x ≡ y
ok_inside x y e = cc

entries_push : (es : List ℕ) (n total : ℕ) → AreEntries es total → n < total → AreEntries (es ++ n ∷ []) total
entries_push [] n total all lt zero here = lt
entries_push [] n total all lt (suc k) here = absurd (omega (arith, here))
entries_push (e ∷ es) n total all lt zero here = all zero (omega arith)
entries_push (e ∷ es) n total all lt (suc k) here = entries_push es n total (λ j below. all (suc j) (omega arith)) lt k (omega (arith, here))

-- how many code words there are
abbrev count : Coded → ℕ
count (One i) = 1
count (Two i j) = 2

fitted_counts : (line : ℕ) (z : ℤ) (i : Option Instr) (c : Coded) → one_coded line z i ≡ Ok c → count c ≡ 1
fitted_counts line z (Some i) (One j) e = refl
fitted_counts line z (Some i) (Two j k) e = absurd cc
fitted_counts line z None c e = absurd cc

jump_counts : (labels : Table) (site : Site) (rd : ℕ) (target : Operand) (c : Coded) → jump labels site rd target ≡ Ok c → count c ≡ 1
jump_counts labels site rd target c e = let b = both (offset_to labels site target) _ c e in fitted_counts site.line b.0 _ c b.1.1

li_counts : (small large : Bool) (a b : Coded) (f : AsmFault) (c : Coded) → count a ≡ 1 → count b ≡ 2
    → cond small (Ok a) (cond large (Ok b) (Err f)) ≡ Ok c → count c ≡ cond small 1 2
li_counts true large a b f c one two e = sym (ap count (ok_inside a c e)) ∙ one
li_counts false true a b f c one two e = sym (ap count (ok_inside b c e)) ∙ two
li_counts false false a b f c one two e = absurd cc

coded_counts : (labels : Table) (site : Site) (op : Mnemonic) (p : Pattern) (c : Coded) → coded labels site op p.first p.second p.third ≡ Ok c → count c ≡ size_by op p
unfolding coded li_coded
coded_counts labels site (mnemonics.Upper op) p c e = fitted_counts site.line _ _ c e
coded_counts labels site mnemonics.Jal p c e = jump_counts labels site _ _ c e
coded_counts labels site mnemonics.Jalr p c e = fitted_counts site.line _ _ c e
coded_counts labels site (mnemonics.Branch op) p c e = let b = both (offset_to labels site p.third) _ c e in fitted_counts site.line b.0 _ c b.1.1
coded_counts labels site (mnemonics.Load op) p c e = fitted_counts site.line _ _ c e
coded_counts labels site (mnemonics.Store op) p c e = fitted_counts site.line _ _ c e
coded_counts labels site (mnemonics.Imm op) p c e = fitted_counts site.line _ _ c e
coded_counts labels site (mnemonics.Shift op) p c e = fitted_counts site.line _ _ c e
coded_counts labels site mnemonics.Li p c e = li_counts (is_in_range 2048 (number p.second)) (is_in_range 2147483648 (number p.second)) _ _ _ c refl refl e
coded_counts labels site mnemonics.La p c e = let b = both (label_address labels site.line p.second) _ c e in sym (ap count (ok_inside _ c b.1.1))
coded_counts labels site mnemonics.J p c e = jump_counts labels site _ _ c e
coded_counts labels site _ p c e = sym (ap count (ok_inside _ c e))

below_test : (line : ℕ) (z : ℤ) (m bound n : ℕ) (b : Bool) → nat_lt m bound ≡ b → fitted line z (cond b (Some m) None) ≡ Ok n → n < bound
below_test line z m bound n true t e = let same = ok_inside m n e in grind (arith, nat_tests)
below_test line z m bound n false t e = absurd cc

below_bound : (line bound : ℕ) (z : ℤ) (n : ℕ) → fitted line z (natural_below bound z) ≡ Ok n → n < bound
below_bound line bound (pos m) n e = below_test line (pos m) m bound n (nat_lt m bound) refl e
below_bound line bound (negsuc m) n e = absurd cc

code_agrees : (total : ℕ) (l : Layout) (d : DraftSeen) (ws : List ℕ) (n : ℕ) → length ws ≡ n → Agrees total l d
    → Agrees total (with_more_words sections.Code n l) (record d { parts = record d.parts { code = d.parts.code ++ ws } })
code_agrees total l d ws n e h = record {
  sections = h.sections;
  entries_count = h.entries_count;
  code_count = length-append d.parts.code ws ∙ ap (λ k. length d.parts.code + k) e ∙ ap (λ k. k + n) h.code_count;
  volatile_count = h.volatile_count;
  persistent_count = h.persistent_count;
  entries_within = h.entries_within;
}

data_agrees : (total : ℕ) (l : Layout) (d : DraftSeen) (s : Section) (ws : List ℕ) (n : ℕ) → length ws ≡ n → is_code s ≡ false → Agrees total l d
    → Agrees total (with_more_words s n l) (record d { parts = with_data s ws d.parts })
data_agrees total l d sections.Code ws n e apart h = absurd cc
data_agrees total l d sections.Volatile ws n e apart h = record {
  sections = h.sections;
  entries_count = h.entries_count;
  code_count = h.code_count;
  volatile_count = length-append d.parts.volatile ws ∙ ap (λ k. length d.parts.volatile + k) e ∙ ap (λ k. k + n) h.volatile_count;
  persistent_count = h.persistent_count;
  entries_within = h.entries_within;
}
data_agrees total l d sections.Persist ws n e apart h = record {
  sections = h.sections;
  entries_count = h.entries_count;
  code_count = h.code_count;
  volatile_count = h.volatile_count;
  persistent_count = length-append d.parts.persistent ws ∙ ap (λ k. length d.parts.persistent + k) e ∙ ap (λ k. k + n) h.persistent_count;
  entries_within = h.entries_within;
}

-- the same where the draft's own section is meant
section_agrees : (total : ℕ) (l : Layout) (d : DraftSeen) (s : Section) (ws : List ℕ) (n : ℕ) → d.section ≡ s → length ws ≡ n → is_code s ≡ false → Agrees total l d
    → Agrees total (with_more_words s n l) (record d { parts = with_data d.section ws d.parts })
section_agrees total l d s ws n same e apart h =
    subst (λ (t : Section). Agrees total (with_more_words s n l) (record d { parts = with_data t ws d.parts })) (sym same) (data_agrees total l d s ws n e apart h)

word_agrees : (total line : ℕ) (l : Layout) (d : DraftSeen) (z : ℤ) (more : Addition) (s : Section) → d.section ≡ s → word_added line s z ≡ Ok more → Agrees total l d → Agrees total (with_more_words s 1 l) (added d more)
unfolding word_added added
word_agrees total line l d z more sections.Code same e h =
    let b = both (fitted line z (wrapped 2147483648 z)) _ more e in
    subst (λ (m : Addition). Agrees total (with_more_words sections.Code 1 l) (added d m)) (ok_inside _ more b.1.1) (code_agrees total l d (b.0 ∷ []) 1 refl h)
word_agrees total line l d z more sections.Volatile same e h =
    let b = both (fitted line z (wrapped 9223372036854775808 z)) _ more e in
    subst (λ (m : Addition). Agrees total (with_more_words sections.Volatile 1 l) (added d m)) (ok_inside _ more b.1.1) (section_agrees total l d sections.Volatile (b.0 ∷ []) 1 same refl refl h)
word_agrees total line l d z more sections.Persist same e h =
    let b = both (fitted line z (wrapped 9223372036854775808 z)) _ more e in
    subst (λ (m : Addition). Agrees total (with_more_words sections.Persist 1 l) (added d m)) (ok_inside _ more b.1.1) (section_agrees total l d sections.Persist (b.0 ∷ []) 1 same refl refl h)

entry_agrees : (whole : Layout) (line : ℕ) (l : Layout) (d : DraftSeen) (target : Operand) (more : Addition) → entry_added whole line target ≡ Ok more → Agrees whole.code l d → Agrees whole.code (layout_after l (bodies.Entry target)) (added d more)
unfolding entry_added added
entry_agrees whole line l d target more e h =
    let b = both (entry_number whole line target) _ more e in
    let k = both (fitted line b.0 (natural_below whole.code b.0)) _ more b.1.1 in
    subst (λ (m : Addition). Agrees whole.code (layout_after l (bodies.Entry target)) (added d m)) (ok_inside _ more k.1.1) (record {
      sections = h.sections;
      entries_count = length-append d.parts.entries (k.0 ∷ []) ∙ ap (λ n. n + 1) h.entries_count;
      code_count = h.code_count;
      volatile_count = h.volatile_count;
      persistent_count = h.persistent_count;
      entries_within = entries_push d.parts.entries k.0 whole.code h.entries_within (below_bound line whole.code b.0 k.0 k.1.0);
    })

coded_agrees : (total : ℕ) (l : Layout) (d : DraftSeen) (c : Coded) (n : ℕ) → count c ≡ n → Agrees total l d → Agrees total (with_more_words sections.Code n l) (added d (coded_words c))
unfolding added
coded_agrees total l d (One i) n e h = code_agrees total l d _ n e h
coded_agrees total l d (Two i j) n e h = code_agrees total l d _ n e h

no_space_in_code : (s : Section) (n : ℕ) → is_placed s (bodies.Space n) ≡ true → is_code s ≡ false
no_space_in_code sections.Code n e = absurd cc
no_space_in_code sections.Volatile n e = refl
no_space_in_code sections.Persist n e = refl

body_agrees : (whole : Layout) (site : Site) (l : Layout) (d : DraftSeen) (body : Body) (more : Addition) → is_placed l.section body ≡ true → addition whole site d.section body ≡ Ok more → Agrees whole.code l d → Agrees whole.code (layout_after l body) (added d more)
unfolding addition added
body_agrees whole site l d bodies.Empty more placed e h = subst (λ (m : Addition). Agrees whole.code l (added d m)) (ok_inside _ more e) h
body_agrees whole site l d (bodies.Section s) more placed e h =
    subst (λ (m : Addition). Agrees whole.code (record l { section = s }) (added d m)) (ok_inside _ more e) (record {
      sections = refl;
      entries_count = h.entries_count;
      code_count = h.code_count;
      volatile_count = h.volatile_count;
      persistent_count = h.persistent_count;
      entries_within = h.entries_within;
    })
body_agrees whole site l d (bodies.Entry target) more placed e h = entry_agrees whole site.line l d target more e h
body_agrees whole site l d (bodies.Word z) more placed e h =
    subst (λ (s : Section). Agrees whole.code (with_more_words s 1 l) (added d more)) (sym h.sections) (word_agrees whole.code site.line l d z more d.section refl e h)
body_agrees whole site l d (bodies.Space n) more placed e h =
    subst (λ (m : Addition). Agrees whole.code (with_more_words l.section n l) (added d m)) (ok_inside _ more e)
    (section_agrees whole.code l d l.section (replicate n 0) n (sym h.sections) (length-replicate n 0) (no_space_in_code l.section n placed) h)
body_agrees whole site l d (bodies.Code p) more placed e h =
    let b = both (coded whole.labels site p.op p.first p.second p.third) _ more e in
    subst (λ (m : Addition). Agrees whole.code (with_more_words sections.Code (size_of p) l) (added d m)) (ok_inside _ more b.1.1)
    (coded_agrees whole.code l d b.0 (size_of p) (coded_counts whole.labels site p.op p b.0 b.1.0) h)

pub not_duplicate : (n : ℕ) (o : Option Place) (m named : Layout) → unless_duplicate n o m ≡ Ok named → m ≡ named
not_duplicate n None m named e = ok_inside m named e
not_duplicate n (Some place) m named e = absurd cc

label_agrees : (total n : ℕ) (o : Option (List ℕ)) (l named : Layout) (d : DraftSeen) → with_label n o l ≡ Ok named → Agrees total l d → Agrees total named d × (named.section ≡ l.section)
label_agrees total n None l named d e h = let same = ok_inside l named e in (subst (λ (m : Layout). Agrees total m d) same h, sym (ap (λ (m : Layout). m.section) same))
label_agrees total n (Some name) l named d e h =
    let same = not_duplicate n (label_place l.labels name) _ named e in (
      subst (λ (m : Layout). Agrees total m d) same (record {
        sections = h.sections;
        entries_count = h.entries_count;
        code_count = h.code_count;
        volatile_count = h.volatile_count;
        persistent_count = h.persistent_count;
        entries_within = h.entries_within;
      }),
      sym (ap (λ (m : Layout). m.section) same),
    )

pub if_true : {A : Type 0} (b : Bool) (r : Result A AsmFault) (f : AsmFault) (y : A) → cond b r (Err f) ≡ Ok y → (b ≡ true) × (r ≡ Ok y)
if_true true r f y e = (refl, e)
if_true false r f y e = absurd cc

line_agrees : (whole : Layout) (n : ℕ) (l l' : Layout) (d d' : DraftSeen) (line : Line) → laid n l line ≡ Ok l' → drafted whole n d line ≡ Ok d' → Agrees whole.code l d → Agrees whole.code l' d'
unfolding laid drafted
line_agrees whole n l l' d d' line e f h =
    let t = if_true (is_placed l.section line.body) _ _ l' e in
    let named = both (with_label n line.label l) _ l' t.1 in
    let more = both (addition whole _ d.section line.body) _ d' f in
    let k = label_agrees whole.code n line.label l named.0 d named.1.0 h in
    let placed : is_placed named.0.section line.body ≡ true = ap (λ (s : Section). is_placed s line.body) k.1 ∙ t.0 in
    let g = body_agrees whole _ named.0 d line.body more.0 placed more.1.0 k.0 in
    subst (λ (m : Layout). Agrees whole.code m d') (ok_inside _ l' named.1.1) (subst (λ (m : DraftSeen). Agrees whole.code (layout_after named.0 line.body) m) (ok_inside _ d' more.1.1) g)

pub lines_agree : (whole : Layout) (n : ℕ) (l l' : Layout) (d d' : DraftSeen) (texts : List (List ℕ)) → over_lines laid n l texts ≡ Ok l' → over_lines (drafted whole) n d texts ≡ Ok d' → Agrees whole.code l d → Agrees whole.code l' d'
unfolding over_lines
lines_agree whole n l l' d d' [] e f h = subst (λ (m : Layout). Agrees whole.code m d') (ok_inside l l' e) (subst (λ (m : DraftSeen). Agrees whole.code l m) (ok_inside d d' f) h)
lines_agree whole n l l' d d' (text ∷ texts) e f h =
    let one = both (on_line laid n l text) _ l' e in
    let two = both (on_line (drafted whole) n d text) _ d' f in
    let line = both (at_line n (line_of text)) _ one.0 one.1.0 in
    let again = both (at_line n (line_of text)) _ two.0 two.1.0 in
    let same : again.0 ≡ line.0 = ok_inside again.0 line.0 (sym again.1.0 ∙ line.1.0) in
    let step = line_agrees whole n l one.0 d two.0 line.0 line.1.1 (subst (λ (m : Line). drafted whole n d m ≡ Ok two.0) same again.1.1) h in
    lines_agree whole (n + 1) one.0 l' two.0 d' texts one.1.1 two.1.1 step
