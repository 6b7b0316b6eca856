-- Serves clauses value and memory of Hierarchy::access, by recall and settle: the rows of other cores.
use Rattle.std.proofs.Common.{◌≡◌, ℕ, ◌<◌, ◌≤◌, false, inl, inr, List, [], ◌∷◌, length, None, refl, sym, ap, ◌∙◌, subst, arith}
use Rattle.std.specs.Prelude.{map, ◌≢◌, not, ◌==◌}
use Rattle.std.specs.List.{find}
use Rattle.std.proofs.lemmas.Bool.{cases_Bool, cases_lt, cases_eq, false≢true, false_from_ne_true, and_parts, not-true, eq-eqb}
use Rattle.std.proofs.lemmas.List.{get_or_past}
use Rattle.strand_cache.specs.Lists.{without_line}
use Rattle.strand_cache.specs.declared.held_line.HeldLine.{HeldLine}
use Rattle.strand_cache.specs.Copies.{cleaned, is_changed, row_lines, others, row_of}
use Rattle.strand_cache.specs.Coherence.{Among}
use Rattle.strand_cache.proofs.Memory.RowMembers.{find_absent, among_map, among_filter}
use Rattle.strand_cache.proofs.Memory.Coherence.{changed_parts}

pub past_row : (rows : List (List HeldLine)) (c : ℕ) → length rows ≤ c → row_of rows c ≡ []
past_row rows c le = get_or_past rows c [] le

-- what holds of the rows holds past them too
pub everywhere : (f : List HeldLine → List HeldLine) (rows rows' : List (List HeldLine)) (core : ℕ) → f [] ≡ [] → length rows' ≡ length rows →
    ((c : ℕ) → c < length rows → c ≢ core → row_of rows' c ≡ f (row_of rows c)) → (c : ℕ) → c ≢ core → row_of rows' c ≡ f (row_of rows c)
everywhere f rows rows' core nil same each c ne = elim (cases_lt c (length rows)) [
  | inl lt ↦ each c lt ne
  | inr ge ↦ past_row rows' c (omega arith) ∙ sym nil ∙ ap f (sym (past_row rows c ge))
]

pub free_elsewhere : (rows : List (List HeldLine)) (core line : ℕ) → ((c : ℕ) → c < length rows → c ≢ core → find (is_changed line) (row_of rows c) ≡ None) →
    (c : ℕ) (h : HeldLine) → c ≢ core → Among h (row_of rows c) → is_changed line h ≡ false
free_elsewhere rows core line none c h ne a = elim (cases_lt c (length rows)) [
  | inl lt ↦ find_absent (is_changed line) (row_of rows c) (none c lt ne) h a
  | inr ge ↦ absurd (subst (Among h) (past_row rows c ge) a)
]

pub cleaned_lines : (line : ℕ) (row : List HeldLine) → row_lines (map (cleaned line) row) ≡ row_lines row
cleaned_lines line [] = refl
cleaned_lines line (x ∷ row) = ap (λ l. x.line ∷ l) (cleaned_lines line row)

pub same_lines : (rows rows' : List (List HeldLine)) (core line : ℕ) → row_of rows' core ≡ row_of rows core → ((c : ℕ) → c ≢ core → row_of rows' c ≡ map (cleaned line) (row_of rows c)) →
    (c : ℕ) → row_lines (row_of rows' c) ≡ row_lines (row_of rows c)
same_lines rows rows' core line own clean c = elim (cases_eq c core) [
  | inl is ↦ ap row_lines (ap (row_of rows') is ∙ own ∙ ap (row_of rows) (sym is))
  | inr ne ↦ ap row_lines (clean c ne) ∙ cleaned_lines line (row_of rows c)
]

-- the other cores' copies of a line that are cleaned are not changed ones
pub cleaned_free : (rows rows' : List (List HeldLine)) (core line : ℕ) → ((c : ℕ) → c ≢ core → row_of rows' c ≡ map (cleaned line) (row_of rows c)) →
    (c : ℕ) (h : HeldLine) → c ≢ core → Among h (row_of rows' c) → is_changed line h ≡ false
cleaned_free rows rows' core line clean c h ne a =
    let found = among_map (cleaned line) (row_of rows c) h (subst (Among h) (clean c ne) a) in
    false_from_ne_true (is_changed line h) (λ e.
    let parts = changed_parts line h e in
    let both = and_parts found.0.changed (not (line == found.0.line)) (ap (λ k. k.changed) (sym found.2) ∙ parts.0) in
    false≢true (sym (not-true (line == found.0.line) both.1) ∙ eq-eqb line found.0.line (parts.1 ∙ ap (λ k. k.line) found.2)))

-- the other cores that lost a line have no copy of it
pub lost_absent : (rows rows' : List (List HeldLine)) (core line : ℕ) → ((c : ℕ) → c ≢ core → row_of rows' c ≡ others line (row_of rows c)) →
    (c : ℕ) (h : HeldLine) → c ≢ core → Among h (row_of rows' c) → h.line ≡ line → ⊥
lost_absent rows rows' core line lost c h ne a e =
    let found = among_filter (λ k. not (line == k.line)) (row_of rows c) h (subst (Among h) (lost c ne) a) in
    false≢true (sym (not-true (line == h.line) found.1) ∙ eq-eqb line h.line (sym e))

pub others_lines : (line : ℕ) (row : List HeldLine) → row_lines (others line row) ≡ without_line line (row_lines row)
others_lines line [] = refl
others_lines line (x ∷ row) = elim (cases_Bool (line == x.line)) [
  | inl y ↦ rw y (others_lines line row)
  | inr n ↦ rw n (ap (λ l. x.line ∷ l) (others_lines line row))
]
