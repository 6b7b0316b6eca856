-- Serves clauses value and memory of Hierarchy::access, by access of its rows.
-- One access of a core: what it goes on with, and what it leaves.
use Rattle.std.proofs.Common.{◌≡◌, ℕ, ◌-◌, ◌<◌, ◌⊎◌, true, false, inl, inr, List, [], ◌∷◌, length, take, Some, None, refl, sym, ap, ◌∙◌, subst, arith}
use Rattle.std.specs.Prelude.{not, ◌==◌, ◌%◌, ◌^◌, ◌≢◌, Option, slice_get, slice_index, slice_index_or, slice_set}
use Rattle.std.specs.List.{find, list_any}
use Rattle.std.specs.Option.{is_some}
use Rattle.std.proofs.lemmas.List.{take-map, get_or_default, get_or-set_same, get_or-set_other}
use Rattle.strand_cache.specs.Lists.{lines_after, without_line}
use Rattle.std.proofs.lemmas.Bool.{cases_Bool, cases_eq, false≢true, true≢false, and_right, eqb-true, eq-eqb, ne_eqb, false_from_ne_true}
use Rattle.strand_exec.specs.Core.{Extents}
use Rattle.strand_exec.specs.Memory.{Memory, extents_of, word_in}
use Rattle.strand_exec.specs.Plan.{IsWord}
use Rattle.strand_cache.specs.declared.held_line.HeldLine.{HeldLine}
use Rattle.strand_cache.specs.declared.change.Change.{Change}
use Rattle.strand_cache.specs.declared.change.Change.TheVariants.{Read, Merge}
use Rattle.strand_cache.specs.Copies.{is_of, is_changed, row_lines, others, row_of}
use Rattle.strand_cache.specs.Backing.{line_word, word_or_zero, IsApart}
use Rattle.strand_cache.specs.Accesses.{cache_line_of, line_place}
use Rattle.strand_cache.specs.Coherence.{Accessed, Among, Coheres, Fetched, CopyAfter, put_back, with_value}
use Rattle.strand_cache.specs.Changes.{stores, word_after, access_of}
use Rattle.strand_cache.specs.Hits.{shape_of}
use Rattle.strand_cache.proofs.Memory.OtherCores.{others_lines}
use Rattle.strand_cache.proofs.Memory.Words.{or_zero_is}
use Rattle.strand_cache.proofs.Memory.RowMembers.{find_among, find_absent, once_same, among_filter, get_among}
use Rattle.strand_cache.proofs.Memory.Coherence.{changed_parts, accessed, put_back_other}

-- the copy that the core goes on with
module _ (x : Extents) (sets ways set : ℕ) (rows : List (List HeldLine)) (backing : Memory) (flat : ℕ → ℕ) (core line : ℕ) (held : HeldLine)
    (whole : Coheres x sets ways set rows backing flat) (same : extents_of backing ≡ x) (of_set : line % sets ≡ set)
    (free : (c : ℕ) (h : HeldLine) → c ≢ core → Among h (row_of rows c) → is_changed line h ≡ false)
    (got : Fetched line (find (is_of line) (row_of rows core)) backing held) where
  -- where the core has no copy of its own, no core has changed the line
  fresh_free : find (is_of line) (row_of rows core) ≡ None → (c : ℕ) (h : HeldLine) → Among h (row_of rows c) → is_changed line h ≡ false
  fresh_free none c h a = elim (cases_eq c core) [
    | inl is ↦ and_right h.changed (line == h.line) (find_absent (is_of line) (row_of rows core) none h (subst (Among h) (ap (row_of rows) is) a))
    | inr ne ↦ free c h ne a
  ]

  fresh_word : find (is_of line) (row_of rows core) ≡ None → (word : ℕ) → IsWord x word → cache_line_of word ≡ line → word_in backing word ≡ flat word
  fresh_word none word is at = whole.free word is (ap (λ l. l % sets) at ∙ of_set) (λ c h a. ap (λ l. is_changed l h) at ∙ fresh_free none c h a)

  -- where it has one, that is a copy of the line in its row
  own_copy : (own : HeldLine) → find (is_of line) (row_of rows core) ≡ Some own → Among own (row_of rows core) × (line ≡ own.line)
  own_copy own e = let f = find_among (is_of line) (row_of rows core) own e in (f.0, eqb-true line own.line f.1)

  pub held_line : held.line ≡ line
  held_line = go (find (is_of line) (row_of rows core)) refl
    where
      go : (o : Option HeldLine) → find (is_of line) (row_of rows core) ≡ o → held.line ≡ line
      go None e = let f = got.fresh e in f.0
      go (Some own) e = let o = own_copy own e in ap (λ h. h.line) (got.kept own e) ∙ sym o.1

  pub held_agrees : (word : ℕ) → IsWord x word → cache_line_of word ≡ line → slice_index held.words (line_place word) ≡ flat word
  held_agrees word is at = go (find (is_of line) (row_of rows core)) refl
    where
      go : (o : Option HeldLine) → find (is_of line) (row_of rows core) ≡ o → slice_index held.words (line_place word) ≡ flat word
      go None e =
          let f = got.fresh e in
          let place : line_place word < 8 = omega arith in
          let whole_word : word % 8 ≡ 0 = is.0 in
          let here : line_word line (line_place word) ≡ word = omega arith in
          f.2 (line_place word) place ∙ ap (word_or_zero backing) here ∙ or_zero_is backing word (subst (λ e. IsWord e word) (sym same) is) ∙ fresh_word e word is at
      go (Some own) e = let o = own_copy own e in ap (λ h. slice_index h.words (line_place word)) (got.kept own e) ∙ whole.agree core own o.0 word is (at ∙ o.1)

  pub held_clean : held.changed ≡ false → (word : ℕ) → IsWord x word → cache_line_of word ≡ line → word_in backing word ≡ flat word
  held_clean calm word is at = go (find (is_of line) (row_of rows core)) refl
    where
      go : (o : Option HeldLine) → find (is_of line) (row_of rows core) ≡ o → word_in backing word ≡ flat word
      go None e = fresh_word e word is at
      go (Some own) e =
          let o = own_copy own e in
          whole.free word is (ap (λ l. l % sets) at ∙ of_set) (λ c h a. ap (λ l. is_changed l h) at ∙ elim (cases_eq c core) [
            | inr ne ↦ free c h ne a
            | inl is_own ↦ false_from_ne_true (is_changed line h) (λ y.
                let parts = changed_parts line h y in
                let one = once_same (row_of rows core) h own (whole.once core) (subst (Among h) (ap (row_of rows) is_own) a) o.0 (sym parts.1 ∙ o.1) in
                false≢true (sym calm ∙ ap (λ k. k.changed) (got.kept own e ∙ sym one) ∙ parts.0))
          ])

  pub held_alone : held.changed ≡ true → (c : ℕ) (h : HeldLine) → c ≢ core → Among h (row_of rows c) → h.line ≡ line → ⊥
  held_alone changed c h ne a at = go (find (is_of line) (row_of rows core)) refl
    where
      go : (o : Option HeldLine) → find (is_of line) (row_of rows core) ≡ o → ⊥
      go None e = let f = got.fresh e in false≢true (sym f.1 ∙ changed)
      go (Some own) e = let o = own_copy own e in ne (sym (whole.sole core c own h o.0 a (ap (λ k. k.changed) (sym (got.kept own e)) ∙ changed) (at ∙ o.1)))

pub value_at : (flat : ℕ → ℕ) (word value : ℕ) → with_value flat word value word ≡ value
value_at flat word value = rw (eq-eqb word word refl) refl

pub value_other : (flat : ℕ → ℕ) (word value other : ℕ) → (other ≡ word → ⊥) → with_value flat word value other ≡ flat other
value_other flat word value other ne = rw (ne_eqb other word ne) refl

-- a load changes nothing
loaded : (change : Change) (v : ℕ) → stores change ≡ false → word_after change v ≡ v
loaded Read v e = refl
loaded (Merge mask bits) v e = absurd (true≢false e)

value_same : (change : Change) (flat : ℕ → ℕ) (word other : ℕ) → stores change ≡ false → with_value flat word (word_after change (flat word)) other ≡ flat other
value_same change flat word other e = elim (cases_eq other word) [
  | inl is ↦ ap (with_value flat word (word_after change (flat word))) is ∙ value_at flat word (word_after change (flat word)) ∙ loaded change (flat word) e ∙ ap flat (sym is)
  | inr ne ↦ value_other flat word (word_after change (flat word)) other ne
]

after_line : (change : Change) (place : ℕ) (held after : HeldLine) → CopyAfter change place held after → after.line ≡ held.line
after_line Read place held after c = ap (λ h. h.line) c.copy
after_line (Merge mask bits) place held after c = ap (λ h. h.line) c.copy

after_calm : (change : Change) (place : ℕ) (held after : HeldLine) → CopyAfter change place held after → after.changed ≡ false → (stores change ≡ false) × (held.changed ≡ false)
after_calm Read place held after c e = (refl, ap (λ h. h.changed) (sym c.copy) ∙ e)
after_calm (Merge mask bits) place held after c e = absurd (true≢false (ap (λ h. h.changed) (sym c.copy) ∙ e))

after_changed : (change : Change) (place : ℕ) (held after : HeldLine) → CopyAfter change place held after → after.changed ≡ true → (stores change ≡ true) ⊎ (held.changed ≡ true)
after_changed Read place held after c e = inr (ap (λ h. h.changed) (sym c.copy) ∙ e)
after_changed (Merge mask bits) place held after c e = inl refl

-- what the access leaves, once the other cores' copies are settled
module _ (x : Extents) (sets ways set : ℕ) (rows rows' : List (List HeldLine)) (backing : Memory) (flat : ℕ → ℕ) (core word : ℕ) (change : Change) (held after : HeldLine)
    (whole : Coheres x sets ways set rows backing flat) (same : extents_of backing ≡ x) (few : IsApart backing) (some : 0 < ways)
    (is : IsWord x word) (of_set : cache_line_of word % sets ≡ set) (low : cache_line_of word < 2 ^ 32)
    (free : (c : ℕ) (h : HeldLine) → c ≢ core → Among h (row_of rows c) → is_changed (cache_line_of word) h ≡ false)
    (absent : stores change ≡ true → (c : ℕ) (h : HeldLine) → c ≢ core → Among h (row_of rows c) → h.line ≡ cache_line_of word → ⊥)
    (got : Fetched (cache_line_of word) (find (is_of (cache_line_of word)) (row_of rows core)) backing held) (copied : CopyAfter change (line_place word) held after)
    (kept : (c : ℕ) → c ≢ core → row_of rows' c ≡ row_of rows c) (own : row_of rows' core ≡ take ways (after ∷ others (cache_line_of word) (row_of rows core))) where
  abbrev flat' : ℕ → ℕ
  flat' = with_value flat word (word_after change (flat word))

  pub value_is : slice_index after.words (line_place word) ≡ word_after change (flat word)
  value_is = copied.word ∙ ap (word_after change) (held_agrees x sets ways set rows backing flat core (cache_line_of word) held whole same of_set free got word is refl)

  pub after_coheres : Coheres x sets ways set rows' (put_back (slice_get (others (cache_line_of word) (row_of rows core)) (ways - 1)) backing) flat'
  after_coheres =
      accessed x sets ways set rows rows' backing flat flat' core (cache_line_of word) after whole some same few kept own
      (after_line change (line_place word) held after copied ∙ held_line x sets ways set rows backing flat core (cache_line_of word) held whole same of_set free got) of_set low
      (λ other whole_word at. elim (cases_eq other word) [
        | inl e ↦ ap (λ w. slice_index after.words (line_place w)) e ∙ value_is ∙ sym (ap flat' e ∙ value_at flat word (word_after change (flat word)))
        | inr ne ↦
            let one : word % 8 ≡ 0 = is.0 in
            let two : other % 8 ≡ 0 = whole_word.0 in
            copied.others (line_place other) (λ e. ne (omega arith)) ∙ held_agrees x sets ways set rows backing flat core (cache_line_of word) held whole same of_set free got other whole_word at ∙ sym (value_other flat word (word_after change (flat word)) other ne)
      ])
      (λ other whole_word apart. value_other flat word (word_after change (flat word)) other (λ e. apart (ap cache_line_of e)))
      (λ c h ne a l other whole_word at. elim (cases_Bool (stores change)) [
        | inl y ↦ absurd (absent y c h ne a l)
        | inr n ↦ whole.agree c h a other whole_word (at ∙ sym l) ∙ sym (value_same change flat word other n)
      ])
      (λ calm other whole_word at.
      let both = after_calm change (line_place word) held after copied calm in
      held_clean x sets ways set rows backing flat core (cache_line_of word) held whole same of_set free got both.1 other whole_word at ∙ sym (value_same change flat word other both.0))
      free
      (λ changed c h ne a l. elim (after_changed change (line_place word) held after copied changed) [
        | inl y ↦ absent y c h ne a l
        | inr y ↦ held_alone x sets ways set rows backing flat core (cache_line_of word) held whole same of_set free got y c h ne a l
      ])

  -- the backing words of other sets are as before
  pub others_stay : (other : ℕ) → IsWord (extents_of backing) other → (cache_line_of other % sets ≡ set → ⊥) → word_in (put_back (slice_get (others (cache_line_of word) (row_of rows core)) (ways - 1)) backing) other ≡ word_in backing other
  others_stay other whole_word apart = put_back_other (slice_get (others (cache_line_of word) (row_of rows core)) (ways - 1)) backing other whole_word (λ h e l.
      let member = among_filter (λ k. not (cache_line_of word == k.line)) (row_of rows core) h (get_among (ways - 1) (others (cache_line_of word) (row_of rows core)) h e) in
      let placed = whole.placed core h member.0 in
      apart (ap (λ l. l % sets) l ∙ placed.0))

-- the copy that the core goes on with is one of the line
pub got_line : (line : ℕ) (row : List HeldLine) (backing : Memory) (held : HeldLine) → Fetched line (find (is_of line) row) backing held → held.line ≡ line
got_line line row backing held got = go (find (is_of line) row) refl
  where
    go : (o : Option HeldLine) → find (is_of line) row ≡ o → held.line ≡ line
    go None e = let f = got.fresh e in f.0
    go (Some own) e = let f = find_among (is_of line) row own e in ap (λ h. h.line) (got.kept own e) ∙ sym (eqb-true line own.line f.1)

pub after_line_is : (line : ℕ) (row : List HeldLine) (backing : Memory) (change : Change) (place : ℕ) (held after : HeldLine) → Fetched line (find (is_of line) row) backing held → CopyAfter change place held after → after.line ≡ line
after_line_is line row backing change place held after got copied = after_line change place held after copied ∙ got_line line row backing held got

-- a row has a copy of the line exactly where its lines have the line
pub hit_is : (line : ℕ) (row : List HeldLine) → is_some (find (is_of line) row) ≡ list_any (λ l. line == l) (row_lines row)
hit_is line [] = refl
hit_is line (x ∷ row) = elim (cases_Bool (line == x.line)) [
  | inl y ↦ rw y refl
  | inr n ↦ rw n (hit_is line row)
]

-- the lines of a row after the core's own access, and of the other cores' rows
module _ (sets ways set core word : ℕ) (change : Change) (lines : List ℕ) (of_set : cache_line_of word % sets ≡ set) where
  in_set : (cache_line_of word % sets == set) ≡ true
  in_set = eq-eqb (cache_line_of word % sets) set of_set

  pub own_after : lines_after (shape_of sets ways) (access_of core word change) core set lines ≡ take ways (cache_line_of word ∷ without_line (cache_line_of word) lines)
  own_after = rw (in_set, eq-eqb core core refl) refl

  pub loaded_after : (c : ℕ) → c ≢ core → stores change ≡ false → lines_after (shape_of sets ways) (access_of core word change) c set lines ≡ lines
  loaded_after c ne loads = rw (in_set, ne_eqb core c (λ e. ne (sym e)), loads) refl

  pub stored_after : (c : ℕ) → c ≢ core → stores change ≡ true → lines_after (shape_of sets ways) (access_of core word change) c set lines ≡ without_line (cache_line_of word) lines
  stored_after c ne y = rw (in_set, ne_eqb core c (λ e. ne (sym e)), y) refl

pub own_lines : (ways line : ℕ) (after : HeldLine) (row : List HeldLine) → after.line ≡ line → row_lines (take ways (after ∷ others line row)) ≡ take ways (line ∷ without_line line (row_lines row))
own_lines ways line after row at = sym (take-map (λ h. h.line) ways (after ∷ others line row)) ∙ ap (take ways) (ap (λ l. l ∷ row_lines (others line row)) at ∙ ap (λ l. line ∷ l) (others_lines line row))

-- the parts of an access put together: `d` is what is read past the rows
module _ (rows0 rows1 : List (List HeldLine)) (d : List HeldLine) (before backing memory : Memory) (core word ways : ℕ) (change : Change) (found : Option HeldLine) (held after : HeldLine) (row' : List HeldLine)
    (within : core < length rows1) (own_is : row_of rows1 core ≡ row_of rows0 core)
    (found_is : found ≡ find (is_of (cache_line_of word)) (slice_index_or rows1 core d)) (got : Fetched (cache_line_of word) found backing held) (copied : CopyAfter change (line_place word) held after)
    (row_is : row' ≡ take ways (after ∷ others after.line (slice_index_or rows1 core d)))
    (memory_is : memory ≡ put_back (slice_get (others after.line (slice_index_or rows1 core d)) (ways - 1)) backing) where
  at_core : slice_index_or rows1 core d ≡ row_of rows1 core
  at_core = get_or_default rows1 core d [] within

  found_here : found ≡ find (is_of (cache_line_of word)) (row_of rows1 core)
  found_here = found_is ∙ ap (find (is_of (cache_line_of word))) at_core

  got_here : Fetched (cache_line_of word) (find (is_of (cache_line_of word)) (row_of rows1 core)) backing held
  got_here = subst (λ o. Fetched (cache_line_of word) o backing held) found_here got

  line_is : after.line ≡ cache_line_of word
  line_is = after_line_is (cache_line_of word) (row_of rows1 core) backing change (line_place word) held after got_here copied

  rest_is : others after.line (slice_index_or rows1 core d) ≡ others (cache_line_of word) (row_of rows1 core)
  rest_is = ap (λ l. others l (slice_index_or rows1 core d)) line_is ∙ ap (others (cache_line_of word)) at_core

  row_here : row' ≡ take ways (after ∷ others (cache_line_of word) (row_of rows1 core))
  row_here = row_is ∙ ap (λ r. take ways (after ∷ r)) rest_is

  memory_here : memory ≡ put_back (slice_get (others (cache_line_of word) (row_of rows1 core)) (ways - 1)) backing
  memory_here = memory_is ∙ ap (λ r. put_back (slice_get r (ways - 1)) backing) rest_is

  own_now : row_of (slice_set rows1 core row') core ≡ row'
  own_now = get_or-set_same rows1 core row' [] within

  other_now : (c : ℕ) → c ≢ core → row_of (slice_set rows1 core row') c ≡ row_of rows1 c
  other_now c ne = get_or-set_other rows1 core c row' [] ne

  pub all_hit : is_some found ≡ list_any (λ l. cache_line_of word == l) (row_lines (row_of rows0 core))
  all_hit = ap is_some found_here ∙ hit_is (cache_line_of word) (row_of rows1 core) ∙ ap (λ r. list_any (λ l. cache_line_of word == l) (row_lines r)) own_is

  pub all_lines : (sets set : ℕ) → cache_line_of word % sets ≡ set →
      (stores change ≡ false → (c : ℕ) → c ≢ core → row_lines (row_of rows1 c) ≡ row_lines (row_of rows0 c)) →
      (stores change ≡ true → (c : ℕ) → c ≢ core → row_lines (row_of rows1 c) ≡ without_line (cache_line_of word) (row_lines (row_of rows0 c))) →
      (c : ℕ) → row_lines (row_of (slice_set rows1 core row') c) ≡ lines_after (shape_of sets ways) (access_of core word change) c set (row_lines (row_of rows0 c))
  all_lines sets set of_set loads takes c = elim (cases_eq c core) [
    | inl is ↦
        ap (λ i. row_lines (row_of (slice_set rows1 core row') i)) is ∙ ap row_lines (own_now ∙ row_here) ∙ own_lines ways (cache_line_of word) after (row_of rows1 core) line_is ∙
        ap (λ r. take ways (cache_line_of word ∷ without_line (cache_line_of word) (row_lines r))) own_is ∙
        sym (own_after sets ways set core word change (row_lines (row_of rows0 core)) of_set) ∙
        ap (λ i. lines_after (shape_of sets ways) (access_of core word change) i set (row_lines (row_of rows0 i))) (sym is)
    | inr ne ↦ ap row_lines (other_now c ne) ∙ elim (cases_Bool (stores change)) [
      | inl y ↦ takes y c ne ∙ sym (stored_after sets ways set core word change (row_lines (row_of rows0 c)) of_set c ne y)
      | inr n ↦ loads n c ne ∙ sym (loaded_after sets ways set core word change (row_lines (row_of rows0 c)) of_set c ne n)
    ]
  ]

  pub all_accessed : (sets set : ℕ) (flat : ℕ → ℕ) → cache_line_of word % sets ≡ set → 0 < ways → IsWord (extents_of before) word → cache_line_of word < 2 ^ 32 →
      extents_of backing ≡ extents_of before → IsApart backing → Coheres (extents_of before) sets ways set rows1 backing flat →
      ((other : ℕ) → IsWord (extents_of before) other → cache_line_of other ≢ cache_line_of word → word_in backing other ≡ word_in before other) →
      ((c : ℕ) (h : HeldLine) → c ≢ core → Among h (row_of rows1 c) → is_changed (cache_line_of word) h ≡ false) →
      (stores change ≡ true → (c : ℕ) (h : HeldLine) → c ≢ core → Among h (row_of rows1 c) → h.line ≡ cache_line_of word → ⊥) →
      Accessed (extents_of before) sets ways set (slice_set rows1 core row') before memory flat word change (slice_index after.words (line_place word))
  all_accessed sets set flat of_set some is low same few whole words free absent =
      let x = extents_of before in
      let rows' = slice_set rows1 core row' in
      let own : row_of (slice_set rows1 core row') core ≡ take ways (after ∷ others (cache_line_of word) (row_of rows1 core)) = own_now ∙ row_here in
      record {
        value = value_is x sets ways set rows1 rows' backing flat core word change held after whole same few some is of_set low free absent got_here copied other_now own;
        coheres = subst (λ m. Coheres x sets ways set rows' m (with_value flat word (word_after change (flat word)))) (sym memory_here)
            (after_coheres x sets ways set rows1 rows' backing flat core word change held after whole same few some is of_set low free absent got_here copied other_now own);
        others = λ other whole_word apart.
            ap (λ m. word_in m other) memory_here ∙
            others_stay x sets ways set rows1 rows' backing flat core word change held after whole same few some is of_set low free absent got_here copied other_now own other (subst (λ e. IsWord e other) (sym same) whole_word) apart ∙
            words other whole_word (λ e. apart (ap (λ l. l % sets) e ∙ of_set));
      }
