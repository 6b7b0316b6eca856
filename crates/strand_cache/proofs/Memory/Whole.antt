-- Serves clauses value and memory of Hierarchy::access, and word and flatten.
-- The caches as a whole: the flat memory, and what one access leaves of it and of the lists of lines.
use Rattle.std.proofs.Common.{◌≡◌, ℕ, zero, suc, ◌+◌, ◌-◌, ◌*◌, ◌<◌, ◌≤◌, true, false, inl, inr, List, [], ◌∷◌, length, Some, None, refl, sym, ap, ◌∙◌, subst, arith}
use Rattle.std.specs.Prelude.{map, ◌/◌, ◌%◌, Option, slice_index, slice_index_or, slice_set}
use Rattle.std.specs.List.{find, range_with_len}
use Rattle.std.specs.Option.{option_or}
use Rattle.std.proofs.lemmas.Bool.{cases_eq, cases_lt}
use Rattle.std.proofs.lemmas.Option.{none-some}
use Rattle.std.proofs.lemmas.List.{ext_get_or, get_or_default, get_or-set_same, get_or-set_other, length-set}
use Rattle.std.proofs.lemmas.List.FromFn.{length-map-range_with_len, get_or-map-range_with_len, fill_by_all}
use Rattle.strand_base.specs.declared.regions.TheConstants.{VOLATILE_BASE, PERSISTENT_BASE}
use Rattle.strand_exec.specs.Core.{Extents}
use Rattle.strand_exec.specs.Memory.{Memory, extents_of, word_in, with_word}
use Rattle.strand_exec.specs.Plan.{IsWord}
use Rattle.strand_exec.specs.Arith.{merged}
use Rattle.strand_cache.specs.declared.held_line.HeldLine.{HeldLine}
use Rattle.strand_cache.specs.declared.change.Change.{Change}
use Rattle.strand_cache.specs.declared.change.Change.TheVariants.{Read, Merge}
use Rattle.strand_cache.specs.Copies.{is_changed, owned, row_of}
use Rattle.strand_cache.specs.Backing.{IsApart}
use Rattle.strand_cache.specs.Accesses.{cache_line_of, line_place}
use Rattle.strand_cache.specs.Coherence.{Among, Coheres, Accessed, with_value}
use Rattle.strand_cache.specs.Changes.{word_after, memory_after}
use Rattle.strand_cache.specs.Whole.{group_of, owned_word, flat_value_in, flat_value, flat_memory, IsWhole}
use Rattle.strand_cache.proofs.Memory.Words.{low_word, high_word, put_extents, put_same, put_other}
use Rattle.strand_cache.proofs.Memory.RowMembers.{find_among, find_absent}
use Rattle.strand_cache.proofs.Memory.Coherence.{changed_parts}
use Rattle.strand_cache.proofs.Memory.SetAccess.{value_at, value_other}

-- the changed copy of a line is a copy in some core's row
pub owned_some : (line : ℕ) (rows : List (List HeldLine)) (held : HeldLine) → owned line rows ≡ Some held → (core : ℕ) × Among held (row_of rows core) × (is_changed line held ≡ true)
owned_some line [] held e = absurd (none-some held e)
owned_some line (row ∷ rows) held e = go (find (is_changed line) row) refl (owned_some line rows held) e
  where
    go : (o : Option HeldLine) → find (is_changed line) row ≡ o → (owned line rows ≡ Some held → (core : ℕ) × Among held (row_of rows core) × (is_changed line held ≡ true)) → option_or o (owned line rows) ≡ Some held → (core : ℕ) × Among held (row_of (row ∷ rows) core) × (is_changed line held ≡ true)
    go None is later e = let f = later e in (suc f.0, f.1, f.2)
    go (Some x) is later e = let f = find_among (is_changed line) row held (is ∙ e) in (0, f.0, f.1)

pub owned_none : (line : ℕ) (rows : List (List HeldLine)) → owned line rows ≡ None → (core : ℕ) (held : HeldLine) → Among held (row_of rows core) → is_changed line held ≡ false
owned_none line [] e core held a = absurd a
owned_none line (row ∷ rows) e zero held a = go (find (is_changed line) row) refl e
  where
    go : (o : Option HeldLine) → find (is_changed line) row ≡ o → option_or o (owned line rows) ≡ None → is_changed line held ≡ false
    go None is e = find_absent (is_changed line) row is held a
    go (Some x) is e = absurd (none-some x (sym e))
owned_none line (row ∷ rows) e (suc core) held a = go (find (is_changed line) row) e (λ e. owned_none line rows e core held a)
  where
    go : (o : Option HeldLine) → option_or o (owned line rows) ≡ None → (owned line rows ≡ None → is_changed line held ≡ false) → is_changed line held ≡ false
    go None e later = later e
    go (Some x) e later = absurd (none-some x (sym e))

-- what coheres shows the words of its flat memory
pub coheres_shown : (x : Extents) (sets ways set : ℕ) (rows : List (List HeldLine)) (backing : Memory) (flat : ℕ → ℕ) → Coheres x sets ways set rows backing flat →
    (word : ℕ) → IsWord x word → cache_line_of word % sets ≡ set → flat_value_in rows backing word ≡ flat word
coheres_shown x sets ways set rows backing flat whole word is of_set = go (owned (cache_line_of word) rows) refl
  where
    go : (o : Option HeldLine) → owned (cache_line_of word) rows ≡ o → owned_word o (line_place word) (word_in backing word) ≡ flat word
    go None e = whole.free word is of_set (owned_none (cache_line_of word) rows e)
    go (Some held) e = let f = owned_some (cache_line_of word) rows held e in let parts = changed_parts (cache_line_of word) held f.2 in whole.agree f.0 held f.1 word is parts.1

-- another flat memory and backing memory that are the same in the words of the set
pub coheres_same : (x : Extents) (sets ways set : ℕ) (rows : List (List HeldLine)) (backing backing' : Memory) (flat flat' : ℕ → ℕ) → Coheres x sets ways set rows backing flat →
    ((word : ℕ) → IsWord x word → cache_line_of word % sets ≡ set → word_in backing' word ≡ word_in backing word) → ((word : ℕ) → IsWord x word → cache_line_of word % sets ≡ set → flat word ≡ flat' word) →
    Coheres x sets ways set rows backing' flat'
coheres_same x sets ways set rows backing backing' flat flat' whole words flats = record {
  short = whole.short;
  placed = whole.placed;
  once = whole.once;
  sole = whole.sole;
  agree = λ core held a word is at. let p = whole.placed core held a in whole.agree core held a word is at ∙ flats word is (ap (λ l. l % sets) at ∙ p.0);
  free = λ word is of_set none. words word is of_set ∙ whole.free word is of_set none ∙ flats word is of_set;
}

pub flat_extents : (sets : ℕ) (groups : List (List (List HeldLine))) (backing : Memory) → extents_of (flat_memory sets groups backing) ≡ extents_of backing
flat_extents sets groups backing = λ i. record {
  volatile = length-map-range_with_len (λ k. flat_value sets groups backing (VOLATILE_BASE + 8 * k)) 0 (length backing.volatile) i;
  persistent = length-map-range_with_len (λ k. flat_value sets groups backing (PERSISTENT_BASE + 8 * k)) 0 (length backing.persistent) i;
}

pub seen_extents : (sets : ℕ) (groups : List (List (List HeldLine))) (backing memory : Memory) → flat_memory sets groups backing ≡ memory → extents_of memory ≡ extents_of backing
seen_extents sets groups backing memory e = ap extents_of (sym e) ∙ flat_extents sets groups backing

-- the rows of a word's set are those at its place
pub rows_found : (cores sets ways : ℕ) (groups : List (List (List HeldLine))) (backing : Memory) (rows : List (List HeldLine)) (word : ℕ) → IsWhole cores sets ways groups backing
    → rows ≡ slice_index_or groups (cache_line_of word % sets) rows → rows ≡ group_of groups (cache_line_of word % sets)
rows_found cores sets ways groups backing rows word whole e = e ∙ get_or_default groups (cache_line_of word % sets) rows [] (omega (arith, whole.some_sets, whole.all_sets))

pub flat_word : (sets : ℕ) (groups : List (List (List HeldLine))) (backing : Memory) (word : ℕ) → IsApart backing → IsWord (extents_of backing) word → word_in (flat_memory sets groups backing) word ≡ flat_value sets groups backing word
flat_word sets groups backing word few is = elim (cases_lt word PERSISTENT_BASE) [
  | inl lt ↦
      let parts : (VOLATILE_BASE ≤ word) × (word < VOLATILE_BASE + 8 * length backing.volatile) = elim is.1 [ inl v ↦ v | inr p ↦ absurd (omega (arith, p.0)) ] in
      let whole : word % 8 ≡ 0 = is.0 in
      let within : (word - VOLATILE_BASE) / 8 < length backing.volatile = omega (arith, parts.0, parts.1) in
      let at : VOLATILE_BASE + 8 * ((word - VOLATILE_BASE) / 8) ≡ word = omega (arith, parts.0) in
      low_word (flat_memory sets groups backing) word lt ∙
      get_or-map-range_with_len (λ k. flat_value sets groups backing (VOLATILE_BASE + 8 * k)) 0 (length backing.volatile) ((word - VOLATILE_BASE) / 8) ((word - VOLATILE_BASE) / 8) 0 within (omega arith) ∙
      ap (flat_value sets groups backing) at
  | inr ge ↦
      let parts : (PERSISTENT_BASE ≤ word) × (word < PERSISTENT_BASE + 8 * length backing.persistent) = elim is.1 [ inl v ↦ absurd (omega (arith, v.1, few.apart)) | inr p ↦ p ] in
      let whole : word % 8 ≡ 0 = is.0 in
      let within : (word - PERSISTENT_BASE) / 8 < length backing.persistent = omega (arith, parts.0, parts.1) in
      let at : PERSISTENT_BASE + 8 * ((word - PERSISTENT_BASE) / 8) ≡ word = omega (arith, parts.0) in
      high_word (flat_memory sets groups backing) word ge ∙
      get_or-map-range_with_len (λ k. flat_value sets groups backing (PERSISTENT_BASE + 8 * k)) 0 (length backing.persistent) ((word - PERSISTENT_BASE) / 8) ((word - PERSISTENT_BASE) / 8) 0 within (omega arith) ∙
      ap (flat_value sets groups backing) at
]

-- two memories with the same words are one
pub same_memory : (m other : Memory) → IsApart m → extents_of m ≡ extents_of other → ((word : ℕ) → IsWord (extents_of m) word → word_in m word ≡ word_in other word) → m ≡ other
same_memory m other few same words =
    let low : m.volatile ≡ other.volatile = ext_get_or 0 m.volatile other.volatile (ap (λ x. x.volatile) same) (λ i lt.
    let word = VOLATILE_BASE + 8 * i in
    let below : VOLATILE_BASE + 8 * i < PERSISTENT_BASE = omega (arith, few.apart) in
    let place : (VOLATILE_BASE + 8 * i - VOLATILE_BASE) / 8 ≡ i = omega arith in
    let is : IsWord (extents_of m) (VOLATILE_BASE + 8 * i) = (omega arith, inl (omega arith, omega arith)) in
    ap (slice_index m.volatile) (sym place) ∙ sym (low_word m (VOLATILE_BASE + 8 * i) below) ∙ words (VOLATILE_BASE + 8 * i) is ∙ low_word other (VOLATILE_BASE + 8 * i) below ∙ ap (slice_index other.volatile) place) in
    let high : m.persistent ≡ other.persistent = ext_get_or 0 m.persistent other.persistent (ap (λ x. x.persistent) same) (λ i lt.
    let above : PERSISTENT_BASE ≤ PERSISTENT_BASE + 8 * i = omega arith in
    let place : (PERSISTENT_BASE + 8 * i - PERSISTENT_BASE) / 8 ≡ i = omega arith in
    let is : IsWord (extents_of m) (PERSISTENT_BASE + 8 * i) = (omega arith, inr (omega arith, omega arith)) in
    ap (slice_index m.persistent) (sym place) ∙ sym (high_word m (PERSISTENT_BASE + 8 * i) above) ∙ words (PERSISTENT_BASE + 8 * i) is ∙ high_word other (PERSISTENT_BASE + 8 * i) above ∙ ap (slice_index other.persistent) place) in
    λ i. record { volatile = low i; persistent = high i }

after_extents : (change : Change) (word : ℕ) (m : Memory) → extents_of (memory_after change word m) ≡ extents_of m
after_extents Read word m = refl
after_extents (Merge mask bits) word m = put_extents m word (merged (word_in m word) mask bits)

-- the words after an access
after_word : (change : Change) (m : Memory) (word other : ℕ) → IsApart m → IsWord (extents_of m) word → IsWord (extents_of m) other → word_in (memory_after change word m) other ≡ with_value (word_in m) word (word_after change (word_in m word)) other
after_word Read m word other few is is' = elim (cases_eq other word) [
  | inl e ↦ ap (word_in m) e ∙ sym (ap (with_value (word_in m) word (word_in m word)) e ∙ value_at (word_in m) word (word_in m word))
  | inr ne ↦ sym (value_other (word_in m) word (word_in m word) other ne)
]
after_word (Merge mask bits) m word other few is is' =
    let v = merged (word_in m word) mask bits in
    elim (cases_eq other word) [
      | inl e ↦ ap (word_in (with_word m word v)) e ∙ put_same m word v few is ∙ sym (ap (with_value (word_in m) word v) e ∙ value_at (word_in m) word v)
      | inr ne ↦ put_other m word v other is is' ne ∙ sym (value_other (word_in m) word v other ne)
    ]

-- the access of the word's set, at the flat memory that the caches show
done_of : (cores sets ways : ℕ) (groups : List (List (List HeldLine))) (backing backing' : Memory) (group' old : List (List HeldLine)) (word : ℕ) (change : Change) (answer : ℕ) →
    IsWhole cores sets ways groups backing → old ≡ group_of groups (cache_line_of word % sets) →
    ((sets set : ℕ) (flat : ℕ → ℕ) → cache_line_of word % sets ≡ set → Coheres (extents_of backing) sets ways set old backing flat → Accessed (extents_of backing) sets ways set group' backing backing' flat word change answer) →
    Accessed (extents_of backing) sets ways (cache_line_of word % sets) group' backing backing' (flat_value sets groups backing) word change answer
done_of cores sets ways groups backing backing' group' old word change answer whole old_is each =
    let lt : cache_line_of word % sets < sets = omega (arith, whole.some_sets) in
    each sets (cache_line_of word % sets) (flat_value sets groups backing) refl (subst (λ g. Coheres (extents_of backing) sets ways (cache_line_of word % sets) g backing (flat_value sets groups backing)) (sym old_is) (whole.coheres (cache_line_of word % sets) lt))

module _ (cores sets ways : ℕ) (groups : List (List (List HeldLine))) (backing backing' : Memory) (group' : List (List HeldLine)) (word : ℕ) (change : Change) (answer : ℕ)
    (whole : IsWhole cores sets ways groups backing) (few : IsApart backing) (is : IsWord (extents_of backing) word) (extents : extents_of backing' ≡ extents_of backing)
    (rows : length group' ≡ length (group_of groups (cache_line_of word % sets)))
    (done : Accessed (extents_of backing) sets ways (cache_line_of word % sets) group' backing backing' (flat_value sets groups backing) word change answer) where
  abbrev set : ℕ
  set = cache_line_of word % sets

  abbrev groups' : List (List (List HeldLine))
  groups' = slice_set groups (cache_line_of word % sets) group'

  abbrev flat : ℕ → ℕ
  flat = flat_value sets groups backing

  abbrev flat' : ℕ → ℕ
  flat' = with_value (flat_value sets groups backing) word (word_after change (flat_value sets groups backing word))

  set_lt : cache_line_of word % sets < length groups
  set_lt = omega (arith, whole.some_sets, whole.all_sets)

  here : group_of groups' (cache_line_of word % sets) ≡ group'
  here = get_or-set_same groups (cache_line_of word % sets) group' [] set_lt

  pub there : (other : ℕ) → (other ≡ cache_line_of word % sets → ⊥) → group_of groups' other ≡ group_of groups other
  there other ne = get_or-set_other groups (cache_line_of word % sets) other group' [] ne

  coheres_new : (other : ℕ) → other < sets → Coheres (extents_of backing) sets ways other (group_of groups' other) backing' flat'
  coheres_new other lt = elim (cases_eq other (cache_line_of word % sets)) [
    | inl e ↦ subst (λ s. Coheres (extents_of backing) sets ways s (group_of groups' s) backing' flat') (sym e) (subst (λ g. Coheres (extents_of backing) sets ways (cache_line_of word % sets) g backing' flat') (sym here) done.coheres)
    | inr ne ↦ subst (λ g. Coheres (extents_of backing) sets ways other g backing' flat') (sym (there other ne))
        (coheres_same (extents_of backing) sets ways other (group_of groups other) backing backing' flat flat' (whole.coheres other lt)
        (λ w is' of_set. done.others w is' (λ e. ne (sym of_set ∙ e)))
        (λ w is' of_set. sym (value_other flat word (word_after change (flat word)) w (λ e. ne (sym of_set ∙ ap (λ v. cache_line_of v % sets) e)))))
  ]

  shown_new : (w : ℕ) → IsWord (extents_of backing) w → flat_value sets groups' backing' w ≡ flat' w
  shown_new w is' =
      let lt : cache_line_of w % sets < sets = omega (arith, whole.some_sets) in
      coheres_shown (extents_of backing) sets ways (cache_line_of w % sets) (group_of groups' (cache_line_of w % sets)) backing' flat' (coheres_new (cache_line_of w % sets) lt) w is' refl

  whole_after : IsWhole cores sets ways groups' backing'
  whole_after = record {
    all_sets = length-set groups (cache_line_of word % sets) group' ∙ whole.all_sets;
    rows = λ other lt. elim (cases_eq other (cache_line_of word % sets)) [
      | inl e ↦ ap (λ s. length (group_of groups' s)) e ∙ ap length here ∙ rows ∙ whole.rows (cache_line_of word % sets) (omega (arith, whole.some_sets))
      | inr ne ↦ ap length (there other ne) ∙ whole.rows other lt
    ];
    some_sets = whole.some_sets;
    some_ways = whole.some_ways;
    few_ways = whole.few_ways;
    coheres = λ other lt. subst (λ x. Coheres x sets ways other (group_of groups' other) backing' (flat_value sets groups' backing')) (sym extents)
        (coheres_same (extents_of backing) sets ways other (group_of groups' other) backing' backing' flat' (flat_value sets groups' backing') (coheres_new other lt) (λ w is' of_set. refl) (λ w is' of_set. sym (shown_new w is')));
  }

  memory_is : flat_memory sets groups' backing' ≡ memory_after change word (flat_memory sets groups backing)
  memory_is =
      let small : IsApart backing' = record { apart = omega (arith, few.apart, ap (λ x. x.volatile) extents); small = omega (arith, few.small, ap (λ x. x.persistent) extents) } in
      let low : IsApart (flat_memory sets groups backing) = record { apart = omega (arith, few.apart, ap (λ x. x.volatile) (flat_extents sets groups backing)); small = omega (arith, few.small, ap (λ x. x.persistent) (flat_extents sets groups backing)) } in
      let low' : IsApart (flat_memory sets groups' backing') = record { apart = omega (arith, small.apart, ap (λ x. x.volatile) (flat_extents sets groups' backing')); small = omega (arith, small.small, ap (λ x. x.persistent) (flat_extents sets groups' backing')) } in
      same_memory (flat_memory sets groups' backing') (memory_after change word (flat_memory sets groups backing)) low'
      (flat_extents sets groups' backing' ∙ extents ∙ sym (after_extents change word (flat_memory sets groups backing) ∙ flat_extents sets groups backing))
      (λ w w_is.
      let in_new : IsWord (extents_of backing') w = subst (λ x. IsWord x w) (flat_extents sets groups' backing') w_is in
      let in_old : IsWord (extents_of backing) w = subst (λ x. IsWord x w) extents in_new in
      let in_flat : IsWord (extents_of (flat_memory sets groups backing)) w = subst (λ x. IsWord x w) (sym (flat_extents sets groups backing)) in_old in
      let is_flat : IsWord (extents_of (flat_memory sets groups backing)) word = subst (λ x. IsWord x word) (sym (flat_extents sets groups backing)) is in
      flat_word sets groups' backing' w small in_new ∙ shown_new w in_old ∙
      sym (after_word change (flat_memory sets groups backing) word w low is_flat in_flat ∙ same_values w in_old))
    where
      same_values : (w : ℕ) → IsWord (extents_of backing) w → with_value (word_in (flat_memory sets groups backing)) word (word_after change (word_in (flat_memory sets groups backing) word)) w ≡ flat' w
      same_values w in_old =
          let at_word = flat_word sets groups backing word few is in
          elim (cases_eq w word) [
            | inl e ↦ ap (with_value (word_in (flat_memory sets groups backing)) word (word_after change (word_in (flat_memory sets groups backing) word))) e ∙ value_at (word_in (flat_memory sets groups backing)) word (word_after change (word_in (flat_memory sets groups backing) word)) ∙
                ap (word_after change) at_word ∙ sym (ap flat' e ∙ value_at flat word (word_after change (flat word)))
            | inr ne ↦ value_other (word_in (flat_memory sets groups backing)) word (word_after change (word_in (flat_memory sets groups backing) word)) w ne ∙ flat_word sets groups backing w few in_old ∙ sym (value_other flat word (word_after change (flat word)) w ne)
          ]

  answer_is : answer ≡ word_after change (word_in (flat_memory sets groups backing) word)
  answer_is = done.value ∙ ap (word_after change) (sym (flat_word sets groups backing word few is))

-- all that an access to a set leaves, where the code found the set's rows at their place
pub left_whole : (cores sets ways : ℕ) (groups : List (List (List HeldLine))) (backing backing' memory : Memory) (before after : List (List HeldLine)) (word : ℕ) (change : Change) (answer : ℕ)
    → IsWhole cores sets ways groups backing → IsApart backing → flat_memory sets groups backing ≡ memory → IsWord (extents_of memory) word
    → before ≡ slice_index_or groups (cache_line_of word % sets) before → extents_of backing' ≡ extents_of backing → length after ≡ length before
    → ((sets set : ℕ) (flat : ℕ → ℕ) → cache_line_of word % sets ≡ set → Coheres (extents_of backing) sets ways set before backing flat → Accessed (extents_of backing) sets ways set after backing backing' flat word change answer)
    → IsWhole cores sets ways (slice_set groups (cache_line_of word % sets) after) backing' × (answer ≡ word_after change (word_in memory word))
    × (flat_memory sets (slice_set groups (cache_line_of word % sets) after) backing' ≡ memory_after change word memory)
left_whole cores sets ways groups backing backing' memory before after word change answer whole few flat is found extents same each =
    let old_is = rows_found cores sets ways groups backing before word whole found in
    let is' = subst (λ x. IsWord x word) (seen_extents sets groups backing memory flat) is in
    let rows = same ∙ ap length old_is in
    let done = done_of cores sets ways groups backing backing' after before word change answer whole old_is each in (
      whole_after cores sets ways groups backing backing' after word change answer whole few is' extents rows done,
      answer_is cores sets ways groups backing backing' after word change answer whole few is' extents rows done ∙ ap (λ (m : Memory). word_after change (word_in m word)) flat,
      memory_is cores sets ways groups backing backing' after word change answer whole few is' extents rows done ∙ ap (memory_after change word) flat,
    )

-- the words of a memory, read one by one
pub low_words : (m : Memory) → IsApart m → map (λ i. word_in m (VOLATILE_BASE + 8 * i)) (range_with_len 0 (length m.volatile)) ≡ m.volatile
low_words m few = sym (fill_by_all (λ i. word_in m (VOLATILE_BASE + 8 * i)) m.volatile (length m.volatile) 0 refl (λ i lt.
    let below : VOLATILE_BASE + 8 * i < PERSISTENT_BASE = omega (arith, few.apart) in
    let place : (VOLATILE_BASE + 8 * i - VOLATILE_BASE) / 8 ≡ i = omega arith in
    sym (low_word m (VOLATILE_BASE + 8 * i) below ∙ ap (slice_index m.volatile) place)))

pub high_words : (m : Memory) → map (λ i. word_in m (PERSISTENT_BASE + 8 * i)) (range_with_len 0 (length m.persistent)) ≡ m.persistent
high_words m = sym (fill_by_all (λ i. word_in m (PERSISTENT_BASE + 8 * i)) m.persistent (length m.persistent) 0 refl (λ i lt.
    let above : PERSISTENT_BASE ≤ PERSISTENT_BASE + 8 * i = omega arith in
    let place : (PERSISTENT_BASE + 8 * i - PERSISTENT_BASE) / 8 ≡ i = omega arith in
    sym (high_word m (PERSISTENT_BASE + 8 * i) above ∙ ap (slice_index m.persistent) place)))
