-- Serves clauses value and memory of Hierarchy::access: what one word and one line put back leave.
use Rattle.std.proofs.Common.{◌≡◌, ℕ, zero, suc, ◌+◌, ◌-◌, ◌*◌, ◌<◌, ◌≤◌, true, false, inl, inr, List, length, refl, sym, ap, ◌∙◌, subst, arith, length-set}
use Rattle.std.specs.Prelude.{◌/◌, ◌%◌, ◌≢◌, ◌^◌, nat_lt, nat_le, slice_index, slice_set}
use Rattle.std.proofs.lemmas.Bool.{and_parts, and_from, or_cases, or_left, or_right, leb-true, ltb-true, le-leb, lt-ltb, le-ltb, cases_lt, cases_eq, cases_Bool, false≢true}
use Rattle.std.proofs.lemmas.List.{get_or-set_same, get_or-set_other}
use Rattle.strand_base.specs.declared.regions.TheConstants.{VOLATILE_BASE, PERSISTENT_BASE}
use Rattle.strand_exec.specs.Core.{Extents}
use Rattle.strand_exec.specs.Memory.{Memory, extents_of, word_in, with_word}
use Rattle.strand_exec.specs.Plan.{is_in, is_data, IsData, IsWord}
use Rattle.strand_cache.specs.Backing.{line_word, put_below, with_line, word_or_zero, IsApart}
use Rattle.strand_cache.specs.Accesses.{cache_line_of, line_place}

pub data_from : (x : Extents) (word : ℕ) → is_data x word ≡ true → IsData x word
data_from x word h = elim (or_cases (is_in VOLATILE_BASE x.volatile word) (is_in PERSISTENT_BASE x.persistent word) h) [
  | inl v ↦ let parts = and_parts (nat_le VOLATILE_BASE word) (nat_lt word (VOLATILE_BASE + 8 * x.volatile)) v in inl (leb-true VOLATILE_BASE word parts.0, ltb-true word (VOLATILE_BASE + 8 * x.volatile) parts.1)
  | inr p ↦ let parts = and_parts (nat_le PERSISTENT_BASE word) (nat_lt word (PERSISTENT_BASE + 8 * x.persistent)) p in inr (leb-true PERSISTENT_BASE word parts.0, ltb-true word (PERSISTENT_BASE + 8 * x.persistent) parts.1)
]

pub data_test : (x : Extents) (word : ℕ) → IsData x word → is_data x word ≡ true
data_test x word (inl v) = or_left (is_in VOLATILE_BASE x.volatile word) (is_in PERSISTENT_BASE x.persistent word) (and_from (nat_le VOLATILE_BASE word) (nat_lt word (VOLATILE_BASE + 8 * x.volatile)) (le-leb VOLATILE_BASE word v.0) (lt-ltb word (VOLATILE_BASE + 8 * x.volatile) v.1))
data_test x word (inr p) = or_right (is_in VOLATILE_BASE x.volatile word) (is_in PERSISTENT_BASE x.persistent word) (and_from (nat_le PERSISTENT_BASE word) (nat_lt word (PERSISTENT_BASE + 8 * x.persistent)) (le-leb PERSISTENT_BASE word p.0) (lt-ltb word (PERSISTENT_BASE + 8 * x.persistent) p.1))

pub low_word : (m : Memory) (word : ℕ) → word < PERSISTENT_BASE → word_in m word ≡ slice_index m.volatile ((word - VOLATILE_BASE) / 8)
unfolding word_in
low_word m word lt = rw (lt-ltb word PERSISTENT_BASE lt) refl

pub high_word : (m : Memory) (word : ℕ) → PERSISTENT_BASE ≤ word → word_in m word ≡ slice_index m.persistent ((word - PERSISTENT_BASE) / 8)
unfolding word_in
high_word m word ge = rw (le-ltb word PERSISTENT_BASE ge) refl

low_put : (m : Memory) (word value : ℕ) → word < PERSISTENT_BASE → with_word m word value ≡ record { volatile = slice_set m.volatile ((word - VOLATILE_BASE) / 8) value; persistent = m.persistent }
unfolding with_word
low_put m word value lt = rw (lt-ltb word PERSISTENT_BASE lt) refl

high_put : (m : Memory) (word value : ℕ) → PERSISTENT_BASE ≤ word → with_word m word value ≡ record { volatile = m.volatile; persistent = slice_set m.persistent ((word - PERSISTENT_BASE) / 8) value }
unfolding with_word
high_put m word value ge = rw (le-ltb word PERSISTENT_BASE ge) refl

pub put_extents : (m : Memory) (word value : ℕ) → extents_of (with_word m word value) ≡ extents_of m
put_extents m word value = elim (cases_lt word PERSISTENT_BASE) [
  | inl lt ↦ rw (low_put m word value lt, length-set m.volatile ((word - VOLATILE_BASE) / 8) value) refl
  | inr ge ↦ rw (high_put m word value ge, length-set m.persistent ((word - PERSISTENT_BASE) / 8) value) refl
]

pub put_same : (m : Memory) (word value : ℕ) → IsApart m → IsWord (extents_of m) word → word_in (with_word m word value) word ≡ value
put_same m word value few is = elim (cases_lt word PERSISTENT_BASE) [
  | inl lt ↦
      let within : (word - VOLATILE_BASE) / 8 < length m.volatile = elim is.1 [ inl v ↦ omega arith | inr p ↦ absurd (omega arith) ] in
      rw (low_put m word value lt) (low_word (record { volatile = slice_set m.volatile ((word - VOLATILE_BASE) / 8) value; persistent = m.persistent }) word lt ∙ get_or-set_same m.volatile ((word - VOLATILE_BASE) / 8) value 0 within)
  | inr ge ↦
      let within : (word - PERSISTENT_BASE) / 8 < length m.persistent = elim is.1 [ inl v ↦ absurd (omega (arith, few.apart)) | inr p ↦ omega arith ] in
      rw (high_put m word value ge) (high_word (record { volatile = m.volatile; persistent = slice_set m.persistent ((word - PERSISTENT_BASE) / 8) value }) word ge ∙ get_or-set_same m.persistent ((word - PERSISTENT_BASE) / 8) value 0 within)
]

same_place : (base q word other : ℕ) → base ≡ 8 * q → base ≤ word → base ≤ other → word % 8 ≡ 0 → other % 8 ≡ 0 → (other - base) / 8 ≡ (word - base) / 8 → other ≡ word
same_place base q word other eight from from' whole whole' same = omega arith

pub above_volatile : (x : Extents) (word : ℕ) → IsData x word → VOLATILE_BASE ≤ word
above_volatile x word (inl v) = v.0
above_volatile x word (inr p) = omega (arith, p.0)

pub put_other : (m : Memory) (word value other : ℕ) → IsWord (extents_of m) word → IsWord (extents_of m) other → (other ≡ word → ⊥) → word_in (with_word m word value) other ≡ word_in m other
put_other m word value other is is' ne = elim (cases_lt word PERSISTENT_BASE) [
  | inl lt ↦ elim (cases_lt other PERSISTENT_BASE) [
    | inl lt' ↦
        let apart : (other - VOLATILE_BASE) / 8 ≢ (word - VOLATILE_BASE) / 8 = λ same. ne (same_place VOLATILE_BASE 67108864 word other (omega arith) (above_volatile (extents_of m) word is.1) (above_volatile (extents_of m) other is'.1) is.0 is'.0 same) in
        rw (low_put m word value lt) (low_word (record { volatile = slice_set m.volatile ((word - VOLATILE_BASE) / 8) value; persistent = m.persistent }) other lt' ∙ get_or-set_other m.volatile ((word - VOLATILE_BASE) / 8) ((other - VOLATILE_BASE) / 8) value 0 apart ∙ sym (low_word m other lt'))
    | inr ge' ↦ rw (low_put m word value lt) (high_word (record { volatile = slice_set m.volatile ((word - VOLATILE_BASE) / 8) value; persistent = m.persistent }) other ge' ∙ sym (high_word m other ge'))
  ]
  | inr ge ↦ elim (cases_lt other PERSISTENT_BASE) [
    | inl lt' ↦ rw (high_put m word value ge) (low_word (record { volatile = m.volatile; persistent = slice_set m.persistent ((word - PERSISTENT_BASE) / 8) value }) other lt' ∙ sym (low_word m other lt'))
    | inr ge' ↦
        let apart : (other - PERSISTENT_BASE) / 8 ≢ (word - PERSISTENT_BASE) / 8 = λ same. ne (same_place PERSISTENT_BASE 134217728 word other (omega arith) ge ge' is.0 is'.0 same) in
        rw (high_put m word value ge) (high_word (record { volatile = m.volatile; persistent = slice_set m.persistent ((word - PERSISTENT_BASE) / 8) value }) other ge' ∙ get_or-set_other m.persistent ((word - PERSISTENT_BASE) / 8) ((other - PERSISTENT_BASE) / 8) value 0 apart ∙ sym (high_word m other ge'))
  ]
]

-- the words of a line put back
module _ (line : ℕ) (words : List ℕ) where
  pub line_extents : (m : Memory) (k : ℕ) → extents_of (put_below m line words k) ≡ extents_of m
  line_extents m zero = refl
  line_extents m (suc k) = elim (cases_Bool (is_data (extents_of m) (line_word line k))) [
    | inl yes_ ↦ rw yes_ (put_extents (put_below m line words k) (line_word line k) (slice_index words k) ∙ line_extents m k)
    | inr no_ ↦ rw no_ (line_extents m k)
  ]

  put_yes : (m : Memory) (k : ℕ) → is_data (extents_of m) (line_word line k) ≡ true → put_below m line words (suc k) ≡ with_word (put_below m line words k) (line_word line k) (slice_index words k)
  put_yes m k yes_ = rw yes_ refl

  put_no : (m : Memory) (k : ℕ) → is_data (extents_of m) (line_word line k) ≡ false → put_below m line words (suc k) ≡ put_below m line words k
  put_no m k no_ = rw no_ refl

  still_apart : (m : Memory) (k : ℕ) → IsApart m → IsApart (put_below m line words k)
  still_apart m k few = record { apart = omega (arith, few.apart, ap (λ x. x.volatile) (line_extents m k)); small = omega (arith, few.small, ap (λ x. x.persistent) (line_extents m k)) }

  step_word : (m : Memory) (k : ℕ) → is_data (extents_of m) (line_word line k) ≡ true → IsWord (extents_of (put_below m line words k)) (line_word line k)
  step_word m k yes_ = let is : IsWord (extents_of m) (line_word line k) = (omega arith, data_from (extents_of m) (line_word line k) yes_) in subst (λ x. IsWord x (line_word line k)) (sym (line_extents m k)) is

  kept_word : (m : Memory) (k word : ℕ) → IsWord (extents_of m) word → IsWord (extents_of (put_below m line words k)) word
  kept_word m k word is = subst (λ x. IsWord x word) (sym (line_extents m k)) is

  -- a word that is not among the first of the line is as before
  put_elsewhere : (m : Memory) (k word : ℕ) → IsWord (extents_of m) word → ((j : ℕ) → j < k → word ≡ line_word line j → ⊥) → word_in (put_below m line words k) word ≡ word_in m word
  put_elsewhere m zero word is ne = refl
  put_elsewhere m (suc k) word is ne =
      let rest = put_elsewhere m k word is (λ j lt. ne j (omega arith)) in
      elim (cases_Bool (is_data (extents_of m) (line_word line k))) [
        | inl yes_ ↦ ap (λ a. word_in a word) (put_yes m k yes_) ∙ put_other (put_below m line words k) (line_word line k) (slice_index words k) word (step_word m k yes_) (kept_word m k word is) (ne k (omega arith)) ∙ rest
        | inr no_ ↦ ap (λ a. word_in a word) (put_no m k no_) ∙ rest
      ]

  put_here : (m : Memory) (k j : ℕ) → IsApart m → j < k → IsWord (extents_of m) (line_word line j) → word_in (put_below m line words k) (line_word line j) ≡ slice_index words j
  put_here m zero j few lt is = absurd (omega arith)
  put_here m (suc k) j few lt is = elim (cases_Bool (is_data (extents_of m) (line_word line k))) [
    | inl yes_ ↦ elim (cases_eq j k) [
      | inl same ↦ ap (λ a. word_in a (line_word line j)) (put_yes m k yes_) ∙ ap (λ i. word_in (with_word (put_below m line words k) (line_word line k) (slice_index words k)) (line_word line i)) same ∙
          put_same (put_below m line words k) (line_word line k) (slice_index words k) (still_apart m k few) (step_word m k yes_) ∙ ap (slice_index words) (sym same)
      | inr ne ↦
          let apart : line_word line j ≡ line_word line k → ⊥ = λ e. ne (omega arith) in
          let below : j < k = grind arith in
          ap (λ a. word_in a (line_word line j)) (put_yes m k yes_) ∙ put_other (put_below m line words k) (line_word line k) (slice_index words k) (line_word line j) (step_word m k yes_) (kept_word m k (line_word line j) is) apart ∙ put_here m k j few below is
    ]
    | inr no_ ↦
        let ne : j ≡ k → ⊥ = λ e. false≢true (sym no_ ∙ ap (λ i. is_data (extents_of m) (line_word line i)) (sym e) ∙ data_test (extents_of m) (line_word line j) is.1) in
        let below : j < k = grind arith in
        ap (λ a. word_in a (line_word line j)) (put_no m k no_) ∙ put_here m k j few below is
  ]

  pub line_kept : (m : Memory) → extents_of (with_line m line words) ≡ extents_of m
  unfolding with_line
  line_kept m = line_extents m 8

  pub line_other : (m : Memory) (word : ℕ) → IsWord (extents_of m) word → (cache_line_of word ≡ line → ⊥) → word_in (with_line m line words) word ≡ word_in m word
  unfolding with_line
  line_other m word is ne = put_elsewhere m 8 word is (λ j lt e. ne (omega arith))

  pub line_here : (m : Memory) (word : ℕ) → IsApart m → IsWord (extents_of m) word → cache_line_of word ≡ line → word_in (with_line m line words) word ≡ slice_index words (line_place word)
  unfolding with_line
  line_here m word few is of_line =
      let place : line_place word < 8 = omega arith in
      let whole : word % 8 ≡ 0 = is.0 in
      let at : line_word line (line_place word) ≡ word = omega arith in
      let here : IsWord (extents_of m) (line_word line (line_place word)) = rw at is in
      ap (word_in (with_line m line words)) (sym at) ∙ put_here m 8 (line_place word) few place here

pub or_zero_is : (m : Memory) (word : ℕ) → IsWord (extents_of m) word → word_or_zero m word ≡ word_in m word
unfolding word_or_zero
or_zero_is m word is = rw (data_test (extents_of m) word is.1) refl

-- a word of a small memory lies in a line with a small number
pub low_line : (m : Memory) (word : ℕ) → IsApart m → IsWord (extents_of m) word → cache_line_of word < 2 ^ 32
low_line m word few is = elim is.1 [ inl v ↦ omega (arith, few.apart, v.1) | inr p ↦ omega (arith, few.small, p.1) ]
