-- Serves clauses value and memory of Hierarchy::access, by access of its rows.
-- The steps of an access keep the copies and the backing words standing for the flat memory.
use Rattle.std.proofs.Common.{◌≡◌, ℕ, zero, suc, ◌-◌, ◌<◌, ◌≤◌, ◌⊎◌, true, false, ◌&&◌, inl, inr, List, ◌∷◌, length, take, Some, None, refl, sym, ap, ◌∙◌, subst, arith}
use Rattle.std.proofs.lemmas.List.{length-map, length-take}
use Rattle.std.proofs.lemmas.Option.{none-some, same_Some}
use Rattle.std.specs.Prelude.{not, map, ◌==◌, ◌%◌, ◌^◌, ◌≢◌, Option, slice_get, slice_index}
use Rattle.std.proofs.lemmas.Bool.{cases_Bool, cases_eq, false≢true, and_parts, and_from, eqb-true, eq-eqb, ne_eqb, not-true, not_from_false, false_from_ne_true}
use Rattle.strand_exec.specs.Core.{Extents}
use Rattle.strand_exec.specs.Memory.{Memory, extents_of, word_in}
use Rattle.strand_exec.specs.Plan.{IsWord}
use Rattle.strand_cache.specs.declared.held_line.HeldLine.{HeldLine}
use Rattle.strand_cache.specs.Copies.{is_changed, cleaned, others, row_of}
use Rattle.strand_cache.specs.Backing.{with_line, IsApart}
use Rattle.strand_cache.specs.Accesses.{cache_line_of, line_place}
use Rattle.strand_cache.specs.Coherence.{Among, HoldsOnce, Coheres, put_back}
use Rattle.strand_cache.proofs.Memory.Words.{line_kept, line_here, line_other}
use Rattle.strand_cache.proofs.Memory.RowMembers.{among_map, map_among, among_filter, filter_among, length_filter, among_take, kept_or_last, get_among, once_map, once_filter, once_take}

-- a changed copy of a line
pub changed_parts : (line : ℕ) (held : HeldLine) → is_changed line held ≡ true → (held.changed ≡ true) × (line ≡ held.line)
changed_parts line held h = let parts = and_parts held.changed (line == held.line) h in (parts.0, eqb-true line held.line parts.1)

pub changed_from : (line : ℕ) (held : HeldLine) → held.changed ≡ true → line ≡ held.line → is_changed line held ≡ true
changed_from line held c e = and_from held.changed (line == held.line) c (eq-eqb line held.line e)

module _ (x : Extents) (sets ways set : ℕ) (rows rows' : List (List HeldLine)) (backing : Memory) (flat : ℕ → ℕ) (core line : ℕ) where
  -- the other cores' copies of a line are written back and left unchanged
  module _ (whole : Coheres x sets ways set rows backing flat) (same : extents_of backing ≡ x) (few : IsApart backing)
      (own : row_of rows' core ≡ row_of rows core) (clean : (c : ℕ) → c ≢ core → row_of rows' c ≡ map (cleaned line) (row_of rows c))
      (from : ℕ) (held : HeldLine) (among : Among held (row_of rows from)) (changed : is_changed line held ≡ true) where
    -- where a copy comes from
    came : (c : ℕ) (h : HeldLine) → Among h (row_of rows' c) → (h' : HeldLine) × Among h' (row_of rows c) × (h.line ≡ h'.line) × (h.words ≡ h'.words) × (h.changed ≡ true → h'.changed ≡ true)
    came c h a = elim (cases_eq c core) [
      | inl is ↦ (h, subst (Among h) (ap (row_of rows') is ∙ own ∙ ap (row_of rows) (sym is)) a, refl, refl, λ e. e)
      | inr ne ↦
          let found = among_map (cleaned line) (row_of rows c) h (subst (Among h) (clean c ne) a) in
          (found.0, found.1, ap (λ k. k.line) found.2, ap (λ k. k.words) found.2, λ e. let parts = and_parts found.0.changed (not (line == found.0.line)) (ap (λ k. k.changed) (sym found.2) ∙ e) in parts.0)
    ]

    -- a changed copy of another line is still there
    still : (other c : ℕ) (h : HeldLine) → (other ≡ line → ⊥) → Among h (row_of rows c) → is_changed other h ≡ true → (h' : HeldLine) × Among h' (row_of rows' c) × (is_changed other h' ≡ true)
    still other c h ne a e = elim (cases_eq c core) [
      | inl is ↦ (h, subst (Among h) (ap (row_of rows) is ∙ sym own ∙ ap (row_of rows') (sym is)) a, e)
      | inr apart ↦
          let parts = changed_parts other h e in
          let kept : h.changed && not (line == h.line) ≡ true = and_from h.changed (not (line == h.line)) parts.0 (not_from_false (line == h.line) (ne_eqb line h.line (λ e. ne (parts.1 ∙ sym e)))) in
          (cleaned line h, subst (Among (cleaned line h)) (sym (clean c apart)) (map_among (cleaned line) (row_of rows c) h a), changed_from other (cleaned line h) kept parts.1)
    ]

    pub recalled : Coheres x sets ways set rows' (with_line backing line held.words) flat
    recalled = record {
      short = λ c. elim (cases_eq c core) [
        | inl is ↦ subst (λ row. length row ≤ ways) (ap (row_of rows) is ∙ sym own ∙ ap (row_of rows') (sym is)) (whole.short c)
        | inr ne ↦ subst (λ row. length row ≤ ways) (sym (clean c ne)) (omega (arith, length-map (row_of rows c) (cleaned line), whole.short c))
      ];
      placed = λ c h a. let f = came c h a in let p = whole.placed c f.0 f.1 in (ap (λ l. l % sets) f.2 ∙ p.0, omega (arith, p.1, f.2));
      once = λ c. elim (cases_eq c core) [
        | inl is ↦ subst HoldsOnce (ap (row_of rows) is ∙ sym own ∙ ap (row_of rows') (sym is)) (whole.once c)
        | inr ne ↦ subst HoldsOnce (sym (clean c ne)) (once_map (cleaned line) (row_of rows c) (λ h. refl) (whole.once c))
      ];
      sole = λ c d h k a b e l. let f = came c h a in let g = came d k b in whole.sole c d f.0 g.0 f.1 g.1 (f.4 e) (sym g.2 ∙ l ∙ f.2);
      agree = λ c h a word is of_line. let f = came c h a in ap (λ ws. slice_index ws (line_place word)) f.3 ∙ whole.agree c f.0 f.1 word is (of_line ∙ f.2);
      free = λ word is of_set none.
          let is' : IsWord (extents_of backing) word = subst (λ e. IsWord e word) (sym same) is in
          elim (cases_eq (cache_line_of word) line) [
            | inl here ↦ let parts = changed_parts line held changed in line_here line held.words backing word few is' here ∙ whole.agree from held among word is (here ∙ parts.1)
            | inr ne ↦ line_other line held.words backing word is' ne ∙ whole.free word is of_set (λ c h a. false_from_ne_true (is_changed (cache_line_of word) h) (λ e. let f = still (cache_line_of word) c h ne a e in false≢true (sym (none c f.0 f.1) ∙ f.2)))
          ];
    }

  -- the other cores lose a line of which they have no changed copy
  module _ (whole : Coheres x sets ways set rows backing flat) (own : row_of rows' core ≡ row_of rows core) (lost : (c : ℕ) → c ≢ core → row_of rows' c ≡ others line (row_of rows c))
      (unchanged : (c : ℕ) (h : HeldLine) → c ≢ core → Among h (row_of rows c) → is_changed line h ≡ false) where
    stayed : (c : ℕ) (h : HeldLine) → Among h (row_of rows' c) → Among h (row_of rows c)
    stayed c h a = elim (cases_eq c core) [
      | inl is ↦ subst (Among h) (ap (row_of rows') is ∙ own ∙ ap (row_of rows) (sym is)) a
      | inr ne ↦ let found = among_filter (λ k. not (line == k.line)) (row_of rows c) h (subst (Among h) (lost c ne) a) in found.0
    ]

    -- a copy of another line is still there
    left : (other c : ℕ) (h : HeldLine) → (other ≡ line → ⊥) → Among h (row_of rows c) → is_changed other h ≡ true → Among h (row_of rows' c)
    left other c h ne a e = elim (cases_eq c core) [
      | inl is ↦ subst (Among h) (ap (row_of rows) is ∙ sym own ∙ ap (row_of rows') (sym is)) a
      | inr apart ↦
          let parts = changed_parts other h e in
          subst (Among h) (sym (lost c apart)) (filter_among (λ k. not (line == k.line)) (row_of rows c) h a (not_from_false (line == h.line) (ne_eqb line h.line (λ e. ne (parts.1 ∙ sym e)))))
    ]

    pub dropped : Coheres x sets ways set rows' backing flat
    dropped = record {
      short = λ c. elim (cases_eq c core) [
        | inl is ↦ subst (λ row. length row ≤ ways) (ap (row_of rows) is ∙ sym own ∙ ap (row_of rows') (sym is)) (whole.short c)
        | inr ne ↦ subst (λ row. length row ≤ ways) (sym (lost c ne)) (omega (arith, length_filter (λ k. not (line == k.line)) (row_of rows c), whole.short c))
      ];
      placed = λ c h a. whole.placed c h (stayed c h a);
      once = λ c. elim (cases_eq c core) [
        | inl is ↦ subst HoldsOnce (ap (row_of rows) is ∙ sym own ∙ ap (row_of rows') (sym is)) (whole.once c)
        | inr ne ↦ subst HoldsOnce (sym (lost c ne)) (once_filter (λ k. not (line == k.line)) (row_of rows c) (whole.once c))
      ];
      sole = λ c d h k a b e l. whole.sole c d h k (stayed c h a) (stayed d k b) e l;
      agree = λ c h a word is of_line. whole.agree c h (stayed c h a) word is of_line;
      free = λ word is of_set none. whole.free word is of_set (λ c h a. false_from_ne_true (is_changed (cache_line_of word) h) (λ e.
          elim (cases_eq (cache_line_of word) line) [
            | inl here ↦ elim (cases_eq c core) [
              | inl is ↦ false≢true (sym (none c h (subst (Among h) (ap (row_of rows) is ∙ sym own ∙ ap (row_of rows') (sym is)) a)) ∙ e)
              | inr apart ↦ false≢true (sym (unchanged c h apart a) ∙ ap (λ l. is_changed l h) (sym here) ∙ e)
            ]
            | inr ne ↦ false≢true (sym (none c h (left (cache_line_of word) c h ne a e)) ∙ e)
          ]));
    }

pub put_back_yes : (held : HeldLine) (memory : Memory) → held.changed ≡ true → put_back (Some held) memory ≡ with_line memory held.line held.words
put_back_yes held memory e = rw e refl

pub put_back_no : (held : HeldLine) (memory : Memory) → held.changed ≡ false → put_back (Some held) memory ≡ memory
put_back_no held memory e = rw e refl

pub put_back_extents : (o : Option HeldLine) (memory : Memory) → extents_of (put_back o memory) ≡ extents_of memory
put_back_extents None memory = refl
put_back_extents (Some held) memory = elim (cases_Bool held.changed) [
  | inl yes_ ↦ ap extents_of (put_back_yes held memory yes_) ∙ line_kept held.line held.words memory
  | inr no_ ↦ ap extents_of (put_back_no held memory no_)
]

-- a word of another line is as before
pub put_back_other : (o : Option HeldLine) (memory : Memory) (word : ℕ) → IsWord (extents_of memory) word → ((held : HeldLine) → o ≡ Some held → cache_line_of word ≡ held.line → ⊥) → word_in (put_back o memory) word ≡ word_in memory word
put_back_other None memory word is ne = refl
put_back_other (Some held) memory word is ne = elim (cases_Bool held.changed) [
  | inl yes_ ↦ ap (λ m. word_in m word) (put_back_yes held memory yes_) ∙ line_other held.line held.words memory word is (ne held refl)
  | inr no_ ↦ ap (λ m. word_in m word) (put_back_no held memory no_)
]

-- a word that the pushed out line has not changed is as before
unchanged_back : (gone : HeldLine) (memory : Memory) (word : ℕ) → IsWord (extents_of memory) word → is_changed (cache_line_of word) gone ≡ false → word_in (put_back (Some gone) memory) word ≡ word_in memory word
unchanged_back gone memory word is no_ = elim (cases_Bool gone.changed) [
  | inl yes_ ↦ ap (λ m. word_in m word) (put_back_yes gone memory yes_) ∙ line_other gone.line gone.words memory word is (λ e. false≢true (sym no_ ∙ changed_from (cache_line_of word) gone yes_ e))
  | inr calm ↦ ap (λ m. word_in m word) (put_back_no gone memory calm)
]

-- the core puts its copy of the line in front of its row, and the last line past `ways` is written back
module _ (x : Extents) (sets ways set : ℕ) (rows rows' : List (List HeldLine)) (backing : Memory) (flat flat' : ℕ → ℕ) (core line : ℕ) (copy : HeldLine)
    (whole : Coheres x sets ways set rows backing flat) (some : 0 < ways) (same : extents_of backing ≡ x) (few : IsApart backing)
    (kept : (c : ℕ) → c ≢ core → row_of rows' c ≡ row_of rows c) (own : row_of rows' core ≡ take ways (copy ∷ others line (row_of rows core)))
    (of_line : copy.line ≡ line) (of_set : line % sets ≡ set) (low : line < 2 ^ 32)
    (here : (word : ℕ) → IsWord x word → cache_line_of word ≡ line → slice_index copy.words (line_place word) ≡ flat' word)
    (there : (word : ℕ) → IsWord x word → (cache_line_of word ≡ line → ⊥) → flat' word ≡ flat word)
    (elsewhere : (c : ℕ) (h : HeldLine) → c ≢ core → Among h (row_of rows c) → h.line ≡ line → (word : ℕ) → IsWord x word → cache_line_of word ≡ line → slice_index h.words (line_place word) ≡ flat' word)
    (clean : copy.changed ≡ false → (word : ℕ) → IsWord x word → cache_line_of word ≡ line → word_in backing word ≡ flat' word)
    (unchanged : (c : ℕ) (h : HeldLine) → c ≢ core → Among h (row_of rows c) → is_changed line h ≡ false)
    (alone : copy.changed ≡ true → (c : ℕ) (h : HeldLine) → c ≢ core → Among h (row_of rows c) → h.line ≡ line → ⊥) where
  -- the core's other lines of the set
  abbrev rest : List HeldLine
  rest = others line (row_of rows core)

  abbrev last : Option HeldLine
  last = slice_get rest (ways - 1)

  own_row : row_of rows' core ≡ copy ∷ take (ways - 1) rest
  own_row = own ∙ go ways some
    where
      go : (w : ℕ) → 0 < w → take w (copy ∷ rest) ≡ copy ∷ take (w - 1) rest
      go zero lt = absurd (omega arith)
      go (suc w) lt = let e : suc w - 1 ≡ w = omega arith in rw e refl

  in_rest : (h : HeldLine) → Among h rest → Among h (row_of rows core) × (h.line ≡ line → ⊥)
  in_rest h a =
      let found = among_filter (λ k. not (line == k.line)) (row_of rows core) h a in
      (found.0, λ e. false≢true (sym (not-true (line == h.line) found.1) ∙ eq-eqb line h.line (sym e)))

  -- a copy in the core's row is the new one or one of the old rest
  in_own : (h : HeldLine) → Among h (row_of rows' core) → (h ≡ copy) ⊎ Among h rest
  in_own h a =
      let a' : (h ≡ copy) ⊎ Among h (take (ways - 1) rest) = subst (Among h) own_row a in
      elim a' [ inl e ↦ inl e | inr later ↦ inr (among_take (ways - 1) rest h later) ]

  -- a copy after the step is the new one, or an old one that is not the core's copy of the line
  pub from_old : (c : ℕ) (h : HeldLine) → Among h (row_of rows' c) → ((c ≡ core) × (h ≡ copy)) ⊎ (Among h (row_of rows c) × (c ≡ core → h.line ≡ line → ⊥))
  from_old c h a = elim (cases_eq c core) [
    | inl is ↦ elim (in_own h (subst (Among h) (ap (row_of rows') is) a)) [
      | inl e ↦ inl (is, e)
      | inr r ↦ let found = in_rest h r in inr (subst (Among h) (ap (row_of rows) (sym is)) found.0, λ e. found.1)
    ]
    | inr ne ↦ inr (subst (Among h) (kept c ne) a, λ e. absurd (ne e))
  ]

  among_new : Among copy (row_of rows' core)
  among_new = subst (Among copy) (sym own_row) (inl refl)

  -- a changed copy of another line is still there, unless it was pushed out
  still_there : (other c : ℕ) (h : HeldLine) → (other ≡ line → ⊥) → Among h (row_of rows c) → is_changed other h ≡ true → Among h (row_of rows' c) ⊎ (last ≡ Some h)
  still_there other c h ne a e = elim (cases_eq c core) [
    | inr apart ↦ inl (subst (Among h) (sym (kept c apart)) a)
    | inl is ↦
        let parts = changed_parts other h e in
        let r : Among h rest = filter_among (λ k. not (line == k.line)) (row_of rows core) h (subst (Among h) (ap (row_of rows) is) a) (not_from_false (line == h.line) (ne_eqb line h.line (λ e. ne (parts.1 ∙ sym e)))) in
        let fits : length rest ≤ suc (ways - 1) = omega (arith, length_filter (λ k. not (line == k.line)) (row_of rows core), whole.short core) in
        elim (kept_or_last (ways - 1) rest h fits r) [
          | inl k ↦ inl (subst (Among h) (sym own_row ∙ ap (row_of rows') (sym is)) (inr k))
          | inr l ↦ inr l
        ]
  ]

  -- the backing words of another line that is unchanged after the step
  free_other : (word : ℕ) → IsWord x word → cache_line_of word % sets ≡ set → (cache_line_of word ≡ line → ⊥) → ((c : ℕ) (h : HeldLine) → Among h (row_of rows' c) → is_changed (cache_line_of word) h ≡ false) →
      (o : Option HeldLine) → last ≡ o → word_in (put_back o backing) word ≡ flat word
  free_other word is of ne none None e =
      whole.free word is of (λ c h a. false_from_ne_true (is_changed (cache_line_of word) h) (λ y. elim (still_there (cache_line_of word) c h ne a y) [
        | inl k ↦ false≢true (sym (none c h k) ∙ y)
        | inr l ↦ none-some h (sym e ∙ l)
      ]))
  free_other word is of ne none (Some gone) e =
      let is' : IsWord (extents_of backing) word = subst (λ e. IsWord e word) (sym same) is in
      elim (cases_Bool (is_changed (cache_line_of word) gone)) [
        | inl yes_ ↦
            let parts = changed_parts (cache_line_of word) gone yes_ in
            let a = in_rest gone (get_among (ways - 1) rest gone e) in
            ap (λ m. word_in m word) (put_back_yes gone backing parts.0) ∙ line_here gone.line gone.words backing word few is' parts.1 ∙ whole.agree core gone a.0 word is parts.1
        | inr no_ ↦
            unchanged_back gone backing word is' no_ ∙
            whole.free word is of (λ c h a. false_from_ne_true (is_changed (cache_line_of word) h) (λ y. elim (still_there (cache_line_of word) c h ne a y) [
              | inl k ↦ false≢true (sym (none c h k) ∙ y)
              | inr l ↦ false≢true (sym no_ ∙ ap (is_changed (cache_line_of word)) (same_Some gone h (sym e ∙ l)) ∙ y)
            ]))
      ]

  pub accessed : Coheres x sets ways set rows' (put_back last backing) flat'
  accessed = record {
    short = λ c. elim (cases_eq c core) [
      | inl is ↦ subst (λ row. length row ≤ ways) (sym own ∙ ap (row_of rows') (sym is)) (omega (arith, length-take ways (copy ∷ rest)))
      | inr ne ↦ subst (λ row. length row ≤ ways) (sym (kept c ne)) (whole.short c)
    ];
    placed = λ c h a. elim (from_old c h a) [
      | inl new ↦ (ap (λ k. k.line % sets) new.1 ∙ ap (λ l. l % sets) of_line ∙ of_set, omega (arith, low, of_line, ap (λ k. k.line) new.1))
      | inr old ↦ whole.placed c h old.0
    ];
    once = λ c. elim (cases_eq c core) [
      | inl is ↦ subst HoldsOnce (sym own_row ∙ ap (row_of rows') (sym is)) ((λ h a e. let r = in_rest h (among_take (ways - 1) rest h a) in r.1 (e ∙ of_line)), once_take (ways - 1) rest (once_filter (λ k. not (line == k.line)) (row_of rows core) (whole.once core)))
      | inr ne ↦ subst HoldsOnce (sym (kept c ne)) (whole.once c)
    ];
    sole = λ c d h k a b e l. elim (from_old c h a) [
      | inl new ↦ elim (from_old d k b) [
        | inl new' ↦ new.0 ∙ sym new'.0
        | inr old' ↦ elim (cases_eq d core) [
          | inl is ↦ new.0 ∙ sym is
          | inr ne ↦ absurd (alone (ap (λ k. k.changed) (sym new.1) ∙ e) d k ne old'.0 (l ∙ ap (λ k. k.line) new.1 ∙ of_line))
        ]
      ]
      | inr old ↦ elim (from_old d k b) [
        | inl new' ↦ elim (cases_eq c core) [
          | inl is ↦ is ∙ sym new'.0
          | inr ne ↦ absurd (false≢true (sym (unchanged c h ne old.0) ∙ changed_from line h e (sym of_line ∙ ap (λ k. k.line) (sym new'.1) ∙ l)))
        ]
        | inr old' ↦ whole.sole c d h k old.0 old'.0 e l
      ]
    ];
    agree = λ c h a word is at. elim (from_old c h a) [
      | inl new ↦ ap (λ k. slice_index k.words (line_place word)) new.1 ∙ here word is (at ∙ ap (λ k. k.line) new.1 ∙ of_line)
      | inr old ↦ elim (cases_eq h.line line) [
        | inl yes_ ↦ elim (cases_eq c core) [ inl e ↦ absurd (old.1 e yes_) | inr ne ↦ elsewhere c h ne old.0 yes_ word is (at ∙ yes_) ]
        | inr no_ ↦ whole.agree c h old.0 word is at ∙ sym (there word is (λ e. no_ (sym at ∙ e)))
      ]
    ];
    free = λ word is of none. elim (cases_eq (cache_line_of word) line) [
      | inl yes_ ↦
          let is' : IsWord (extents_of backing) word = subst (λ e. IsWord e word) (sym same) is in
          let calm : copy.changed ≡ false = false_from_ne_true copy.changed (λ e. false≢true (sym (none core copy among_new) ∙ changed_from (cache_line_of word) copy e (yes_ ∙ sym of_line))) in
          put_back_other last backing word is' (λ h s l. let r = in_rest h (get_among (ways - 1) rest h s) in r.1 (sym l ∙ yes_)) ∙ clean calm word is yes_
      | inr no_ ↦ free_other word is of no_ none last refl ∙ sym (there word is no_)
    ];
  }
