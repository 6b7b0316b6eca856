-- Serves clause slot of StrandBuffers::eligible, by eligible_at, and the links that a ring keeps.
-- What links give: whether an earlier entry that waits has an entry's word, and lists that they stay right for.
use Rattle.std.proofs.Common.{◌≡◌, ℕ, zero, suc, ◌+◌, ◌-◌, ◌<◌, ◌≤◌, Bool, false, ◌||◌, inl, inr, List, [], ◌∷◌, ◌++◌, length, drop, refl, sym, ap, subst, ◌∙◌, arith}
use Rattle.std.specs.Prelude.{if◌then◌else◌, nat_le, slice_index, slice_index_or, slice_set}
use Rattle.std.proofs.lemmas.Bool.{cases_eq, cases_Bool, cases_lt, eq-eqb, ne_eqb, le-leb, lt-leb}
use Rattle.std.proofs.lemmas.List.{length-append, length-drop, get_or_append_left, get_or_push, get_or-drop, get_or-set_same, get_or-set_other}
use Rattle.strand_base.specs.Counting.{any_below}
use Rattle.strand_base.proofs.BelowBound.{get_more, get_last, at_or_below}
use Rattle.strand_buffer.specs.declared.entry.Entry.{Entry}
use Rattle.strand_buffer.specs.Entries.{is_buffered, entry_is, word_at, word_in, waits_with, word_waits}
use Rattle.strand_buffer.specs.Links.{IsLink, AreLinked}
use Rattle.strand_buffer.proofs.EntryStages.{get_drop}

-- an entry at or before place h waits, and has entry h's word
abbrev pub waits_up_to : List Entry → ℕ → Bool
waits_up_to entries h = any_below (suc h) (waits_with entries (word_at entries h))

-- none that passes stands behind a bound
any_flat : (i j : ℕ) (f : ℕ → Bool) → i ≤ j → ((k : ℕ) → i ≤ k → k < j → f k ≡ false) → any_below j f ≡ any_below i f
any_flat i zero f le none = let e : i ≡ 0 = omega arith in rw e refl
any_flat i (suc j) f le none =
    elim (cases_eq i (suc j)) [
      | inl e ↦ rw e refl
      | inr ne ↦ let below : i ≤ j = grind arith in rw (none j below (omega arith)) (any_flat i j f below (λ k a b. none k a (omega arith)))
    ]

none_apart : (entries : List Entry) (h word : ℕ) → (word_at entries h ≡ word → ⊥) → waits_with entries word h ≡ false
none_apart entries h word ne = rw (ne_eqb (word_at entries h) word ne) (elim (cases_Bool (entry_is is_buffered entries h)) [ inl yes_ ↦ rw yes_ refl | inr no_ ↦ rw no_ refl ])

module _ (entries : List Entry) (i distance : ℕ) (link : IsLink entries i (word_at entries i) distance) (waits : List Bool)
    (known : (h : ℕ) → h < i → slice_index_or waits h false ≡ waits_up_to entries h) where
  word : ℕ
  word = word_at entries i

  found : distance ≤ i → slice_index_or waits (i - distance) false ≡ word_waits entries i
  found le =
      let h : ℕ = i - distance in
      let some = link.some in
      let before : h < i = omega (arith, some, le) in
      let same : word_at entries h ≡ word_at entries i = link.alike le in
      known h before
      ∙ ap (λ w. any_below (suc h) (waits_with entries w)) same
      ∙ sym (any_flat (suc h) i (waits_with entries (word_at entries i)) (omega (arith, before)) (λ k after below. none_apart entries k (word_at entries i) (link.apart k below (omega (arith, after, le)))))

  none : i < distance → false ≡ word_waits entries i
  none lt = sym (any_flat 0 i (waits_with entries (word_at entries i)) (omega arith) (λ k after below. none_apart entries k (word_at entries i) (link.apart k below (omega (arith, lt)))))

  -- whether an earlier one waits, by what was found of the one that the link leads to
  pub waits_linked : (if nat_le distance i then slice_index_or waits (i - distance) false else false) ≡ word_waits entries i
  waits_linked = elim (cases_lt i distance) [
    | inl lt ↦ rw (lt-leb distance i lt) (none lt)
    | inr le ↦ rw (le-leb distance i le) (found le)
  ]

-- the entry itself comes to those before it
pub waits_more : (entries : List Entry) (i : ℕ) → (entry_is is_buffered entries i || word_waits entries i) ≡ waits_up_to entries i
waits_more entries i = rw (eq-eqb (word_at entries i) (word_at entries i) refl) (elim (cases_Bool (entry_is is_buffered entries i)) [ inl yes_ ↦ rw yes_ refl | inr no_ ↦ rw no_ refl ])

-- other entries of the same words
pub linked_alike : (entries entries' : List Entry) (links : List ℕ) → length entries' ≡ length entries → ((i : ℕ) → word_at entries' i ≡ word_at entries i) → AreLinked entries links → AreLinked entries' links
linked_alike entries entries' links count same linked = record {
  count = linked.count ∙ sym count;
  each = λ i lt.
      let link = linked.each i (omega (arith, lt, count)) in
      record {
        some = link.some;
        apart = λ h below near e. link.apart h below near (sym (same h) ∙ e ∙ same i);
        alike = λ le. same (i - slice_index links i) ∙ link.alike le ∙ sym (same i);
      };
}

-- a link of the same words
link_alike : (entries entries' : List Entry) (i word word' distance : ℕ) → ((h : ℕ) → h < i → word_at entries' h ≡ word_at entries h) → word' ≡ word → IsLink entries i word distance → IsLink entries' i word' distance
link_alike entries entries' i word word' distance same is link = record {
  some = link.some;
  apart = λ h below near e. link.apart h below near (sym (same h below) ∙ e ∙ is);
  alike = λ le. let some = link.some in same (i - distance) (omega (arith, some, le)) ∙ link.alike le ∙ sym is;
}

-- one entry more
pub linked_more : (entries : List Entry) (links : List ℕ) (e : Entry) (distance : ℕ) → AreLinked entries links → IsLink entries (length entries) e.word distance → AreLinked (entries ++ e ∷ []) (links ++ distance ∷ [])
linked_more entries links e distance linked link = record {
  count = omega (arith, length-append entries (e ∷ []), length-append links (distance ∷ []), linked.count);
  each = λ i lt. elim (cases_eq i (length entries)) [
    | inl end ↦
        let at : slice_index (links ++ distance ∷ []) i ≡ distance = get_or_push links distance 0 i (linked.count ∙ sym end) in
        let own : word_at (entries ++ e ∷ []) i ≡ e.word = ap (word_at (entries ++ e ∷ [])) end ∙ ap word_in (get_last entries e) in
        subst (λ d. IsLink (entries ++ e ∷ []) i (word_at (entries ++ e ∷ []) i) d) (sym at)
        (link_alike entries (entries ++ e ∷ []) i e.word (word_at (entries ++ e ∷ []) i) distance (λ h below. ap word_in (get_more entries e h (omega (arith, below, end)))) own (subst (λ n. IsLink entries n e.word distance) (sym end) link))
    | inr ne ↦
        let below : i < length entries = at_or_below (omega (arith, lt, length-append entries (e ∷ []))) ne in
        let at : slice_index (links ++ distance ∷ []) i ≡ slice_index links i = get_or_append_left links (distance ∷ []) 0 i (omega (arith, below, linked.count)) in
        subst (λ d. IsLink (entries ++ e ∷ []) i (word_at (entries ++ e ∷ []) i) d) (sym at)
        (link_alike entries (entries ++ e ∷ []) i (word_at entries i) (word_at (entries ++ e ∷ []) i) (slice_index links i) (λ h lower. ap word_in (get_more entries e h (omega (arith, lower, below)))) (ap word_in (get_more entries e i below)) (linked.each i below))
  ];
}

-- the entries without some at the front
pub linked_drop : (k : ℕ) (entries : List Entry) (links : List ℕ) → k ≤ length entries → AreLinked entries links → AreLinked (drop k entries) (drop k links)
linked_drop k entries links le linked = record {
  count = omega (arith, length-drop k entries, length-drop k links, linked.count);
  each = λ i lt.
      let within : k + i < length entries = omega (arith, lt, length-drop k entries, le) in
      let link = linked.each (k + i) within in
      let word : (h : ℕ) → word_at (drop k entries) h ≡ word_at entries (k + h) = λ h. ap word_in (get_drop k h entries) in
      let at : slice_index (drop k links) i ≡ slice_index links (k + i) = get_or-drop k links i 0 in
      subst (λ d. IsLink (drop k entries) i (word_at (drop k entries) i) d) (sym at) (record {
        some = link.some;
        apart = λ h below near e. link.apart (k + h) (omega (arith, below)) (omega (arith, near)) (sym (word h) ∙ e ∙ word i);
        alike = λ back.
            let there : k + (i - slice_index links (k + i)) ≡ k + i - slice_index links (k + i) = omega (arith, back) in
            word (i - slice_index links (k + i)) ∙ ap (word_at entries) there ∙ link.alike (omega (arith, back)) ∙ sym (word i);
      });
}

-- what was found of the entries passed, with one entry more
pub known_more : (entries : List Entry) (waits : List Bool) (i : ℕ) (waiting : Bool) → i < length waits → waiting ≡ waits_up_to entries i
    → ((h : ℕ) → h < i → slice_index_or waits h false ≡ waits_up_to entries h) → (h : ℕ) → h < i + 1 → slice_index_or (slice_set waits i waiting) h false ≡ waits_up_to entries h
known_more entries waits i waiting within is known h lt = elim (cases_eq h i) [
  | inl same ↦ ap (λ k. slice_index_or (slice_set waits i waiting) k false) same ∙ get_or-set_same waits i waiting false within ∙ is ∙ ap (waits_up_to entries) (sym same)
  | inr ne ↦ get_or-set_other waits i h waiting false ne ∙ known h (let below : h < i = grind arith in below)
]
