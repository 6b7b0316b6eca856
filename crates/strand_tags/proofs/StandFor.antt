-- Serves clauses stands of Tags::new and note, and covers.
-- The tags with one access more answer for the list with it at its end.
use Rattle.std.proofs.Common.{◌≡◌, ℕ, ◌+◌, ◌*◌, ◌<◌, ◌≤◌, true, false, ◌&&◌, ◌||◌, inl, inr, List, [], ◌∷◌, ◌++◌, length, refl, sym, ap, subst, ◌∙◌, arith}
use Rattle.std.proofs.lemmas.Nat.{same_from_place, rows}
use Rattle.std.proofs.lemmas.List.{length-set, length-replicate, get_or-set_same, get_or-set_other, get_or-replicate, get_or_past}
use Rattle.std.specs.Prelude.{max, ◌-◌, ◌/◌, nat_lt, replicate, slice_index, slice_index_or, slice_set, not, ◌==◌, if◌then◌else◌}
use Rattle.std.proofs.lemmas.Bool.{cases_eq, cases_Bool, or_parts, or_cases, and_parts, both_ways, false≢true, cases_lt, eq-eqb, ne_eqb, lt-ltb, le-ltb}
use Rattle.strand_base.specs.declared.limits.TheConstants.{MOST_MEMORY, CORE_ROOM}
use Rattle.strand_base.specs.declared.regions.TheConstants.{VOLATILE_BASE, PERSISTENT_BASE}
use Rattle.strand_exec.specs.Core.{Extents}
use Rattle.strand_exec.specs.Plan.{IsWord}
use Rattle.strand_tags.specs.declared.count_vector.CountVector.{CountVector}
use Rattle.strand_tags.specs.declared.word_tag.WordTag.{WordTag}
use Rattle.strand_tags.specs.Access.{Access, Noted, opposes, wait_part, made_part, part, covered}
use Rattle.strand_tags.specs.Greater.{greater, no_counts, vector}
use Rattle.strand_tags.specs.WordTags.{no_tag, whole, without_strand, tag_after}
use Rattle.strand_tags.specs.TagsSeen.{TagsSeen, AreBehind, AreKept, CanAsk, StandFor, word_place, slot, tag_in, conflicting, made_elsewhere, made_opposing, wait_in, conflicting_wait, answer, with_access, with_wait, noted}
use Rattle.strand_tags.proofs.Vectors.{each_at}

pub covered_push : (c : ℕ) (b : Access) (ns : List Noted) (n : Noted) → covered c b (ns ++ n ∷ []) ≡ max (covered c b ns) (part c b n)
covered_push c b [] n = omega arith
covered_push c b (x ∷ ns) n = omega (arith, covered_push c b ns n)

-- whatever the strand, a tag's whole is the greatest of what was noted
pub whole_after : (m : WordTag) (s k : ℕ) → whole (tag_after m s k) ≡ max (whole m) k
whole_after m s k = elim (cases_eq m.strand s) [ inl e ↦ rw (eq-eqb m.strand s e) (omega arith) | inr ne ↦ rw (ne_eqb m.strand s ne) (omega arith) ]

-- an access of the strand itself adds nothing for its own strand
pub without_same : (m : WordTag) (s k : ℕ) → without_strand (tag_after m s k) s ≡ without_strand m s
without_same m s k = elim (cases_eq m.strand s) [ inl e ↦ rw (eq-eqb m.strand s e, eq-eqb m.strand s e) refl | inr ne ↦ rw (ne_eqb m.strand s ne, eq-eqb s s refl) refl ]

-- and it adds its count for a later one
pub without_later : (m : WordTag) (s k t : ℕ) → m.strand ≤ s → s < t → without_strand (tag_after m s k) t ≡ max (without_strand m t) k
without_later m s k t le lt =
    let apart : m.strand ≡ t → ⊥ = λ e. omega (arith, e) in
    elim (cases_eq m.strand s) [
      | inl e ↦ rw (eq-eqb m.strand s e, ne_eqb m.strand t apart) (omega arith)
      | inr ne ↦ let later : s ≡ t → ⊥ = λ e. omega (arith, e) in rw (ne_eqb m.strand s ne, ne_eqb s t later, ne_eqb m.strand t apart) (omega arith)
    ]

-- what a tag of core c has for access b, once an access of c was noted
elsewhere_after : (m : WordTag) (b : Access) (c s k : ℕ) → m.strand ≤ s → (c ≡ b.core → s ≤ b.strand)
    → made_elsewhere (tag_after m s k) b c ≡ max (made_elsewhere m b c) (if not ((c == b.core) && (s == b.strand)) then k else 0)
elsewhere_after m b c s k le order = elim (cases_eq c b.core) [
  | inr other ↦ rw (ne_eqb c b.core other) (whole_after m s k)
  | inl own ↦ elim (cases_eq s b.strand) [
    | inl same ↦ rw (eq-eqb c b.core own, eq-eqb s b.strand same) (
        let now : without_strand (tag_after m s k) b.strand ≡ without_strand m b.strand = ap (without_strand (tag_after m s k)) (sym same) ∙ without_same m s k ∙ ap (without_strand m) same in
        omega (arith, now))
    | inr later ↦ rw (eq-eqb c b.core own, ne_eqb s b.strand later) (without_later m s k b.strand le (let most = order own in grind arith))
  ]
]

-- two data words at one place are one
pub same_word : (x : Extents) (w v : ℕ) → x.volatile ≤ MOST_MEMORY → IsWord x w → IsWord x v → word_place x w ≡ word_place x v → w ≡ v
same_word x w v few (at, inl low) (at', inl low') e = let e' : (w - VOLATILE_BASE) / 8 ≡ (v - VOLATILE_BASE) / 8 = rw (lt-ltb w PERSISTENT_BASE (omega (arith, low.1, few)), lt-ltb v PERSISTENT_BASE (omega (arith, low'.1, few))) at e in omega (arith, e', at, at', low.0, low'.0)
same_word x w v few (at, inl low) (at', inr high') e = let e' : (w - VOLATILE_BASE) / 8 ≡ x.volatile + (v - PERSISTENT_BASE) / 8 = rw (lt-ltb w PERSISTENT_BASE (omega (arith, low.1, few)), le-ltb v PERSISTENT_BASE high'.0) at e in absurd (omega (arith, e', low.0, low.1))
same_word x w v few (at, inr high) (at', inl low') e = let e' : x.volatile + (w - PERSISTENT_BASE) / 8 ≡ (v - VOLATILE_BASE) / 8 = rw (le-ltb w PERSISTENT_BASE high.0, lt-ltb v PERSISTENT_BASE (omega (arith, low'.1, few))) at e in absurd (omega (arith, e', low'.0, low'.1))
same_word x w v few (at, inr high) (at', inr high') e = let e' : x.volatile + (w - PERSISTENT_BASE) / 8 ≡ x.volatile + (v - PERSISTENT_BASE) / 8 = rw (le-ltb w PERSISTENT_BASE high.0, le-ltb v PERSISTENT_BASE high'.0) at e in omega (arith, e', at, at', high.0, high'.0)

-- each data word has a place
pub word_within : (x : Extents) (w : ℕ) → x.volatile ≤ MOST_MEMORY → IsWord x w → word_place x w < x.volatile + x.persistent
word_within x w few (at, inl low) = rw (lt-ltb w PERSISTENT_BASE (omega (arith, low.1, few))) (omega (arith, low.0, low.1))
word_within x w few (at, inr high) = rw (le-ltb w PERSISTENT_BASE high.0) (omega (arith, high.0, high.1))

-- so each tag has one
pub slot_within : (tags : TagsSeen) (core w count : ℕ) → tags.extents.volatile ≤ MOST_MEMORY → core < length tags.strands → IsWord tags.extents w
    → count ≡ (tags.extents.volatile + tags.extents.persistent) * length tags.strands → slot tags core w < count
slot_within tags core w count few lt is e = let within = word_within tags.extents w few is in grind (arith, rows)

made_in : (tags : TagsSeen) (b : Access) (c : ℕ) → c < length tags.strands → made_opposing tags b c ≡ made_elsewhere (conflicting tags b c) b c
made_in tags b c lt = rw (lt-ltb c (length tags.strands) lt) refl

made_out : (tags : TagsSeen) (b : Access) (c : ℕ) → length tags.strands ≤ c → made_opposing tags b c ≡ 0
made_out tags b c le = rw (le-ltb c (length tags.strands) le) refl

strand_after : (m : WordTag) (s k : ℕ) → (tag_after m s k).strand ≡ s
strand_after m s k = elim (cases_eq m.strand s) [ inl e ↦ rw (eq-eqb m.strand s e) e | inr ne ↦ rw (ne_eqb m.strand s ne) refl ]

module _ (tags : TagsSeen) (n : Noted) (kept : AreKept tags) (may : CanAsk tags n.access) where
  slot_kept : (core w : ℕ) → slot (noted tags n) core w ≡ slot tags core w
  slot_kept core w = ap (λ k. word_place tags.extents w * k + core) (length-set tags.strands n.access.core n.access.strand)

  slot_apart : (core w : ℕ) → core < length tags.strands → IsWord tags.extents w → slot tags core w ≡ slot tags n.access.core n.access.word → (core ≡ n.access.core) × (w ≡ n.access.word)
  slot_apart core w lt is e =
      let parts = same_from_place (word_place tags.extents w) core (word_place tags.extents n.access.word) n.access.core (length tags.strands) lt may.core e in
      (parts.1, same_word tags.extents w n.access.word kept.volatile is may.word parts.0)

  tag_here : (word_tags : List WordTag) → slot tags n.access.core n.access.word < length word_tags
      → tag_in (with_access word_tags tags n) (noted tags n) n.access.core n.access.word ≡ tag_after (tag_in word_tags tags n.access.core n.access.word) n.access.strand n.made
  tag_here word_tags lt = ap (λ i. slice_index_or (with_access word_tags tags n) i no_tag) (slot_kept n.access.core n.access.word)
      ∙ get_or-set_same word_tags (slot tags n.access.core n.access.word) (tag_after (tag_in word_tags tags n.access.core n.access.word) n.access.strand n.made) no_tag lt

  tag_other : (word_tags : List WordTag) (core w : ℕ) → core < length tags.strands → IsWord tags.extents w → ((core ≡ n.access.core) × (w ≡ n.access.word) → ⊥)
      → tag_in (with_access word_tags tags n) (noted tags n) core w ≡ tag_in word_tags tags core w
  tag_other word_tags core w lt is other = ap (λ i. slice_index_or (with_access word_tags tags n) i no_tag) (slot_kept core w)
      ∙ get_or-set_other word_tags (slot tags n.access.core n.access.word) (slot tags core w) (tag_after (tag_in word_tags tags n.access.core n.access.word) n.access.strand n.made) no_tag (λ e. other (slot_apart core w lt is e))

  tag_kept : (word_tags : List WordTag) (core w : ℕ) → tag_in word_tags (noted tags n) core w ≡ tag_in word_tags tags core w
  tag_kept word_tags core w = ap (λ i. slice_index_or word_tags i no_tag) (slot_kept core w)

  -- the tag that is asked, where it is none of the noted access
  conflicting_other : (b : Access) (c : ℕ) → c < length tags.strands → IsWord tags.extents b.word → ((c ≡ n.access.core) × (b.word ≡ n.access.word) → ⊥) → conflicting (noted tags n) b c ≡ conflicting tags b c
  conflicting_other b c lt is other = elim (cases_Bool b.write) [
    | inl w ↦ rw w (tag_other tags.accesses c b.word lt is other)
    | inr r ↦ elim (cases_Bool n.access.write) [
      | inl w ↦ rw (r, w) (tag_other tags.stores c b.word lt is other)
      | inr l ↦ rw (r, l) (tag_kept tags.stores c b.word)
    ]
  ]

  -- a load changes nothing for loads
  conflicting_kept : (b : Access) (c : ℕ) → (n.access.write || b.write) ≡ false → conflicting (noted tags n) b c ≡ conflicting tags b c
  conflicting_kept b c none = let parts = or_parts n.access.write b.write none in rw (parts.1, parts.0) (tag_kept tags.stores c b.word)

  conflicting_here : (b : Access) (c : ℕ) → c ≡ n.access.core → b.word ≡ n.access.word → (n.access.write || b.write) ≡ true
      → conflicting (noted tags n) b c ≡ tag_after (conflicting tags b c) n.access.strand n.made
  conflicting_here b c e e' one = rw (e, e') (elim (cases_Bool b.write) [
    | inl w ↦ rw w (tag_here tags.accesses (slot_within tags n.access.core n.access.word (length tags.accesses) kept.volatile may.core may.word kept.accesses))
    | inr r ↦
        let w : n.access.write ≡ true = elim (or_cases n.access.write b.write one) [ inl w ↦ w | inr w ↦ absurd (false≢true (sym r ∙ w)) ] in
        rw (r, w) (tag_here tags.stores (slot_within tags n.access.core n.access.word (length tags.stores) kept.volatile may.core may.word kept.stores))
  ])

  made_part_other : (b : Access) (c : ℕ) → ((c ≡ n.access.core) × (b.word ≡ n.access.word) → ⊥) → made_part c b n ≡ 0
  made_part_other b c other = elim (cases_eq n.access.core c) [
    | inr ne ↦ rw (ne_eqb n.access.core c ne) refl
    | inl e ↦ let apart : n.access.word ≡ b.word → ⊥ = λ e'. other (sym e, sym e') in rw (eq-eqb n.access.core c e, ne_eqb n.access.word b.word apart) refl
  ]

  made_part_load : (b : Access) (c : ℕ) → (n.access.write || b.write) ≡ false → made_part c b n ≡ 0
  made_part_load b c none = elim (cases_Bool ((n.access.core == c) && opposes n.access b)) [
    | inr no_ ↦ rw no_ refl
    | inl yes_ ↦ absurd (both_ways (n.access.write || b.write) none
        ((and_parts (n.access.word == b.word) (n.access.write || b.write) (and_parts ((n.access.word == b.word) && (n.access.write || b.write)) (not ((n.access.core == b.core) && (n.access.strand == b.strand))) (and_parts (n.access.core == c) (opposes n.access b) yes_).1).0).1))
  ]

  made_part_here : (b : Access) (c : ℕ) → c ≡ n.access.core → b.word ≡ n.access.word → (n.access.write || b.write) ≡ true
      → made_part c b n ≡ if not ((c == b.core) && (n.access.strand == b.strand)) then n.made else 0
  made_part_here b c e e' one = rw (e, e', one, eq-eqb n.access.core n.access.core refl, eq-eqb n.access.word n.access.word refl) refl

  behind : (b : Access) (c : ℕ) → c ≡ n.access.core → (conflicting tags b c).strand ≤ n.access.strand
  behind b c e = rw e (
      let stores = kept.stores_behind (word_place tags.extents b.word) n.access.core may.core in
      let accesses = kept.accesses_behind (word_place tags.extents b.word) n.access.core may.core in
      let latest = may.strand in
      elim (cases_Bool b.write) [ inl w ↦ rw w (omega (arith, accesses, latest)) | inr r ↦ rw r (omega (arith, stores, latest)) ])

  -- no later strand was noted of an asked core than before
  asked_order : (b : Access) (c : ℕ) → c ≡ n.access.core → CanAsk (noted tags n) b → c ≡ b.core → n.access.strand ≤ b.strand
  asked_order b c e ask own =
      let now : slice_index (noted tags n).strands b.core ≡ n.access.strand = ap (slice_index (noted tags n).strands) (sym own ∙ e) ∙ get_or-set_same tags.strands n.access.core n.access.strand 0 may.core in
      omega (arith, ask.strand, now)

  cores_kept : length (noted tags n).strands ≡ length tags.strands
  cores_kept = length-set tags.strands n.access.core n.access.strand

  -- an access that isn't asked for changes nothing
  made_kept : (b : Access) (c : ℕ) → c < length tags.strands → conflicting (noted tags n) b c ≡ conflicting tags b c → made_part c b n ≡ 0
      → made_opposing (noted tags n) b c ≡ max (made_opposing tags b c) (made_part c b n)
  made_kept b c lt same none =
      let now : made_opposing (noted tags n) b c ≡ made_opposing tags b c = made_in (noted tags n) b c (omega (arith, lt, cores_kept)) ∙ ap (λ (m : WordTag). made_elsewhere m b c) same ∙ sym (made_in tags b c lt) in
      omega (arith, now, none)

  -- of a core's persists, each answer is the greater of the old one and of what the access adds
  made_noted : (b : Access) (c : ℕ) → CanAsk (noted tags n) b → made_opposing (noted tags n) b c ≡ max (made_opposing tags b c) (made_part c b n)
  made_noted b c ask = elim (cases_lt c (length tags.strands)) [
    | inr le ↦
        let none : made_part c b n ≡ 0 = made_part_other b c (λ e. omega (arith, e.0, may.core, le)) in
        omega (arith, made_out (noted tags n) b c (omega (arith, le, cores_kept)), made_out tags b c le, none)
    | inl lt ↦ elim (cases_eq c n.access.core) [
      | inr ne ↦ let other : (c ≡ n.access.core) × (b.word ≡ n.access.word) → ⊥ = λ e. ne e.0 in made_kept b c lt (conflicting_other b c lt ask.word other) (made_part_other b c other)
      | inl e ↦ elim (cases_eq b.word n.access.word) [
        | inr ne ↦ let other : (c ≡ n.access.core) × (b.word ≡ n.access.word) → ⊥ = λ e. ne e.1 in made_kept b c lt (conflicting_other b c lt ask.word other) (made_part_other b c other)
        | inl e' ↦ elim (cases_Bool (n.access.write || b.write)) [
          | inr none ↦ made_kept b c lt (conflicting_kept b c none) (made_part_load b c none)
          | inl one ↦
              made_in (noted tags n) b c (omega (arith, lt, cores_kept))
              ∙ ap (λ (m : WordTag). made_elsewhere m b c) (conflicting_here b c e e' one)
              ∙ elsewhere_after (conflicting tags b c) b c n.access.strand n.made (behind b c e) (asked_order b c e ask)
              ∙ ap (λ k. max (made_elsewhere (conflicting tags b c) b c) k) (sym (made_part_here b c e e' one))
              ∙ ap (λ k. max k (made_part c b n)) (sym (made_in tags b c lt))
        ]
      ]
    ]
  ]

  wait_here : (waits : List CountVector) → word_place tags.extents n.access.word < length waits → wait_in (with_wait waits tags n) (noted tags n) n.access.word ≡ greater (wait_in waits tags n.access.word) n.wait
  wait_here waits lt = ap (λ (v : CountVector). v.counts) (get_or-set_same waits (word_place tags.extents n.access.word) (vector (greater (wait_in waits tags n.access.word) n.wait)) no_counts lt)

  wait_other : (waits : List CountVector) (w : ℕ) → IsWord tags.extents w → (w ≡ n.access.word → ⊥) → wait_in (with_wait waits tags n) (noted tags n) w ≡ wait_in waits tags w
  wait_other waits w is other = ap (λ (v : CountVector). v.counts)
      (get_or-set_other waits (word_place tags.extents n.access.word) (word_place tags.extents w) (vector (greater (wait_in waits tags n.access.word) n.wait)) no_counts
      (λ e. other (same_word tags.extents w n.access.word kept.volatile is may.word e)))

  -- the waits at another word stay
  conflicting_wait_other : (b : Access) → IsWord tags.extents b.word → (b.word ≡ n.access.word → ⊥) → conflicting_wait (noted tags n) b ≡ conflicting_wait tags b
  conflicting_wait_other b is other = elim (cases_Bool b.write) [
    | inl w ↦ rw w (wait_other tags.access_waits b.word is other)
    | inr r ↦ elim (cases_Bool n.access.write) [ inl w ↦ rw (r, w) (wait_other tags.store_waits b.word is other) | inr l ↦ rw (r, l) refl ]
  ]

  -- and a load changes none for loads
  conflicting_wait_kept : (b : Access) → (n.access.write || b.write) ≡ false → conflicting_wait (noted tags n) b ≡ conflicting_wait tags b
  conflicting_wait_kept b none = let parts = or_parts n.access.write b.write none in rw (parts.1, parts.0) refl

  conflicting_wait_here : (b : Access) → b.word ≡ n.access.word → (n.access.write || b.write) ≡ true → conflicting_wait (noted tags n) b ≡ greater (conflicting_wait tags b) n.wait
  conflicting_wait_here b e one = rw e (elim (cases_Bool b.write) [
    | inl w ↦ rw w (wait_here tags.access_waits (place_within (length tags.access_waits) kept.access_waits))
    | inr r ↦
        let w : n.access.write ≡ true = elim (or_cases n.access.write b.write one) [ inl w ↦ w | inr w ↦ absurd (false≢true (sym r ∙ w)) ] in
        rw (r, w) (wait_here tags.store_waits (place_within (length tags.store_waits) kept.store_waits))
  ])
    where
      place_within : (count : ℕ) → count ≡ tags.extents.volatile + tags.extents.persistent → word_place tags.extents n.access.word < count
      place_within count size = let within = word_within tags.extents n.access.word kept.volatile may.word in omega (arith, within, size)

  -- of waits, each answer is the greater of the old one and of what the access adds
  wait_noted : (b : Access) (c : ℕ) → IsWord tags.extents b.word → c < CORE_ROOM → slice_index (conflicting_wait (noted tags n) b) c ≡ max (slice_index (conflicting_wait tags b) c) (wait_part c b n)
  wait_noted b c is few = elim (cases_eq b.word n.access.word) [
    | inr ne ↦
        let apart : n.access.word ≡ b.word → ⊥ = λ e. ne (sym e) in
        let none : wait_part c b n ≡ 0 = rw (ne_eqb n.access.word b.word apart) refl in
        let same : slice_index (conflicting_wait (noted tags n) b) c ≡ slice_index (conflicting_wait tags b) c = ap (λ w. slice_index w c) (conflicting_wait_other b is ne) in
        omega (arith, same, none)
    | inl e ↦
        let word : (n.access.word == b.word) ≡ true = eq-eqb n.access.word b.word (sym e) in
        elim (cases_Bool (n.access.write || b.write)) [
          | inr none ↦
              let nothing : wait_part c b n ≡ 0 = rw (word, none) refl in
              let same : slice_index (conflicting_wait (noted tags n) b) c ≡ slice_index (conflicting_wait tags b) c = ap (λ w. slice_index w c) (conflicting_wait_kept b none) in
              omega (arith, same, nothing)
          | inl one ↦
              let adds : wait_part c b n ≡ slice_index n.wait c = rw (word, one) refl in
              ap (λ w. slice_index w c) (conflicting_wait_here b e one) ∙ each_at (λ k. max (slice_index (conflicting_wait tags b) k) (slice_index n.wait k)) c few ∙ ap (max (slice_index (conflicting_wait tags b) c)) (sym adds)
        ]
  ]

  -- each answer is the greater of the old one and of what the access adds
  answer_noted : (b : Access) (c : ℕ) → CanAsk (noted tags n) b → c < CORE_ROOM → answer (noted tags n) b c ≡ max (answer tags b c) (part c b n)
  answer_noted b c ask few =
      let waits = wait_noted b c ask.word few in
      let made = made_noted b c ask in
      omega (arith, waits, made)

  -- what can be asked afterwards could be asked before
  asked_before : (b : Access) → CanAsk (noted tags n) b → CanAsk tags b
  asked_before b ask = record {
    core = omega (arith, ask.core, cores_kept);
    word = ask.word;
    strand = elim (cases_eq b.core n.access.core) [
      | inl e ↦ (let most = asked_order b b.core e ask refl in rw e (omega (arith, most, may.strand)))
      | inr ne ↦ (let same : slice_index (noted tags n).strands b.core ≡ slice_index tags.strands b.core = get_or-set_other tags.strands n.access.core b.core n.access.strand 0 ne in omega (arith, ask.strand, same))
    ];
    small = ask.small;
  }

  -- the law of noting: whatever list the tags stood for, they stand for that list with the access at its end
  pub stand_noted : (ns : List Noted) → StandFor tags ns → StandFor (noted tags n) (ns ++ n ∷ [])
  stand_noted ns stand b ask c lt = answer_noted b c ask lt ∙ ap (λ k. max k (part c b n)) (stand b (asked_before b ask) c lt) ∙ sym (covered_push c b ns n)

  -- the greatest strand of a core doesn't fall
  strand_raised : (core : ℕ) → slice_index tags.strands core ≤ slice_index (noted tags n).strands core
  strand_raised core = elim (cases_eq core n.access.core) [
    | inl e ↦ rw e (omega (arith, may.strand, get_or-set_same tags.strands n.access.core n.access.strand 0 may.core))
    | inr ne ↦ omega (arith, get_or-set_other tags.strands n.access.core core n.access.strand 0 ne)
  ]

  behind_kept : (word_tags : List WordTag) → AreBehind word_tags tags.strands → AreBehind word_tags (noted tags n).strands
  behind_kept word_tags old place core lt = let raised = strand_raised core in let before = old place core (omega (arith, lt, cores_kept)) in rw cores_kept (omega (arith, before, raised))

  behind_noted : (word_tags : List WordTag) → slot tags n.access.core n.access.word < length word_tags → AreBehind word_tags tags.strands → AreBehind (with_access word_tags tags n) (noted tags n).strands
  behind_noted word_tags inside old place core lt =
      let lt' : core < length tags.strands = omega (arith, lt, cores_kept) in
      let new = tag_after (tag_in word_tags tags n.access.core n.access.word) n.access.strand n.made in
      rw cores_kept (elim (cases_eq (place * length tags.strands + core) (slot tags n.access.core n.access.word)) [
        | inl e ↦
            let parts = same_from_place place core (word_place tags.extents n.access.word) n.access.core (length tags.strands) lt' may.core e in
            let now : slice_index (noted tags n).strands core ≡ n.access.strand = ap (slice_index (noted tags n).strands) parts.1 ∙ get_or-set_same tags.strands n.access.core n.access.strand 0 may.core in
            let at : (slice_index_or (with_access word_tags tags n) (place * length tags.strands + core) no_tag).strand ≡ n.access.strand =
            ap (λ i. (slice_index_or (with_access word_tags tags n) i no_tag).strand) e ∙ ap (λ (m : WordTag). m.strand) (get_or-set_same word_tags (slot tags n.access.core n.access.word) new no_tag inside) ∙ strand_after (tag_in word_tags tags n.access.core n.access.word) n.access.strand n.made in
            omega (arith, now, at)
        | inr ne ↦
            let at : (slice_index_or (with_access word_tags tags n) (place * length tags.strands + core) no_tag).strand ≡ (slice_index_or word_tags (place * length tags.strands + core) no_tag).strand =
            ap (λ (m : WordTag). m.strand) (get_or-set_other word_tags (slot tags n.access.core n.access.word) (place * length tags.strands + core) new no_tag ne) in
            omega (arith, at, old place core lt', strand_raised core)
      ])

  inside : (word_tags : List WordTag) → length word_tags ≡ (tags.extents.volatile + tags.extents.persistent) * length tags.strands → slot tags n.access.core n.access.word < length word_tags
  inside word_tags size = slot_within tags n.access.core n.access.word (length word_tags) kept.volatile may.core may.word size

  size_kept : (word_tags : List WordTag) → length word_tags ≡ (tags.extents.volatile + tags.extents.persistent) * length tags.strands
      → length word_tags ≡ (tags.extents.volatile + tags.extents.persistent) * length (noted tags n).strands
  size_kept word_tags size = rw cores_kept size

  size_noted : (word_tags : List WordTag) → length word_tags ≡ (tags.extents.volatile + tags.extents.persistent) * length tags.strands
      → length (with_access word_tags tags n) ≡ (tags.extents.volatile + tags.extents.persistent) * length (noted tags n).strands
  size_noted word_tags size = length-set word_tags (slot tags n.access.core n.access.word) (tag_after (tag_in word_tags tags n.access.core n.access.word) n.access.strand n.made) ∙ size_kept word_tags size

  words_noted : (waits : List CountVector) → length waits ≡ tags.extents.volatile + tags.extents.persistent → length (with_wait waits tags n) ≡ tags.extents.volatile + tags.extents.persistent
  words_noted waits size = length-set waits (word_place tags.extents n.access.word) (vector (greater (wait_in waits tags n.access.word) n.wait)) ∙ size

  pub kept_noted : AreKept (noted tags n)
  kept_noted = record {
    few = omega (arith, kept.few, cores_kept);
    volatile = kept.volatile;
    persistent = kept.persistent;
    made = length-set tags.made n.access.core n.made ∙ kept.made ∙ sym cores_kept;
    stores = elim (cases_Bool n.access.write) [ inl w ↦ rw w (size_noted tags.stores kept.stores) | inr r ↦ rw r (size_kept tags.stores kept.stores) ];
    accesses = size_noted tags.accesses kept.accesses;
    store_waits = elim (cases_Bool n.access.write) [ inl w ↦ rw w (words_noted tags.store_waits kept.store_waits) | inr r ↦ rw r kept.store_waits ];
    access_waits = words_noted tags.access_waits kept.access_waits;
    stores_behind = elim (cases_Bool n.access.write) [ inl w ↦ rw w (behind_noted tags.stores (inside tags.stores kept.stores) kept.stores_behind) | inr r ↦ rw r (behind_kept tags.stores kept.stores_behind) ];
    accesses_behind = behind_noted tags.accesses (inside tags.accesses kept.accesses) kept.accesses_behind;
  }

same_tags : (x x' : Extents) (strands strands' made made' : List ℕ) (stores stores' accesses accesses' : List WordTag) (sw sw' aw aw' : List CountVector)
    → x ≡ x' → strands ≡ strands' → made ≡ made' → stores ≡ stores' → accesses ≡ accesses' → sw ≡ sw' → aw ≡ aw'
    → record { extents = x; strands = strands; made = made; stores = stores; accesses = accesses; store_waits = sw; access_waits = aw }
    ≡ (let to : TagsSeen = record { extents = x'; strands = strands'; made = made'; stores = stores'; accesses = accesses'; store_waits = sw'; access_waits = aw' } in to)
same_tags x x' strands strands' made made' stores stores' accesses accesses' sw sw' aw aw' e1 e2 e3 e4 e5 e6 e7 = rw (e1, e2, e3, e4, e5, e6, e7) refl

-- the same for tags that are the noted ones field by field
module _ (t u : TagsSeen) (n : Noted) (strands : u.strands ≡ slice_set t.strands n.access.core n.access.strand) (made : u.made ≡ slice_set t.made n.access.core n.made)
    (stores : u.stores ≡ if n.access.write then with_access t.stores t n else t.stores) (accesses : u.accesses ≡ with_access t.accesses t n)
    (store_waits : u.store_waits ≡ if n.access.write then with_wait t.store_waits t n else t.store_waits) (access_waits : u.access_waits ≡ with_wait t.access_waits t n) (extents : u.extents ≡ t.extents) where
  pub is_noted : u ≡ noted t n
  is_noted = same_tags u.extents t.extents u.strands (noted t n).strands u.made (noted t n).made u.stores (noted t n).stores u.accesses (noted t n).accesses
      u.store_waits (noted t n).store_waits u.access_waits (noted t n).access_waits extents strands made stores accesses store_waits access_waits

  pub kept_as : AreKept t → CanAsk t n.access → AreKept u
  kept_as kept may = subst AreKept (sym is_noted) (kept_noted t n kept may)

  pub stand_as : AreKept t → CanAsk t n.access → (ns : List Noted) → StandFor t ns → StandFor u (ns ++ n ∷ [])
  stand_as kept may ns stand = subst (λ (x : TagsSeen). StandFor x (ns ++ n ∷ [])) (sym is_noted) (stand_noted t n kept may ns stand)

-- a loop over the cores, one core on
pub one_answer : (tags : TagsSeen) (b : Access) (counts : List ℕ) (c : ℕ) → c < length counts → ((k : ℕ) → k < c → slice_index counts k ≡ answer tags b k)
    → ((k : ℕ) → c ≤ k → slice_index counts k ≡ slice_index (conflicting_wait tags b) k)
    → ((k : ℕ) → k < c + 1 → slice_index (slice_set counts c (max (slice_index counts c) (made_opposing tags b c))) k ≡ answer tags b k)
    × ((k : ℕ) → c + 1 ≤ k → slice_index (slice_set counts c (max (slice_index counts c) (made_opposing tags b c))) k ≡ slice_index (conflicting_wait tags b) k)
one_answer tags b counts c lt below above = (
  λ k le. elim (cases_eq k c) [
    | inl e ↦ rw e (get_or-set_same counts c (max (slice_index counts c) (made_opposing tags b c)) 0 lt ∙ ap (λ x. max x (made_opposing tags b c)) (above c (omega arith)))
    | inr ne ↦ get_or-set_other counts c k (max (slice_index counts c) (made_opposing tags b c)) 0 ne ∙ below k (grind arith)
  ],
  λ k le. let ne : k ≡ c → ⊥ = λ e. omega (arith, e, le) in get_or-set_other counts c k (max (slice_index counts c) (made_opposing tags b c)) 0 ne ∙ above k (omega (arith, le)),
)

-- in a list of one value each place has it
same_at : {X : Type 0} (count i : ℕ) (d : X) → slice_index_or (replicate count d) i d ≡ d
same_at count i d = elim (cases_lt i count) [
  | inl lt ↦ get_or-replicate count i d d lt
  | inr le ↦ get_or_past (replicate count d) i d (let size = length-replicate count d in omega (arith, le, size))
]

-- tags without an access and without a wait stand for no access
module _ (tags : TagsSeen) (count words : ℕ) (stores : tags.stores ≡ replicate count no_tag) (accesses : tags.accesses ≡ replicate count no_tag)
    (store_waits : tags.store_waits ≡ replicate words no_counts) (access_waits : tags.access_waits ≡ replicate words no_counts) where
  no_conflicting : (b : Access) (c : ℕ) → conflicting tags b c ≡ no_tag
  no_conflicting b c = elim (cases_Bool b.write) [
    | inl w ↦ rw (w, accesses) (same_at count (slot tags c b.word) no_tag)
    | inr r ↦ rw (r, stores) (same_at count (slot tags c b.word) no_tag)
  ]

  nothing_elsewhere : (b : Access) (c : ℕ) → made_elsewhere no_tag b c ≡ 0
  nothing_elsewhere b c = elim (cases_Bool (c == b.core)) [
    | inl own ↦ elim (cases_Bool (0 == b.strand)) [ inl same ↦ rw (own, same) refl | inr other ↦ rw (own, other) refl ]
    | inr other ↦ rw other refl
  ]

  nothing_made : (b : Access) (c : ℕ) → made_opposing tags b c ≡ 0
  nothing_made b c = elim (cases_Bool (nat_lt c (length tags.strands))) [
    | inl there ↦ rw there (ap (λ (m : WordTag). made_elsewhere m b c) (no_conflicting b c) ∙ nothing_elsewhere b c)
    | inr past ↦ rw past refl
  ]

  nothing_waited : (b : Access) (c : ℕ) → c < CORE_ROOM → slice_index (conflicting_wait tags b) c ≡ 0
  nothing_waited b c few = elim (cases_Bool b.write) [
    | inl w ↦ rw (w, access_waits) (ap (λ (v : CountVector). slice_index v.counts c) (same_at words (word_place tags.extents b.word) no_counts) ∙ get_or-replicate CORE_ROOM c 0 0 few)
    | inr r ↦ rw (r, store_waits) (ap (λ (v : CountVector). slice_index v.counts c) (same_at words (word_place tags.extents b.word) no_counts) ∙ get_or-replicate CORE_ROOM c 0 0 few)
  ]

  pub stand_fresh : StandFor tags []
  stand_fresh b ask c few = let waited = nothing_waited b c few in let made = nothing_made b c in omega (arith, waited, made)
