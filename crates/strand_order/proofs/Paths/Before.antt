-- Serves clause before of paths_are_persist_order: what is before an access has a path of edges to it.
use Rattle.std.proofs.Common.{◌≡◌, ℕ, zero, suc, ◌<◌, Bool, true, false, ◌||◌, ◌&&◌, ◌⊎◌, inl, inr, List, [], ◌∷◌, ◌++◌, refl, sym, ap, ◌∙◌, arith}
use Rattle.std.specs.Prelude.{not, ◌==◌, nat_lt}
use Rattle.std.proofs.lemmas.Bool.{cases_eq, cases_order, cases_Bool, and_parts, and_from, or_cases, or_left, or_right, eqb-true, eq-eqb, ltb-true, lt-ltb, not-true, false≢true, both_ways}
use Rattle.strand_inputs.specs.declared.mode.Mode.{Mode}
use Rattle.strand_inputs.specs.declared.mode.Mode.TheVariants.{Strict, Epoch, Strand}
use Rattle.strand_events.specs.declared.event.Event.{Event}
use Rattle.strand_base.specs.Counting.{any_below}
use Rattle.strand_events.specs.Trace.{is_access, is_store, is_barrier, is_join, is_new_strand, is_barrier_or_join, core_at, word_at, event_is, core_event_is, strand_number, same_strand}
use Rattle.strand_events.specs.Order.{conflicts, stands_between, core_orders, directly_before, Leads, Before}
use Rattle.strand_order.specs.Graph.{any_between, stores_word, word_edge, access_or_join, program_edge, gates, is_gate, since_gate, drained_by, join_edge, gate_edge, core_edge, is_edge, EdgePath, LeadsTo}
use Rattle.strand_base.proofs.BelowBound.{any_from, any_true, at_or_below}
use Rattle.strand_events.proofs.PersistOrder.Epochs.{weaker, either_passes, store_is_access, strand_parts, strand_from, strand_flip, strand_chain, between_parts, between_from, direct_parts, conflict_parts, same_number}

access_either : (e : Event) → is_access e ≡ true → access_or_join e ≡ true
access_either e h = or_left (is_access e) (is_join e) h

pub access_drained : (e : Event) → is_access e ≡ true → drained_by e ≡ true
access_drained e h = or_left (is_access e || is_barrier e) (is_join e) (or_left (is_access e) (is_barrier e) h)

join_drained : (e : Event) → is_join e ≡ true → drained_by e ≡ true
join_drained e h = or_right (is_access e || is_barrier e) (is_join e) h

-- paths compose
pub path_more : (mode : Mode) (t : List Event) (xs : List ℕ) (a i j : ℕ) → EdgePath mode t a xs i → is_edge mode t i j ≡ true → EdgePath mode t a (xs ++ i ∷ []) j
path_more mode t [] a i j p e = (p, e)
path_more mode t (x ∷ xs) a i j p e = (p.0, path_more mode t xs x i j p.1 e)

pub then_edge : (mode : Mode) (t : List Event) (a i j : ℕ) → LeadsTo mode t a i → is_edge mode t i j ≡ true → LeadsTo mode t a j
then_edge mode t a i j p e = (p.0 ++ i ∷ [], path_more mode t p.0 a i j p.1 e)

path_join : (mode : Mode) (t : List Event) (xs ys : List ℕ) (a i j : ℕ) → EdgePath mode t a xs i → EdgePath mode t i ys j → EdgePath mode t a (xs ++ i ∷ ys) j
path_join mode t [] ys a i j p q = (p, q)
path_join mode t (x ∷ xs) ys a i j p q = (p.0, path_join mode t xs ys x i j p.1 q)

pub then_path : (mode : Mode) (t : List Event) (a i j : ℕ) → LeadsTo mode t a i → LeadsTo mode t i j → LeadsTo mode t a j
then_path mode t a i j p q = (p.0 ++ i ∷ q.0, path_join mode t p.0 q.0 a i j p.1 q.1)

-- the greatest number that passes
find_last : (n : ℕ) (f : ℕ → Bool) → any_below n f ≡ true → (k : ℕ) × (k < n) × (f k ≡ true) × ((m : ℕ) → k < m → m < n → f m ≡ false)
find_last zero f h = absurd (false≢true h)
find_last (suc n) f h = elim (cases_Bool (f n)) [
  | inl here ↦ let lt : n < suc n = omega arith in (n, lt, here, λ m a b. absurd (omega arith))
  | inr none ↦
      let below : any_below n f ≡ true = elim (or_cases (f n) (any_below n f) h) [ inl here ↦ absurd (both_ways (f n) none here) | inr later ↦ later ] in
      let found = find_last n f below in
      let lt : found.0 < suc n = omega (arith, found.1) in
      (found.0, lt, found.2, λ m a b. elim (cases_eq m n) [ inl e ↦ ap f e ∙ none | inr ne ↦ found.3 m a (at_or_below b ne) ])
]

-- the last number between that passes
pub last_between : (i j : ℕ) (f : ℕ → Bool) → any_between i j f ≡ true → (k : ℕ) × (i < k) × (k < j) × (f k ≡ true) × (any_between k j f ≡ false)
last_between i j f h =
    let found = find_last j (λ k. nat_lt i k && f k) h in
    let parts = and_parts (nat_lt i found.0) (f found.0) found.2 in
    let lo : i < found.0 = ltb-true i found.0 parts.0 in (
      found.0,
      lo,
      found.1,
      parts.1,
      elim (cases_Bool (any_between found.0 j f)) [
        | inl more ↦
            let k = any_true j (λ k. nat_lt found.0 k && f k) more in
            let kparts = and_parts (nat_lt found.0 k.0) (f k.0) k.2 in
            let above : found.0 < k.0 = ltb-true found.0 k.0 kparts.0 in
            let over : i < k.0 = omega arith in
            absurd (both_ways (nat_lt i k.0 && f k.0) (found.3 k.0 above k.1) (and_from (nat_lt i k.0) (f k.0) (lt-ltb i k.0 over) kparts.1))
        | inr none ↦ none
      ],
    )

pub between_pass : (i j k : ℕ) (f : ℕ → Bool) → i < k → k < j → f k ≡ true → any_between i j f ≡ true
between_pass i j k f lo hi h = any_from j (λ k. nat_lt i k && f k) k hi (and_from (nat_lt i k) (f k) (lt-ltb i k lo) h)

module _ (mode : Mode) (t : List Event) where
  edge_from_word : (i j : ℕ) → i < j → word_edge t i j ≡ true → is_edge mode t i j ≡ true
  edge_from_word i j lt h = and_from (nat_lt i j) (word_edge t i j || core_edge mode t i j) (lt-ltb i j lt) (or_left (word_edge t i j) (core_edge mode t i j) h)

  edge_from_core : (i j : ℕ) → i < j → core_edge mode t i j ≡ true → is_edge mode t i j ≡ true
  edge_from_core i j lt h = and_from (nat_lt i j) (word_edge t i j || core_edge mode t i j) (lt-ltb i j lt) (or_right (word_edge t i j) (core_edge mode t i j) h)

  store_access : (i : ℕ) → event_is is_store t i ≡ true → event_is is_access t i ≡ true
  store_access i h = weaker is_store is_access store_is_access t i h

  conflict_from : (a b : ℕ) → event_is is_access t a ≡ true → event_is is_access t b ≡ true → word_at t a ≡ word_at t b → (event_is is_store t a || event_is is_store t b) ≡ true → conflicts t a b ≡ true
  conflict_from a b x y w s = and_from (event_is is_access t a && event_is is_access t b && (word_at t a == word_at t b)) (event_is is_store t a || event_is is_store t b) (and_from (event_is is_access t a && event_is is_access t b) (word_at t a == word_at t b) (and_from (event_is is_access t a) (event_is is_access t b) x y) (eq-eqb (word_at t a) (word_at t b) w)) s

  -- conflicting accesses have a path
  conflict_path : (n a b : ℕ) → b < n → a < b → conflicts t a b ≡ true → LeadsTo mode t a b
  conflict_path zero a b bound lt h = absurd (omega arith)
  conflict_path (suc n) a b bound lt h = elim (cases_Bool (any_between a b (stores_word t (word_at t b)))) [
    | inl some_ ↦
        let s = last_between a b (stores_word t (word_at t b)) some_ in
        let parts = and_parts (event_is is_store t s.0) (word_at t s.0 == word_at t b) s.3 in
        let word : word_at t s.0 ≡ word_at t b = eqb-true (word_at t s.0) (word_at t b) parts.1 in
        let ab = conflict_parts t a b h in
        let to : conflicts t a s.0 ≡ true = conflict_from a s.0 ab.0 (store_access s.0 parts.0) (ab.2 ∙ sym word) (or_right (event_is is_store t a) (event_is is_store t s.0) parts.0) in
        let on : conflicts t s.0 b ≡ true = conflict_from s.0 b (store_access s.0 parts.0) ab.1 word (or_left (event_is is_store t s.0) (event_is is_store t b) parts.0) in
        let less : s.0 < n = omega (arith, s.2) in
        then_edge mode t a s.0 b (conflict_path n a s.0 less s.1 to) (edge_from_word s.0 b s.2 (and_from (conflicts t s.0 b) (not (any_between s.0 b (stores_word t (word_at t b)))) on (ap not s.4)))
    | inr none ↦ ([], edge_from_word a b lt (and_from (conflicts t a b) (not (any_between a b (stores_word t (word_at t b)))) h (ap not none)))
  ]

  -- in program order
  program_path : (n a b : ℕ) → b < n → a < b → event_is access_or_join t a ≡ true → event_is access_or_join t b ≡ true → core_at t a ≡ core_at t b → ((i j : ℕ) → i < j → program_edge t i j ≡ true → is_edge mode t i j ≡ true) → LeadsTo mode t a b
  program_path zero a b bound lt x y c has = absurd (omega arith)
  program_path (suc n) a b bound lt x y c has = elim (cases_Bool (stands_between access_or_join (core_at t b) t a b)) [
    | inl some_ ↦
        let s = last_between a b (core_event_is access_or_join (core_at t b) t) some_ in
        let parts = and_parts (event_is access_or_join t s.0) (core_at t s.0 == core_at t b) s.3 in
        let sc : core_at t s.0 ≡ core_at t b = eqb-true (core_at t s.0) (core_at t b) parts.1 in
        let less : s.0 < n = omega (arith, s.2) in
        then_edge mode t a s.0 b (program_path n a s.0 less s.1 x parts.0 (c ∙ sym sc) has) (has s.0 b s.2 (and_from (event_is access_or_join t b && core_event_is access_or_join (core_at t b) t s.0) (not (stands_between access_or_join (core_at t b) t s.0 b)) (and_from (event_is access_or_join t b) (core_event_is access_or_join (core_at t b) t s.0) y s.3) (ap not s.4)))
    | inr none ↦
        let ca : core_event_is access_or_join (core_at t b) t a ≡ true = and_from (event_is access_or_join t a) (core_at t a == core_at t b) x (eq-eqb (core_at t a) (core_at t b) c) in
        ([], has a b lt (and_from (event_is access_or_join t b && core_event_is access_or_join (core_at t b) t a) (not (stands_between access_or_join (core_at t b) t a b)) (and_from (event_is access_or_join t b) (core_event_is access_or_join (core_at t b) t a) y ca) (ap not none)))
  ]

  -- gates between two events of a core
  join_gates : (a b : ℕ) → stands_between is_join (core_at t b) t a b ≡ true → any_between a b (gates mode t b) ≡ true
  join_gates a b join =
      let k = between_parts is_join (core_at t b) t a b join in
      between_pass a b k.0 (gates mode t b) k.1 k.2 (or_right (event_is is_barrier t k.0 && same_strand mode t k.0 b) (event_is is_join t k.0 && (core_at t k.0 == core_at t b)) (and_from (event_is is_join t k.0) (core_at t k.0 == core_at t b) k.3 (eq-eqb (core_at t k.0) (core_at t b) k.4)))

  barrier_gates : (a b k : ℕ) → a < k → k < b → event_is is_barrier t k ≡ true → same_strand mode t k b ≡ true → any_between a b (gates mode t b) ≡ true
  barrier_gates a b k lo hi isb same = between_pass a b k (gates mode t b) lo hi (or_left (event_is is_barrier t k && same_strand mode t k b) (event_is is_join t k && (core_at t k == core_at t b)) (and_from (event_is is_barrier t k) (same_strand mode t k b) isb same))

  module _ (has : (i j : ℕ) → i < j → gate_edge mode t i j ≡ true → is_edge mode t i j ≡ true) where
    by_join : (i j : ℕ) → i < j → event_is is_join t j ≡ true → event_is drained_by t i ≡ true → core_at t i ≡ core_at t j → stands_between is_join (core_at t j) t i j ≡ false → is_edge mode t i j ≡ true
    by_join i j lt isj isi c none =
        let ci : core_event_is drained_by (core_at t j) t i ≡ true = and_from (event_is drained_by t i) (core_at t i == core_at t j) isi (eq-eqb (core_at t i) (core_at t j) c) in
        has i j lt (or_right (((event_is is_access t j || event_is is_barrier t j) && is_gate mode t i j) || (event_is is_barrier t j && since_gate mode t i j)) (join_edge t i j) (and_from (event_is is_join t j && core_event_is drained_by (core_at t j) t i) (not (stands_between is_join (core_at t j) t i j)) (and_from (event_is is_join t j) (core_event_is drained_by (core_at t j) t i) isj ci) (ap not none)))

    by_gate : (i j : ℕ) → i < j → (event_is is_access t j || event_is is_barrier t j) ≡ true → gates mode t j i ≡ true → any_between i j (gates mode t j) ≡ false → is_edge mode t i j ≡ true
    by_gate i j lt isj g none = has i j lt (or_left (((event_is is_access t j || event_is is_barrier t j) && is_gate mode t i j) || (event_is is_barrier t j && since_gate mode t i j)) (join_edge t i j) (or_left ((event_is is_access t j || event_is is_barrier t j) && is_gate mode t i j) (event_is is_barrier t j && since_gate mode t i j) (and_from (event_is is_access t j || event_is is_barrier t j) (is_gate mode t i j) isj (and_from (gates mode t j i) (not (any_between i j (gates mode t j))) g (ap not none)))))

    since : (i j : ℕ) → i < j → event_is is_barrier t j ≡ true → event_is is_access t i ≡ true → same_strand mode t i j ≡ true → any_between i j (gates mode t j) ≡ false → is_edge mode t i j ≡ true
    since i j lt isj isi same none = has i j lt (or_left (((event_is is_access t j || event_is is_barrier t j) && is_gate mode t i j) || (event_is is_barrier t j && since_gate mode t i j)) (join_edge t i j) (or_right ((event_is is_access t j || event_is is_barrier t j) && is_gate mode t i j) (event_is is_barrier t j && since_gate mode t i j) (and_from (event_is is_barrier t j) (since_gate mode t i j) isj (and_from (event_is is_access t i && same_strand mode t i j) (not (any_between i j (gates mode t j))) (and_from (event_is is_access t i) (same_strand mode t i j) isi same) (ap not none)))))

    -- every earlier access of the core has a path to a join
    join_path : (n a g : ℕ) → g < n → a < g → event_is is_access t a ≡ true → event_is is_join t g ≡ true → core_at t a ≡ core_at t g → LeadsTo mode t a g
    join_path zero a g bound lt x y c = absurd (omega arith)
    join_path (suc n) a g bound lt x y c = elim (cases_Bool (stands_between is_join (core_at t g) t a g)) [
      | inl some_ ↦
          let h = last_between a g (core_event_is is_join (core_at t g) t) some_ in
          let parts = and_parts (event_is is_join t h.0) (core_at t h.0 == core_at t g) h.3 in
          let ch : core_at t h.0 ≡ core_at t g = eqb-true (core_at t h.0) (core_at t g) parts.1 in
          let less : h.0 < n = omega (arith, h.2) in
          then_edge mode t a h.0 g (join_path n a h.0 less h.1 x parts.0 (c ∙ sym ch)) (by_join h.0 g h.2 y (weaker is_join drained_by join_drained t h.0 parts.0) ch h.4)
      | inr none ↦ ([], by_join a g lt y (weaker is_access drained_by access_drained t a x) c none)
    ]

    -- a is of j's strand, or a join of the core stands between
    to_gate : (n a j h : ℕ) → ((g : ℕ) → g < n → a < g → event_is is_barrier t g ≡ true → core_at t a ≡ core_at t g → (same_strand mode t a g ≡ true) ⊎ (stands_between is_join (core_at t g) t a g ≡ true) → LeadsTo mode t a g) → h < n → a < h → h < j → event_is is_access t a ≡ true → core_at t a ≡ core_at t j → (same_strand mode t a j ≡ true) ⊎ (stands_between is_join (core_at t j) t a j ≡ true) → gates mode t j h ≡ true → any_between h j (gates mode t j) ≡ false → LeadsTo mode t a h
    to_gate n a j h before less lo hi x c tied g none = elim (or_cases (event_is is_barrier t h && same_strand mode t h j) (event_is is_join t h && (core_at t h == core_at t j)) g) [
      | inl barrier ↦
          let parts = and_parts (event_is is_barrier t h) (same_strand mode t h j) barrier in
          let ch : core_at t h ≡ core_at t j = (strand_parts mode t h j parts.1).0 in
          elim tied [
            | inl s ↦ before h less lo parts.0 (c ∙ sym ch) (inl (strand_chain mode t a j h s (strand_flip mode t h j parts.1)))
            | inr join ↦
                let k = between_parts is_join (core_at t j) t a j join in
                elim (cases_order k.0 h) [
                  | inl e ↦ join_path n a h less lo x (ap (event_is is_join t) (sym e) ∙ k.3) (c ∙ sym ch)
                  | inr others ↦ elim others [
                    | inl lt ↦ before h less lo parts.0 (c ∙ sym ch) (inr (between_from is_join (core_at t h) t a h k.0 k.1 lt k.3 (k.4 ∙ sym ch)))
                    | inr gt ↦ absurd (both_ways (any_between h j (gates mode t j)) none (join_gates h j (between_from is_join (core_at t j) t h j k.0 gt k.2 k.3 k.4)))
                  ]
                ]
          ]
      | inr join ↦
          let parts = and_parts (event_is is_join t h) (core_at t h == core_at t j) join in
          join_path n a h less lo x parts.0 (c ∙ sym (eqb-true (core_at t h) (core_at t j) parts.1))
    ]

    -- if a gate stands between a and j, a has a path to the last one, which has an edge to j
    via_gate : (n a j : ℕ) → ((g : ℕ) → g < n → a < g → event_is is_barrier t g ≡ true → core_at t a ≡ core_at t g → (same_strand mode t a g ≡ true) ⊎ (stands_between is_join (core_at t g) t a g ≡ true) → LeadsTo mode t a g) → j < suc n → event_is is_access t a ≡ true → (event_is is_access t j || event_is is_barrier t j) ≡ true → core_at t a ≡ core_at t j → (same_strand mode t a j ≡ true) ⊎ (stands_between is_join (core_at t j) t a j ≡ true) → any_between a j (gates mode t j) ≡ true → LeadsTo mode t a j
    via_gate n a j before bound x y c tied some_ =
        let h = last_between a j (gates mode t j) some_ in
        let less : h.0 < n = omega (arith, h.2) in
        then_edge mode t a h.0 j (to_gate n a j h.0 before less h.1 h.2 x c tied h.3 h.4) (by_gate h.0 j h.2 y h.3 h.4)

    gate_path : (n a g : ℕ) → g < n → a < g → event_is is_access t a ≡ true → event_is is_barrier t g ≡ true → core_at t a ≡ core_at t g → (same_strand mode t a g ≡ true) ⊎ (stands_between is_join (core_at t g) t a g ≡ true) → LeadsTo mode t a g
    gate_path zero a g bound lt x y c tied = absurd (omega arith)
    gate_path (suc n) a g bound lt x y c tied = elim (cases_Bool (any_between a g (gates mode t g))) [
      | inl some_ ↦ via_gate n a g (λ h less lo isb ch th. gate_path n a h less lo x isb ch th) bound x (or_right (event_is is_access t g) (event_is is_barrier t g) y) c tied some_
      | inr none ↦ elim tied [
        | inl same ↦ ([], since a g lt y x same none)
        | inr join ↦ absurd (both_ways (any_between a g (gates mode t g)) none (join_gates a g join))
      ]
    ]

    -- accesses of a core with a gate of the later one between them
    gated_path : (a b : ℕ) → event_is is_access t a ≡ true → event_is is_access t b ≡ true → core_at t a ≡ core_at t b → (same_strand mode t a b ≡ true) ⊎ (stands_between is_join (core_at t b) t a b ≡ true) → any_between a b (gates mode t b) ≡ true → LeadsTo mode t a b
    gated_path a b x y c tied some_ = via_gate b a b (λ h less lo isb ch th. gate_path b a h less lo x isb ch th) (omega arith) x (or_left (event_is is_access t b) (event_is is_barrier t b) y) c tied some_

-- accesses that their core orders have a path
core_path : (mode : Mode) (t : List Event) (a b : ℕ) → a < b → event_is is_access t a ≡ true → event_is is_access t b ≡ true → core_at t a ≡ core_at t b → core_orders mode (core_at t a) t a b ≡ true → LeadsTo mode t a b
core_path Strict t a b lt x y c h = program_path Strict t (suc b) a b (omega arith) lt (weaker is_access access_or_join access_either t a x) (weaker is_access access_or_join access_either t b y) c (λ i j below e. edge_from_core Strict t i j below e)
core_path Epoch t a b lt x y c h =
    let k = between_parts is_barrier_or_join (core_at t a) t a b h in
    let cb : core_at t k.0 ≡ core_at t b = k.4 ∙ c in
    let some_ : any_between a b (gates Epoch t b) ≡ true = elim (either_passes is_barrier is_join t k.0 k.3) [
      | inl barrier ↦ barrier_gates Epoch t a b k.0 k.1 k.2 barrier (strand_from Epoch t k.0 b cb refl)
      | inr join ↦ join_gates Epoch t a b (between_from is_join (core_at t b) t a b k.0 k.1 k.2 join cb)
    ] in
    gated_path Epoch t (λ i j below e. edge_from_core Epoch t i j below e) a b x y c (inl (strand_from Epoch t a b c refl)) some_
core_path Strand t a b lt x y c h = elim (or_cases (stands_between is_join (core_at t a) t a b) (stands_between is_barrier (core_at t a) t a b && not (stands_between is_new_strand (core_at t a) t a b)) h) [
  | inl join ↦
      let join' : stands_between is_join (core_at t b) t a b ≡ true = ap (λ k. stands_between is_join k t a b) (sym c) ∙ join in
      gated_path Strand t (λ i j below e. edge_from_core Strand t i j below e) a b x y c (inr join') (join_gates Strand t a b join')
  | inr apart ↦
      let parts = and_parts (stands_between is_barrier (core_at t a) t a b) (not (stands_between is_new_strand (core_at t a) t a b)) apart in
      let none = not-true (stands_between is_new_strand (core_at t a) t a b) parts.1 in
      let k = between_parts is_barrier (core_at t a) t a b parts.0 in
      let number_b : strand_number Strand t a ≡ strand_number Strand t b = same_number t a b b x (omega arith) (omega arith) c none in
      let number_k : strand_number Strand t a ≡ strand_number Strand t k.0 = same_number t a b k.0 x (omega (arith, k.1)) (omega (arith, k.2)) (sym k.4) none in
      gated_path Strand t (λ i j below e. edge_from_core Strand t i j below e) a b x y c (inl (strand_from Strand t a b c number_b)) (barrier_gates Strand t a b k.0 k.1 k.2 k.3 (strand_from Strand t k.0 b (k.4 ∙ c) (sym number_k ∙ number_b)))
]

direct_path : (mode : Mode) (t : List Event) (a b : ℕ) → directly_before mode t a b ≡ true → LeadsTo mode t a b
direct_path mode t a b h =
    let parts = direct_parts mode t a b h in
    elim parts.3 [
      | inl conflict ↦ conflict_path mode t (suc b) a b (omega arith) parts.0 conflict
      | inr (c, orders) ↦ core_path mode t a b parts.0 parts.1 parts.2 c orders
    ]

leads_path : (mode : Mode) (t : List Event) (xs : List ℕ) (a b : ℕ) → Leads mode t a xs b → LeadsTo mode t a b
leads_path mode t [] a b h = direct_path mode t a b h
leads_path mode t (x ∷ xs) a b h = then_path mode t a x b (direct_path mode t a x h.0) (leads_path mode t xs x b h.1)

-- persist order gives paths
pub before_path : (mode : Mode) (t : List Event) (a b : ℕ) → Before mode t a b → LeadsTo mode t a b
before_path mode t a b h = leads_path mode t h.0 a b h.1
