-- Serves clause few of Graph::edges: at most five times as many edges as events.
-- Each event has at most one edge from its word's last store and
-- one from its gate or last join, and at most one to its word's next store, to its strand's next gate and to its core's next join.
use Rattle.std.proofs.Common.{◌≡◌, ℕ, zero, suc, ◌+◌, ◌*◌, ◌<◌, ◌≤◌, Bool, true, false, ◌||◌, ◌&&◌, ◌⊎◌, inl, inr, List, length, refl, sym, ap, ◌∙◌, arith}
use Rattle.std.specs.Prelude.{not, ◌==◌, nat_lt}
use Rattle.std.proofs.lemmas.Bool.{cases_Bool, and_parts, and_from, or_cases, or_left, or_right, eqb-true, eq-eqb, ltb-true, lt-ltb, both_ways, not-true}
use Rattle.std.proofs.lemmas.List.{length-append, length-map}
use Rattle.strand_inputs.specs.declared.mode.Mode.{Mode}
use Rattle.strand_inputs.specs.declared.mode.Mode.TheVariants.{Strict, Epoch, Strand}
use Rattle.strand_base.specs.Counting.{count_below, list_below, any_below}
use Rattle.strand_base.proofs.BelowBound.{count_yes, count_no, count_mono, list_length, any_true, any_agree}
use Rattle.strand_events.specs.declared.event.Event.{Event}
use Rattle.strand_events.specs.Trace.{is_store, is_access, is_barrier, is_join, core_at, word_at, event_is, core_event_is, same_strand}
use Rattle.strand_events.specs.Order.{conflicts, stands_between}
use Rattle.strand_events.proofs.TraceInvariant.{count_most}
use Rattle.strand_events.proofs.PersistOrder.Epochs.{strand_parts, strand_flip, conflict_parts}
use Rattle.strand_order.specs.Graph.{any_between, stores_word, word_edge, access_or_join, program_edge, gates, is_gate, since_gate, drained_by, join_edge, gate_edge, core_edge, is_edge}
use Rattle.strand_order.specs.Edges.{edge_from, edges_to, edges_below, edges_of}
use Rattle.strand_order.proofs.Paths.Before.{between_pass}

-- how many pairs of a number below n and an earlier one are related
total : (ℕ → ℕ → Bool) → ℕ → ℕ
total r zero = 0
total r (suc j) = total r j + count_below j (λ i. r i j)

count_split : (n : ℕ) (f g h : ℕ → Bool) → ((k : ℕ) → k < n → f k ≡ true → (g k ≡ true) ⊎ (h k ≡ true)) → count_below n f ≤ count_below n g + count_below n h
count_split zero f g h either = omega arith
count_split (suc n) f g h either =
    let rest = count_split n f g h (λ k lt is. either k (omega (arith, lt)) is) in
    let one : n ≤ suc n = omega arith in
    elim (cases_Bool (f n)) [
      | inr none ↦ omega (arith, count_no n f none, rest, count_mono n (suc n) g one, count_mono n (suc n) h one)
      | inl is ↦ elim (either n (omega arith) is) [
        | inl here ↦ omega (arith, count_yes n f is, rest, count_yes n g here, count_mono n (suc n) h one)
        | inr here ↦ omega (arith, count_yes n f is, rest, count_yes n h here, count_mono n (suc n) g one)
      ]
    ]

total_split : (n : ℕ) (r a b : ℕ → ℕ → Bool) → ((i j : ℕ) → i < j → r i j ≡ true → (a i j ≡ true) ⊎ (b i j ≡ true)) → total r n ≤ total a n + total b n
unfolding total
total_split zero r a b either = omega arith
total_split (suc n) r a b either = omega (arith, total_split n r a b either, count_split n (λ i. r i n) (λ i. a i n) (λ i. b i n) (λ i lt is. either i n lt is))

total_within : (n : ℕ) (r a : ℕ → ℕ → Bool) → ((i j : ℕ) → i < j → r i j ≡ true → a i j ≡ true) → total r n ≤ total a n
unfolding total
total_within n r a within = omega (arith, total_split n r a (λ i j. false) (λ i j lt is. inl (within i j lt is)), total_none n)
  where
    count_none : (n : ℕ) → count_below n (λ i. false) ≡ 0
    count_none zero = refl
    count_none (suc n) = count_none n

    total_none : (n : ℕ) → total (λ i j. false) n ≡ 0
    total_none zero = refl
    total_none (suc n) = omega (arith, total_none n, count_none n)

-- at most one number passes
count_one : (n : ℕ) (f : ℕ → Bool) → ((i k : ℕ) → i < n → k < n → f i ≡ true → f k ≡ true → i ≡ k) → count_below n f ≤ 1
count_one zero f one = omega arith
count_one (suc n) f one = elim (cases_Bool (f n)) [
  | inr none ↦ omega (arith, count_no n f none, count_one n f (λ i k lt less a b. one i k (omega (arith, lt)) (omega (arith, less)) a b))
  | inl is ↦ omega (arith, count_yes n f is, nothing n f (λ k lt h. omega (arith, lt, one k n (omega (arith, lt)) (omega arith) h is)))
]
  where
    nothing : (n : ℕ) (f : ℕ → Bool) → ((k : ℕ) → k < n → f k ≡ true → ⊥) → count_below n f ≡ 0
    nothing zero f none = refl
    nothing (suc n) f none = elim (cases_Bool (f n)) [
      | inl is ↦ absurd (none n (omega arith) is)
      | inr no_ ↦ count_no n f no_ ∙ nothing n f (λ k lt h. none k (omega (arith, lt)) h)
    ]

-- each number has at most one earlier one
total_last : (n : ℕ) (r : ℕ → ℕ → Bool) → ((i k j : ℕ) → i < j → k < j → r i j ≡ true → r k j ≡ true → i ≡ k) → total r n ≤ n
unfolding total
total_last zero r one = omega arith
total_last (suc n) r one = omega (arith, total_last n r one, count_one n (λ i. r i n) (λ i k lt less a b. one i k n lt less a b))

count_apart : (n : ℕ) (f g h : ℕ → Bool) → ((k : ℕ) → k < n → f k ≡ true → g k ≡ true → ⊥) → ((k : ℕ) → f k ≡ true → h k ≡ true) → ((k : ℕ) → g k ≡ true → h k ≡ true) → count_below n f + count_below n g ≤ count_below n h
count_apart zero f g h apart a b = omega arith
count_apart (suc n) f g h apart a b =
    let rest = count_apart n f g h (λ k lt x y. apart k (omega (arith, lt)) x y) a b in
    elim (cases_Bool (f n)) [
      | inl is ↦ elim (cases_Bool (g n)) [
        | inl too ↦ absurd (apart n (omega arith) is too)
        | inr none ↦ omega (arith, rest, count_yes n f is, count_no n g none, count_yes n h (a n is))
      ]
      | inr none ↦ elim (cases_Bool (g n)) [
        | inl is ↦ omega (arith, rest, count_no n f none, count_yes n g is, count_yes n h (b n is))
        | inr no_ ↦ let one : n ≤ suc n = omega arith in omega (arith, rest, count_no n f none, count_no n g no_, count_mono n (suc n) h one)
      ]
    ]

-- each number has at most one later one: it counts once it has met it
total_met : (n : ℕ) (r : ℕ → ℕ → Bool) → ((i j k : ℕ) → i < j → i < k → r i j ≡ true → r i k ≡ true → j ≡ k) → total r n ≤ count_below n (λ i. any_below n (λ j. nat_lt i j && r i j))
unfolding total
total_met zero r one = omega arith
total_met (suc n) r one =
    let met = λ (m i : ℕ). any_below m (λ j. nat_lt i j && r i j) in
    let step : count_below n (λ i. met n i) + count_below n (λ i. nat_lt i n && r i n) ≤ count_below n (λ i. met (suc n) i) = count_apart n (λ i. met n i) (λ i. nat_lt i n && r i n) (λ i. met (suc n) i) (λ i lt a b.
    let early = any_true n (λ j. nat_lt i j && r i j) a in
    let parts = and_parts (nat_lt i early.0) (r i early.0) early.2 in
    let late = and_parts (nat_lt i n) (r i n) b in
    omega (arith, early.1, one i early.0 n (ltb-true i early.0 parts.0) lt parts.1 late.1)) (λ i h. or_right (nat_lt i n && r i n) (met n i) h) (λ i h. or_left (nat_lt i n && r i n) (met n i) h) in
    let here : count_below n (λ i. r i n) ≤ count_below n (λ i. nat_lt i n && r i n) = count_up n (λ i. r i n) (λ i. nat_lt i n && r i n) (λ i lt h. and_from (nat_lt i n) (r i n) (lt-ltb i n lt) h) in
    let le : n ≤ suc n = omega arith in
    omega (arith, total_met n r one, step, here, count_mono n (suc n) (λ i. met (suc n) i) le)
  where
    count_up : (n : ℕ) (f g : ℕ → Bool) → ((k : ℕ) → k < n → f k ≡ true → g k ≡ true) → count_below n f ≤ count_below n g
    count_up n f g up = let none : count_below n (λ k. false) ≡ 0 = zeros n in omega (arith, none, count_split n f g (λ k. false) (λ k lt h. inl (up k lt h)))
      where
        zeros : (n : ℕ) → count_below n (λ k. false) ≡ 0
        zeros zero = refl
        zeros (suc n) = zeros n

total_next : (n : ℕ) (r : ℕ → ℕ → Bool) → ((i j k : ℕ) → i < j → i < k → r i j ≡ true → r i k ≡ true → j ≡ k) → total r n ≤ n
total_next n r one = omega (arith, total_met n r one, count_most n (λ i. any_below n (λ j. nat_lt i j && r i j)))

-- i is the last before j that passes as j asks
last_of : (ℕ → ℕ → Bool) → ℕ → ℕ → Bool
last_of f i j = f j i && not (any_between i j (f j))

-- j is the next after i that passes as i asks
next_of : (ℕ → ℕ → Bool) → ℕ → ℕ → Bool
next_of f i j = f i j && not (any_between i j (f i))

-- where none stands between, none that stands there passes
none_passes : (i j k : ℕ) (f : ℕ → Bool) → not (any_between i j f) ≡ true → f k ≡ true → i < k → k < j → ⊥
none_passes i j k f none is lo hi = both_ways (any_between i j f) (not-true (any_between i j f) none) (between_pass i j k f lo hi is)

total_last_of : (n : ℕ) (f : ℕ → ℕ → Bool) → total (last_of f) n ≤ n
unfolding last_of
total_last_of n f = total_last n (last_of f) (λ i k j lt less a b.
    let x = and_parts (f j i) (not (any_between i j (f j))) a in
    let y = and_parts (f j k) (not (any_between k j (f j))) b in
    let not_before : i < k → ⊥ = λ before. none_passes i j k (f j) x.1 y.0 before less in
    let not_after : k < i → ⊥ = λ after. none_passes k j i (f j) y.1 x.0 after lt in
    grind (arith, not_before, not_after))

total_next_of : (n : ℕ) (f : ℕ → ℕ → Bool) → total (next_of f) n ≤ n
unfolding next_of
total_next_of n f = total_next n (next_of f) (λ i j k lt less a b.
    let x = and_parts (f i j) (not (any_between i j (f i))) a in
    let y = and_parts (f i k) (not (any_between i k (f i))) b in
    let not_before : j < k → ⊥ = λ before. none_passes i k j (f i) y.1 x.0 lt before in
    let not_after : k < j → ⊥ = λ after. none_passes i j k (f i) x.1 y.0 less after in
    grind (arith, not_before, not_after))

module _ (t : List Event) where
  -- event k is a store to event j's word
  abbrev store_for : ℕ → ℕ → Bool
  store_for j k = stores_word t (word_at t j) k

  -- a join of event j's core
  abbrev join_for : ℕ → ℕ → Bool
  join_for j k = core_event_is is_join (core_at t j) t k

  -- an access or a join of event j's core
  abbrev step_for : ℕ → ℕ → Bool
  step_for j k = core_event_is access_or_join (core_at t j) t k

  word_cover : (i j : ℕ) → word_edge t i j ≡ true → (last_of store_for i j ≡ true) ⊎ (next_of store_for i j ≡ true)
  unfolding last_of next_of
  word_cover i j h =
      let parts = and_parts (conflicts t i j) (not (any_between i j (stores_word t (word_at t j)))) h in
      let conflict = conflict_parts t i j parts.0 in
      elim (or_cases (event_is is_store t i) (event_is is_store t j) conflict.3) [
        | inl s ↦ inl (and_from (store_for j i) (not (any_between i j (store_for j))) (and_from (event_is is_store t i) (word_at t i == word_at t j) s (eq-eqb (word_at t i) (word_at t j) conflict.2)) parts.1)
        | inr s ↦ inr (and_from (store_for i j) (not (any_between i j (store_for i))) (and_from (event_is is_store t j) (word_at t j == word_at t i) s (eq-eqb (word_at t j) (word_at t i) (sym conflict.2))) (ap (λ w. not (any_between i j (stores_word t w))) conflict.2 ∙ parts.1))
      ]

  program_cover : (i j : ℕ) → program_edge t i j ≡ true → last_of step_for i j ≡ true
  unfolding last_of
  program_cover i j h =
      let parts = and_parts (event_is access_or_join t j && core_event_is access_or_join (core_at t j) t i) (not (stands_between access_or_join (core_at t j) t i j)) h in
      and_from (step_for j i) (not (any_between i j (step_for j))) (and_parts (event_is access_or_join t j) (core_event_is access_or_join (core_at t j) t i) parts.0).1 parts.1

  join_cover : (i j : ℕ) → join_edge t i j ≡ true → next_of join_for i j ≡ true
  unfolding next_of
  join_cover i j h =
      let parts = and_parts (event_is is_join t j && core_event_is drained_by (core_at t j) t i) (not (stands_between is_join (core_at t j) t i j)) h in
      let one = and_parts (event_is is_join t j) (core_event_is drained_by (core_at t j) t i) parts.0 in
      let same : core_at t i ≡ core_at t j = eqb-true (core_at t i) (core_at t j) ((and_parts (event_is drained_by t i) (core_at t i == core_at t j) one.1).1) in
      and_from (join_for i j) (not (any_between i j (join_for i))) (and_from (event_is is_join t j) (core_at t j == core_at t i) one.0 (eq-eqb (core_at t j) (core_at t i) (sym same))) (ap (λ c. not (any_between i j (core_event_is is_join c t))) same ∙ parts.1)

  module _ (mode : Mode) where
    gates_alike : (i j k : ℕ) → same_strand mode t i j ≡ true → gates mode t i k ≡ gates mode t j k
    gates_alike i j k h = let parts = strand_parts mode t i j h in cc (parts.0, parts.1)

    since_cover : (i j : ℕ) → event_is is_barrier t j ≡ true → since_gate mode t i j ≡ true → next_of (gates mode t) i j ≡ true
    unfolding next_of
    since_cover i j b h =
        let parts = and_parts (event_is is_access t i && same_strand mode t i j) (not (any_between i j (gates mode t j))) h in
        let same = (and_parts (event_is is_access t i) (same_strand mode t i j) parts.0).1 in
        let here : gates mode t i j ≡ true = or_left (event_is is_barrier t j && same_strand mode t j i) (event_is is_join t j && (core_at t j == core_at t i)) (and_from (event_is is_barrier t j) (same_strand mode t j i) b (strand_flip mode t i j same)) in
        let none : any_between i j (gates mode t i) ≡ any_between i j (gates mode t j) = any_agree j (λ k. nat_lt i k && gates mode t i k) (λ k. nat_lt i k && gates mode t j k) (λ k lt. ap (λ x. nat_lt i k && x) (gates_alike i j k same)) in
        and_from (gates mode t i j) (not (any_between i j (gates mode t i))) here (ap not none ∙ parts.1)

    gate_cover : (i j : ℕ) → gate_edge mode t i j ≡ true → (last_of (gates mode t) i j ≡ true) ⊎ ((next_of (gates mode t) i j || next_of join_for i j) ≡ true)
    unfolding last_of
    gate_cover i j h = elim (or_cases (((event_is is_access t j || event_is is_barrier t j) && is_gate mode t i j) || (event_is is_barrier t j && since_gate mode t i j)) (join_edge t i j) h) [
      | inr join ↦ inr (or_right (next_of (gates mode t) i j) (next_of join_for i j) (join_cover i j join))
      | inl rest ↦ elim (or_cases ((event_is is_access t j || event_is is_barrier t j) && is_gate mode t i j) (event_is is_barrier t j && since_gate mode t i j) rest) [
        | inl g ↦ inl ((and_parts (event_is is_access t j || event_is is_barrier t j) (is_gate mode t i j) g).1)
        | inr s ↦ let parts = and_parts (event_is is_barrier t j) (since_gate mode t i j) s in inr (or_left (next_of (gates mode t) i j) (next_of join_for i j) (since_cover i j parts.0 parts.1))
      ]
    ]

    gate_few : (n : ℕ) → total (gate_edge mode t) n ≤ 3 * n
    gate_few n =
        let next = λ (i j : ℕ). next_of (gates mode t) i j || next_of join_for i j in
        let one = total_split n (gate_edge mode t) (last_of (gates mode t)) next (λ i j lt h. gate_cover i j h) in
        let two = total_split n next (next_of (gates mode t)) (next_of join_for) (λ i j lt h. or_cases (next_of (gates mode t) i j) (next_of join_for i j) h) in
        omega (arith, one, two, total_last_of n (gates mode t), total_next_of n (gates mode t), total_next_of n join_for)

  word_few : (n : ℕ) → total (word_edge t) n ≤ 2 * n
  word_few n = omega (arith, total_split n (word_edge t) (last_of store_for) (next_of store_for) (λ i j lt h. word_cover i j h), total_last_of n store_for, total_next_of n store_for)

  core_few : (mode : Mode) (n : ℕ) → total (core_edge mode t) n ≤ 3 * n
  core_few Strict n = omega (arith, total_within n (program_edge t) (last_of step_for) (λ i j lt h. program_cover i j h), total_last_of n step_for)
  core_few Epoch n = gate_few Epoch n
  core_few Strand n = gate_few Strand n

  edges_few : (mode : Mode) (n : ℕ) → total (is_edge mode t) n ≤ 5 * n
  edges_few mode n = omega (arith, word_few n, core_few mode n, total_split n (is_edge mode t) (word_edge t) (core_edge mode t) (λ i j lt h. or_cases (word_edge t i j) (core_edge mode t i j) ((and_parts (nat_lt i j) (word_edge t i j || core_edge mode t i j) h).1)))

  edges_length : (mode : Mode) (n : ℕ) → length (edges_below mode t n) ≡ total (is_edge mode t) n
  unfolding total edges_below
  edges_length mode zero = refl
  edges_length mode (suc n) =
      let test = λ (i : ℕ). is_edge mode t i n in
      omega (arith, length-append (edges_below mode t n) (edges_to mode t n n), edges_length mode n, length-map (list_below n test) (edge_from n), list_length n test)

pub few_edges : (mode : Mode) (t : List Event) → length (edges_of mode t) ≤ 5 * length t
few_edges mode t = omega (arith, edges_few t mode (length t), edges_length t mode (length t))
