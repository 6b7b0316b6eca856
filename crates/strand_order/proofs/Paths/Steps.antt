-- Serves paths_are_persist_order and paths_past_barriers_and_joins_are_direct: one edge from an access or a gate.
-- Graph::edges and strand_path stand on gate_no_access and edge_less of it.
use Rattle.std.proofs.Common.{◌≡◌, ℕ, suc, ◌<◌, true, ◌||◌, ◌&&◌, ◌⊎◌, inl, inr, List, refl, sym, ap, ◌∙◌, arith}
use Rattle.std.specs.Prelude.{not, ◌==◌, nat_lt}
use Rattle.std.proofs.lemmas.Bool.{and_parts, and_from, or_cases, or_left, or_right, eqb-true, eq-eqb, ltb-true, lt-ltb}
use Rattle.strand_inputs.specs.declared.mode.Mode.{Mode}
use Rattle.strand_inputs.specs.declared.mode.Mode.TheVariants.{Strict, Epoch, Strand}
use Rattle.strand_events.specs.declared.event.Event.{Event}
use Rattle.strand_events.specs.Trace.{is_access, is_barrier, is_join, is_new_strand, is_barrier_or_join, core_at, word_at, event_is, core_event_is, same_strand}
use Rattle.strand_events.specs.Order.{conflicts, stands_between, core_orders, directly_before}
use Rattle.strand_order.specs.Graph.{any_between, stores_word, word_edge, access_or_join, program_edge, gates, is_gate, since_gate, drained_by, join_edge, gate_edge, core_edge, is_edge}
use Rattle.strand_events.proofs.PersistOrder.Epochs.{weaker, either_passes, access_is_no_border, strand_parts, strand_chain, between_parts, between_from, barrier_either, join_either, conflict_parts, no_begin}

-- access x of barrier or join j's core comes before j, and j orders it before the accesses that j gates
pub record Gated (mode : Mode) (t : List Event) (x j : ℕ) : Type 0 where
  pub access : event_is is_access t x ≡ true
  pub core : core_at t x ≡ core_at t j
  pub earlier : x < j
  pub why : (event_is is_join t j ≡ true) ⊎ ((event_is is_barrier t j ≡ true) × ((same_strand mode t x j ≡ true) ⊎ (stands_between is_join (core_at t x) t x j ≡ true)))

direct_from : (mode : Mode) (t : List Event) (a b : ℕ) → a < b → event_is is_access t a ≡ true → event_is is_access t b ≡ true → (conflicts t a b || ((core_at t a == core_at t b) && core_orders mode (core_at t a) t a b)) ≡ true → directly_before mode t a b ≡ true
direct_from mode t a b lt x y why = and_from (nat_lt a b && event_is is_access t a && event_is is_access t b) (conflicts t a b || ((core_at t a == core_at t b) && core_orders mode (core_at t a) t a b)) (and_from (nat_lt a b && event_is is_access t a) (event_is is_access t b) (and_from (nat_lt a b) (event_is is_access t a) (lt-ltb a b lt) x) y) why

by_core : (mode : Mode) (t : List Event) (a b : ℕ) → a < b → event_is is_access t a ≡ true → event_is is_access t b ≡ true → core_at t a ≡ core_at t b → core_orders mode (core_at t a) t a b ≡ true → directly_before mode t a b ≡ true
by_core mode t a b lt x y c o = direct_from mode t a b lt x y (or_right (conflicts t a b) ((core_at t a == core_at t b) && core_orders mode (core_at t a) t a b) (and_from (core_at t a == core_at t b) (core_orders mode (core_at t a) t a b) (eq-eqb (core_at t a) (core_at t b) c) o))

-- the gate i of access j is of its core
gate_core : (mode : Mode) (t : List Event) (i j : ℕ) → gates mode t j i ≡ true → core_at t i ≡ core_at t j
gate_core mode t i j g = elim (or_cases (event_is is_barrier t i && same_strand mode t i j) (event_is is_join t i && (core_at t i == core_at t j)) g) [
  | inl b ↦ (strand_parts mode t i j ((and_parts (event_is is_barrier t i) (same_strand mode t i j) b).1)).0
  | inr k ↦ eqb-true (core_at t i) (core_at t j) ((and_parts (event_is is_join t i) (core_at t i == core_at t j) k).1)
]

gate_kind : (mode : Mode) (t : List Event) (i j : ℕ) → gates mode t j i ≡ true → ((event_is is_barrier t i ≡ true) × (same_strand mode t i j ≡ true)) ⊎ (event_is is_join t i ≡ true)
gate_kind mode t i j g = elim (or_cases (event_is is_barrier t i && same_strand mode t i j) (event_is is_join t i && (core_at t i == core_at t j)) g) [
  | inl b ↦ let parts = and_parts (event_is is_barrier t i) (same_strand mode t i j) b in inl (parts.0, parts.1)
  | inr k ↦ inr ((and_parts (event_is is_join t i) (core_at t i == core_at t j) k).0)
]

pub gate_no_access : (mode : Mode) (t : List Event) (i j : ℕ) → gates mode t j i ≡ true → event_is is_access t i ≡ true → ⊥
gate_no_access mode t i j g a = elim (gate_kind mode t i j g) [ inl b ↦ access_is_no_border t i a (weaker is_barrier is_barrier_or_join barrier_either t i b.0) | inr k ↦ access_is_no_border t i a (weaker is_join is_barrier_or_join join_either t i k) ]

-- what stands between x and j, by x's gate i and j's gate i
tie : (mode : Mode) (t : List Event) (x i j : ℕ) → Gated mode t x i → i < j → gates mode t j i ≡ true → ((same_strand mode t x j ≡ true) × (event_is is_barrier t i ≡ true)) ⊎ (stands_between is_join (core_at t x) t x j ≡ true)
tie mode t x i j gated lt g = elim (gate_kind mode t i j g) [
  | inl b ↦ elim gated.why [
    | inl join ↦ inr (between_from is_join (core_at t x) t x j i gated.earlier lt join (sym gated.core))
    | inr w ↦ elim w.1 [
      | inl same ↦ inl (strand_chain mode t x i j same b.1, b.0)
      | inr join ↦
          let k = between_parts is_join (core_at t x) t x i join in
          let hi : k.0 < j = omega (arith, k.2) in
          inr (between_from is_join (core_at t x) t x j k.0 k.1 hi k.3 k.4)
    ]
  ]
  | inr join ↦ inr (between_from is_join (core_at t x) t x j i gated.earlier lt join (sym gated.core))
]

-- the gate i of access j orders x before j
gate_orders_epoch : (t : List Event) (x i j : ℕ) → Gated Epoch t x i → i < j → gates Epoch t j i ≡ true → core_orders Epoch (core_at t x) t x j ≡ true
gate_orders_epoch t x i j gated lt g =
    let kind : event_is is_barrier_or_join t i ≡ true = elim (gate_kind Epoch t i j g) [ inl b ↦ weaker is_barrier is_barrier_or_join barrier_either t i b.0 | inr k ↦ weaker is_join is_barrier_or_join join_either t i k ] in
    between_from is_barrier_or_join (core_at t x) t x j i gated.earlier lt kind (sym gated.core)

gate_orders_strand : (t : List Event) (x i j : ℕ) → Gated Strand t x i → i < j → gates Strand t j i ≡ true → core_orders Strand (core_at t x) t x j ≡ true
gate_orders_strand t x i j gated lt g = elim (tie Strand t x i j gated lt g) [
  | inl (same, isb) ↦
      let far : x < j = omega (arith, gated.earlier) in
      or_right (stands_between is_join (core_at t x) t x j) (stands_between is_barrier (core_at t x) t x j && not (stands_between is_new_strand (core_at t x) t x j)) (and_from (stands_between is_barrier (core_at t x) t x j) (not (stands_between is_new_strand (core_at t x) t x j)) (between_from is_barrier (core_at t x) t x j i gated.earlier lt isb (sym gated.core)) (ap not (no_begin t x j far same)))
  | inr join ↦ or_left (stands_between is_join (core_at t x) t x j) (stands_between is_barrier (core_at t x) t x j && not (stands_between is_new_strand (core_at t x) t x j)) join
]

-- the edge leads to an access that a comes directly before, or to a barrier or join that orders a before what it gates
abbrev pub Next : Mode → List Event → ℕ → ℕ → Type 0
Next mode t a j = ((event_is is_access t j ≡ true) × (directly_before mode t a j ≡ true)) ⊎ Gated mode t a j

-- access a itself, or a barrier or join that orders a
abbrev pub From : Mode → List Event → ℕ → ℕ → Type 0
From mode t a i = ((a ≡ i) × (event_is is_access t a ≡ true)) ⊎ Gated mode t a i

module _ (mode : Mode) (t : List Event) (a : ℕ) where
  gated_kind : (i : ℕ) → Gated mode t a i → event_is is_barrier_or_join t i ≡ true
  gated_kind i g = elim g.why [ inl join ↦ weaker is_join is_barrier_or_join join_either t i join | inr w ↦ weaker is_barrier is_barrier_or_join barrier_either t i w.0 ]

  from_access : (i : ℕ) → From mode t a i → event_is is_access t i ≡ true → (a ≡ i) × (event_is is_access t a ≡ true)
  from_access i f x = elim f [ inl start ↦ start | inr g ↦ absurd (access_is_no_border t i x (gated_kind i g)) ]

  from_core : (i : ℕ) → From mode t a i → (core_at t a ≡ core_at t i) × (event_is is_access t a ≡ true) × (a < suc i)
  from_core i f = elim f [ inl (same, x) ↦ (ap (core_at t) same, x, omega (arith, same)) | inr g ↦ (g.core, g.access, omega (arith, g.earlier)) ]

  step_word : (i j : ℕ) → i < j → From mode t a i → word_edge t i j ≡ true → Next mode t a j
  step_word i j lt f e =
      let conflict = (and_parts (conflicts t i j) (not (any_between i j (stores_word t (word_at t j)))) e).0 in
      let both = conflict_parts t i j conflict in
      let start = from_access i f both.0 in
      let direct = direct_from mode t i j lt both.0 both.1 (or_left (conflicts t i j) ((core_at t i == core_at t j) && core_orders mode (core_at t i) t i j) conflict) in
      inl (both.1, ap (λ x. directly_before mode t x j) start.0 ∙ direct)

  -- to a join from an event of its core
  step_join : (i j : ℕ) → i < j → core_at t i ≡ core_at t j → event_is is_join t j ≡ true → From mode t a i → Next mode t a j
  step_join i j lt c y f =
      let own = from_core i f in
      inr (record { access = own.1; core = own.0 ∙ c; earlier = omega (arith, own.2, lt); why = inl y })

  step_program : mode ≡ Strict → (i j : ℕ) → i < j → From mode t a i → program_edge t i j ≡ true → Next mode t a j
  step_program strict i j lt f e =
      let one = and_parts (event_is access_or_join t j && core_event_is access_or_join (core_at t j) t i) (not (stands_between access_or_join (core_at t j) t i j)) e in
      let two = and_parts (event_is access_or_join t j) (core_event_is access_or_join (core_at t j) t i) one.0 in
      let c = eqb-true (core_at t i) (core_at t j) ((and_parts (event_is access_or_join t i) (core_at t i == core_at t j) two.1).1) in
      let own = from_core i f in
      elim (either_passes is_access is_join t j two.0) [
        | inl y ↦ inl (y, by_core mode t a j (omega (arith, own.2, lt)) own.1 y (own.0 ∙ c) (ap (λ m. core_orders m (core_at t a) t a j) strict))
        | inr y ↦ step_join i j lt c y f
      ]

  step_gates : ((x i j : ℕ) → Gated mode t x i → i < j → gates mode t j i ≡ true → core_orders mode (core_at t x) t x j ≡ true) → (i j : ℕ) → i < j → From mode t a i → gate_edge mode t i j ≡ true → Next mode t a j
  step_gates orders i j lt f e = elim (or_cases (((event_is is_access t j || event_is is_barrier t j) && is_gate mode t i j) || (event_is is_barrier t j && since_gate mode t i j)) (join_edge t i j) e) [
    | inl h ↦ elim (or_cases ((event_is is_access t j || event_is is_barrier t j) && is_gate mode t i j) (event_is is_barrier t j && since_gate mode t i j) h) [
      | inl k ↦
          let parts = and_parts (event_is is_access t j || event_is is_barrier t j) (is_gate mode t i j) k in
          let g = (and_parts (gates mode t j i) (not (any_between i j (gates mode t j))) parts.1).0 in
          elim f [
            | inl (same, x) ↦ absurd (gate_no_access mode t i j g (ap (event_is is_access t) (sym same) ∙ x))
            | inr gated ↦ elim (or_cases (event_is is_access t j) (event_is is_barrier t j) parts.0) [
              | inl y ↦ inl (y, by_core mode t a j (omega (arith, gated.earlier, lt)) gated.access y (gated.core ∙ gate_core mode t i j g) (orders a i j gated lt g))
              | inr y ↦ inr (record { access = gated.access; core = gated.core ∙ gate_core mode t i j g; earlier = omega (arith, gated.earlier, lt); why = inr (y, elim (tie mode t a i j gated lt g) [ inl (same, isb) ↦ inl same | inr join ↦ inr join ]) })
            ]
          ]
      | inr k ↦
          let parts = and_parts (event_is is_barrier t j) (since_gate mode t i j) k in
          let inner = and_parts (event_is is_access t i && same_strand mode t i j) (not (any_between i j (gates mode t j))) parts.1 in
          let both = and_parts (event_is is_access t i) (same_strand mode t i j) inner.0 in
          let start = from_access i f both.0 in
          let same : same_strand mode t a j ≡ true = ap (λ x. same_strand mode t x j) start.0 ∙ both.1 in
          inr (record { access = start.1; core = (strand_parts mode t a j same).0; earlier = omega (arith, start.0, lt); why = inr (parts.0, inl same) })
    ]
    | inr h ↦
        let one = and_parts (event_is is_join t j && core_event_is drained_by (core_at t j) t i) (not (stands_between is_join (core_at t j) t i j)) h in
        let two = and_parts (event_is is_join t j) (core_event_is drained_by (core_at t j) t i) one.0 in
        step_join i j lt (eqb-true (core_at t i) (core_at t j) ((and_parts (event_is drained_by t i) (core_at t i == core_at t j) two.1).1)) two.0 f
  ]

step_core : (mode : Mode) (t : List Event) (a i j : ℕ) → i < j → From mode t a i → core_edge mode t i j ≡ true → Next mode t a j
step_core Strict t a i j lt f e = step_program Strict t a refl i j lt f e
step_core Epoch t a i j lt f e = step_gates Epoch t a (gate_orders_epoch t) i j lt f e
step_core Strand t a i j lt f e = step_gates Strand t a (gate_orders_strand t) i j lt f e

pub edge_less : (mode : Mode) (t : List Event) (i j : ℕ) → is_edge mode t i j ≡ true → i < j
edge_less mode t i j e = ltb-true i j ((and_parts (nat_lt i j) (word_edge t i j || core_edge mode t i j) e).0)

pub step : (mode : Mode) (t : List Event) (a i j : ℕ) → From mode t a i → is_edge mode t i j ≡ true → Next mode t a j
step mode t a i j f e =
    let lt = edge_less mode t i j e in
    elim (or_cases (word_edge t i j) (core_edge mode t i j) ((and_parts (nat_lt i j) (word_edge t i j || core_edge mode t i j) e).1)) [ inl word ↦ step_word mode t a i j lt f word | inr core ↦ step_core mode t a i j lt f core ]

-- the last step, to an access
pub last : (mode : Mode) (t : List Event) (a b : ℕ) → event_is is_access t b ≡ true → Next mode t a b → directly_before mode t a b ≡ true
last mode t a b y (inl (z, direct)) = direct
last mode t a b y (inr g) = absurd (access_is_no_border t b y (gated_kind mode t a b g))
