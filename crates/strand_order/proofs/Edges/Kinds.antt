-- Serves clause edges of Graph::edges, the second step of build.
-- The edges to a load, a store, a barrier and a join: from a chain of its word or core, and from one event more.
use Rattle.std.proofs.Common.{◌≡◌, ℕ, suc, ◌+◌, ◌<◌, ◌≤◌, Bool, true, false, ◌||◌, ◌&&◌, inl, inr, List, refl, sym, ap, ◌∙◌, arith}
use Rattle.std.specs.Prelude.{slice_get, Option, Some, None, nat_le, max, ◌==◌}
use Rattle.std.proofs.lemmas.Bool.{and_parts, and_from, or_cases, eq-eqb, ne_eqb, eqb-true, false≢true, both_ways, false_from_ne_true}
use Rattle.strand_inputs.specs.declared.mode.Mode.{Mode}
use Rattle.strand_inputs.specs.declared.mode.Mode.TheVariants.{Strict, Epoch, Strand}
use Rattle.strand_events.specs.declared.event.Event.{Event}
use Rattle.strand_events.specs.Trace.{passes, is_access, is_store, is_barrier, is_join, is_new_strand, core_at, word_at, event_is, core_event_is, same_strand}
use Rattle.strand_events.proofs.PersistOrder.Epochs.{weaker, excludes, store_is_access, access_begins_none, strand_parts}
use Rattle.strand_events.proofs.TestLaws.{same_from}
use Rattle.strand_order.proofs.Paths.Before.{access_drained}
use Rattle.strand_order.proofs.Paths.Steps.{gate_no_access}
use Rattle.strand_order.specs.Graph.{stores_word, access_or_join, gates, drained_by, is_edge}
use Rattle.strand_order.specs.Lasts.{since_below, from_floor, cut, is_the_last, is_either}
use Rattle.strand_order.proofs.Edges.FromLast.{is_last, word_seen, gate_seen, barrier_seen, join_seen, core_seen, edge_is_seen}
use Rattle.strand_order.specs.CoreLasts.{core_lasts, begin_in, gate_in}
use Rattle.strand_order.specs.Sources.{is_access_to, single_in}
use Rattle.strand_order.proofs.Edges.LastEvent.{le_yes, le_true, since_passes, since_above, last_only}
use Rattle.strand_order.proofs.Edges.Gate.{gate_is, strand_by_begin}

load_shape : (a w s l : Bool) → (s ≡ true → a ≡ true) → ((a && true && w && (s || false)) && l) ≡ ((s && w) && l)
load_shape true true true l h = refl
load_shape true true false l h = refl
load_shape true false true l h = refl
load_shape true false false l h = refl
load_shape false w true l h = absurd (false≢true (h refl))
load_shape false w false l h = refl

store_shape : (a w s l : Bool) → ((a && true && w && (s || true)) && l) ≡ ((a && w) && l)
store_shape true true true l = refl
store_shape true true false l = refl
store_shape true false s l = refl
store_shape false w s l = refl

none_shape : (a w s l : Bool) → ((a && false && w && s) && l) ≡ false
none_shape true w s l = refl
none_shape false w s l = refl

or_none : (x : Bool) → (x || false) ≡ x
or_none true = refl
or_none false = refl

or_swap : (x y : Bool) → (x || y) ≡ (y || x)
or_swap true true = refl
or_swap true false = refl
or_swap false true = refl
or_swap false false = refl

module _ (t : List Event) (i j : ℕ) (lt : i < j) where
  word_part_load : event_is is_access t j ≡ true → event_is is_store t j ≡ false → word_seen t i j ≡ is_the_last (since_below j (stores_word t (word_at t j))) i
  word_part_load a s =
      let last = since_below j (stores_word t (word_at t j)) in
      rw (a, s) (load_shape (event_is is_access t i) (word_at t i == word_at t j) (event_is is_store t i) (nat_le last (i + 1)) (weaker is_store is_access store_is_access t i) ∙ last_only j i (stores_word t (word_at t j)) lt)

  word_part_store : event_is is_access t j ≡ true → event_is is_store t j ≡ true → word_seen t i j ≡ from_floor (is_access_to t (word_at t j)) (since_below j (stores_word t (word_at t j))) i
  word_part_store a s =
      let last = since_below j (stores_word t (word_at t j)) in
      rw (a, s) (store_shape (event_is is_access t i) (word_at t i == word_at t j) (event_is is_store t i) (nat_le last (i + 1)))

  word_part_none : event_is is_access t j ≡ false → word_seen t i j ≡ false
  word_part_none a =
      let last = since_below j (stores_word t (word_at t j)) in
      rw a (none_shape (event_is is_access t i) (word_at t i == word_at t j) (event_is is_store t i || event_is is_store t j) (nat_le last (i + 1)))

  program_part : event_is access_or_join t j ≡ true → core_seen Strict t i j ≡ is_the_last (core_lasts t (core_at t j) j).step i
  program_part x = rw x (last_only j i (core_event_is access_or_join (core_at t j) t) lt)

  program_none : event_is access_or_join t j ≡ false → core_seen Strict t i j ≡ false
  program_none x = rw x refl

  gate_last : (mode : Mode) → (gates mode t j i && is_last (since_below j (gates mode t j)) i) ≡ is_the_last (gate_in mode (core_lasts t (core_at t j) j)) i
  gate_last mode = last_only j i (gates mode t j) lt ∙ ap (λ x. is_the_last x i) (gate_is t j mode)

  pub gated : Mode → Bool
  gated mode = gate_seen mode t i j || barrier_seen mode t i j || join_seen t i j

  access_gated : (mode : Mode) → event_is is_access t j ≡ true → event_is is_barrier t j ≡ false → event_is is_join t j ≡ false → gated mode ≡ is_the_last (gate_in mode (core_lasts t (core_at t j) j)) i
  unfolding gated
  access_gated mode a b k = rw (a, b, k) (or_none ((gates mode t j i && is_last (since_below j (gates mode t j)) i) || false) ∙ or_none (gates mode t j i && is_last (since_below j (gates mode t j)) i) ∙ gate_last mode)

  none_gated : (mode : Mode) → event_is is_access t j ≡ false → event_is is_barrier t j ≡ false → event_is is_join t j ≡ false → gated mode ≡ false
  unfolding gated
  none_gated mode a b k = rw (a, b, k) refl

  join_gated : (mode : Mode) → event_is is_access t j ≡ false → event_is is_barrier t j ≡ false → event_is is_join t j ≡ true → gated mode ≡ from_floor (core_event_is drained_by (core_at t j) t) (core_lasts t (core_at t j) j).join i
  unfolding gated
  join_gated mode a b k = rw (a, b, k) refl

  -- what a barrier drains: the events of its core after its gate and the beginning of its strand
  drained : (mode : Mode) → (event_is is_access t i && same_strand mode t i j && is_last (since_below j (gates mode t j)) i) ≡ from_floor (core_event_is drained_by (core_at t j) t) (suc (max (begin_in mode (core_lasts t (core_at t j) j)) (gate_in mode (core_lasts t (core_at t j) j)))) i
  drained mode =
      let core = core_at t j in
      let m = core_lasts t core j in
      let begin = begin_in mode m in
      let gate = gate_in mode m in
      let floor = suc (max begin gate) in
      let chain = core_event_is drained_by core t in
      same_from (event_is is_access t i && same_strand mode t i j && is_last (since_below j (gates mode t j)) i) (from_floor chain floor i) (λ h.
      let parts = and_parts (event_is is_access t i && same_strand mode t i j) (is_last (since_below j (gates mode t j)) i) h in
      let one = and_parts (event_is is_access t i) (same_strand mode t i j) parts.0 in
      let c = (strand_parts mode t i j one.1).0 in
      let near = le_true (since_below j (gates mode t j)) (i + 1) parts.1 in
      let opened = le_true begin (i + 1) (sym (strand_by_begin t j mode i lt c (excludes is_access is_new_strand access_begins_none t i one.0)) ∙ one.1) in
      let not_gate : gate ≡ i + 1 → ⊥ = λ e. gate_no_access mode t i j (since_passes j (gates mode t j) i (gate_is t j mode ∙ e ∙ plus_one i)) one.0 in
      let not_begin : begin ≡ i + 1 → ⊥ = λ e. begin_access mode one.0 e in
      let low : floor ≤ i + 1 = grind (arith, near, gate_is t j mode, opened, not_gate, not_begin) in
      and_from (chain i) (nat_le floor (i + 1)) (and_from (event_is drained_by t i) (core_at t i == core) (weaker is_access drained_by access_drained t i one.0) (eq-eqb (core_at t i) core c)) (le_yes floor (i + 1) low)) (λ h.
      let parts = and_parts (chain i) (nat_le floor (i + 1)) h in
      let one = and_parts (event_is drained_by t i) (core_at t i == core) parts.0 in
      let c = eqb-true (core_at t i) core one.1 in
      let low = le_true floor (i + 1) parts.1 in
      let no_join : event_is is_join t i ≡ false = false_from_ne_true (event_is is_join t i) (λ k.
      let above = since_above j (core_event_is is_join core t) i lt (and_from (event_is is_join t i) (core_at t i == core) k one.1) in
      omega (arith, above, low)) in
      let no_barrier : event_is is_barrier t i ≡ false = false_from_ne_true (event_is is_barrier t i) (λ b.
      let above = since_above j (core_event_is is_barrier core t) i lt (and_from (event_is is_barrier t i) (core_at t i == core) b one.1) in
      let kept : cut begin m.barrier ≡ m.barrier = rw (le_yes begin m.barrier (omega (arith, above, low))) refl in
      omega (arith, above, low, kept)) in
      let a : event_is is_access t i ≡ true = drained_access t i one.0 no_barrier no_join in
      let same = strand_by_begin t j mode i lt c (excludes is_access is_new_strand access_begins_none t i a) ∙ le_yes begin (i + 1) (omega (arith, low)) in
      and_from (event_is is_access t i && same_strand mode t i j) (is_last (since_below j (gates mode t j)) i) (and_from (event_is is_access t i) (same_strand mode t i j) a same) (le_yes (since_below j (gates mode t j)) (i + 1) (omega (arith, low, gate_is t j mode))))
    where
      plus_one : (n : ℕ) → n + 1 ≡ suc n
      plus_one n = omega arith

      begin_access : (mode : Mode) → event_is is_access t i ≡ true → begin_in mode (core_lasts t (core_at t j) j) ≡ i + 1 → ⊥
      begin_access Strict a e = omega (arith, e)
      begin_access Epoch a e = omega (arith, e)
      begin_access Strand a e =
          let passes_ = since_passes j (core_event_is is_new_strand (core_at t j) t) i (e ∙ plus_one i) in
          both_ways (event_is is_new_strand t i) (excludes is_access is_new_strand access_begins_none t i a) ((and_parts (event_is is_new_strand t i) (core_at t i == core_at t j) passes_).0)

      drained_access : (t : List Event) (i : ℕ) → event_is drained_by t i ≡ true → event_is is_barrier t i ≡ false → event_is is_join t i ≡ false → event_is is_access t i ≡ true
      drained_access t i d b k = go (slice_get t i) d b k
        where
          go : (o : Option Event) → passes drained_by o ≡ true → passes is_barrier o ≡ false → passes is_join o ≡ false → passes is_access o ≡ true
          go None d b k = absurd (false≢true d)
          go (Some e) d b k = elim (or_cases (is_access e || is_barrier e) (is_join e) d) [
            | inr join ↦ absurd (both_ways (is_join e) k join)
            | inl rest ↦ elim (or_cases (is_access e) (is_barrier e) rest) [ inl a ↦ a | inr bar ↦ absurd (both_ways (is_barrier e) b bar) ]
          ]

  barrier_gated : (mode : Mode) → event_is is_access t j ≡ false → event_is is_barrier t j ≡ true → event_is is_join t j ≡ false → gated mode ≡ is_either (from_floor (core_event_is drained_by (core_at t j) t) (suc (max (begin_in mode (core_lasts t (core_at t j) j)) (gate_in mode (core_lasts t (core_at t j) j))))) (gate_in mode (core_lasts t (core_at t j) j)) i
  unfolding gated
  barrier_gated mode a b k =
      let gate = gates mode t j i && is_last (since_below j (gates mode t j)) i in
      let since = event_is is_access t i && same_strand mode t i j && is_last (since_below j (gates mode t j)) i in
      rw (a, b, k) (or_none (gate || since) ∙ or_swap gate since ∙ ap (λ x. x || gate) (drained mode) ∙ ap (λ x. from_floor (core_event_is drained_by (core_at t j) t) (suc (max (begin_in mode (core_lasts t (core_at t j) j)) (gate_in mode (core_lasts t (core_at t j) j)))) i || x) (gate_last mode))

  seen : (mode : Mode) → is_edge mode t i j ≡ (word_seen t i j || core_seen mode t i j)
  seen mode = sym (edge_is_seen t i j lt mode)

  -- an access's core part
  single : (mode : Mode) → event_is access_or_join t j ≡ true → event_is is_access t j ≡ true → event_is is_barrier t j ≡ false → event_is is_join t j ≡ false → core_seen mode t i j ≡ is_the_last (single_in mode (core_lasts t (core_at t j) j)) i
  unfolding gated
  single Strict x a b k = program_part x
  single Epoch x a b k = access_gated Epoch a b k
  single Strand x a b k = access_gated Strand a b k

  pub edge_to_load : (mode : Mode) → event_is access_or_join t j ≡ true → event_is is_access t j ≡ true → event_is is_store t j ≡ false → event_is is_barrier t j ≡ false → event_is is_join t j ≡ false
      → is_edge mode t i j ≡ is_either (is_the_last (since_below j (stores_word t (word_at t j)))) (single_in mode (core_lasts t (core_at t j) j)) i
  edge_to_load mode x a s b k = seen mode ∙ ap (λ y. y || core_seen mode t i j) (word_part_load a s) ∙ ap (λ y. is_the_last (since_below j (stores_word t (word_at t j))) i || y) (single mode x a b k)

  pub edge_to_store : (mode : Mode) → event_is access_or_join t j ≡ true → event_is is_access t j ≡ true → event_is is_store t j ≡ true → event_is is_barrier t j ≡ false → event_is is_join t j ≡ false
      → is_edge mode t i j ≡ is_either (from_floor (is_access_to t (word_at t j)) (since_below j (stores_word t (word_at t j)))) (single_in mode (core_lasts t (core_at t j) j)) i
  edge_to_store mode x a s b k = seen mode ∙ ap (λ y. y || core_seen mode t i j) (word_part_store a s) ∙ ap (λ y. from_floor (is_access_to t (word_at t j)) (since_below j (stores_word t (word_at t j))) i || y) (single mode x a b k)

  no_word : (mode : Mode) → event_is is_access t j ≡ false → is_edge mode t i j ≡ core_seen mode t i j
  no_word mode a = seen mode ∙ ap (λ y. y || core_seen mode t i j) (word_part_none a)

  not_the_last : is_the_last 0 i ≡ false
  not_the_last = ne_eqb (suc i) 0 (λ e. omega (arith, e))

  pub edge_to_join_strict : event_is access_or_join t j ≡ true → event_is is_access t j ≡ false → is_edge Strict t i j ≡ is_either (is_the_last 0) (core_lasts t (core_at t j) j).step i
  edge_to_join_strict x a = no_word Strict a ∙ program_part x ∙ sym (ap (λ y. y || is_the_last (core_lasts t (core_at t j) j).step i) not_the_last)

  pub edge_to_join : (mode : Mode) → (core_seen mode t i j ≡ gated mode) → event_is is_access t j ≡ false → event_is is_barrier t j ≡ false → event_is is_join t j ≡ true
      → is_edge mode t i j ≡ is_either (from_floor (core_event_is drained_by (core_at t j) t) (core_lasts t (core_at t j) j).join) 0 i
  edge_to_join mode by a b k = no_word mode a ∙ by ∙ join_gated mode a b k ∙ sym (ap (λ y. from_floor (core_event_is drained_by (core_at t j) t) (core_lasts t (core_at t j) j).join i || y) not_the_last ∙ or_none (from_floor (core_event_is drained_by (core_at t j) t) (core_lasts t (core_at t j) j).join i))

  pub edge_to_barrier : (mode : Mode) → (core_seen mode t i j ≡ gated mode) → event_is is_access t j ≡ false → event_is is_barrier t j ≡ true → event_is is_join t j ≡ false
      → is_edge mode t i j ≡ is_either (from_floor (core_event_is drained_by (core_at t j) t) (suc (max (begin_in mode (core_lasts t (core_at t j) j)) (gate_in mode (core_lasts t (core_at t j) j))))) (gate_in mode (core_lasts t (core_at t j) j)) i
  edge_to_barrier mode by a b k = no_word mode a ∙ by ∙ barrier_gated mode a b k

  pub edge_to_none : (mode : Mode) → event_is access_or_join t j ≡ false → event_is is_access t j ≡ false → event_is is_barrier t j ≡ false → event_is is_join t j ≡ false → is_edge mode t i j ≡ is_either (is_the_last 0) 0 i
  unfolding gated
  edge_to_none mode x a b k = no_word mode a ∙ go mode ∙ sym (ap (λ y. y || is_the_last 0 i) not_the_last ∙ not_the_last)
    where
      go : (mode : Mode) → core_seen mode t i j ≡ false
      go Strict = program_none x
      go Epoch = none_gated Epoch a b k
      go Strand = none_gated Strand a b k

  pub edge_to_barrier_strict : event_is access_or_join t j ≡ false → event_is is_access t j ≡ false → is_edge Strict t i j ≡ is_either (is_the_last 0) 0 i
  edge_to_barrier_strict x a = no_word Strict a ∙ program_none x ∙ sym (ap (λ y. y || is_the_last 0 i) not_the_last ∙ not_the_last)

  pub by_gates_epoch : core_seen Epoch t i j ≡ gated Epoch
  unfolding gated
  by_gates_epoch = refl

  pub by_gates_strand : core_seen Strand t i j ≡ gated Strand
  unfolding gated
  by_gates_strand = refl
