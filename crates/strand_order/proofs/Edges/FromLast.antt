-- Serves clause edges of Graph::edges, the second step of build.
-- An edge leads from the last of its kind: nothing that passes stands between.
use Rattle.std.proofs.Common.{◌≡◌, ℕ, zero, suc, ◌+◌, ◌<◌, ◌≤◌, Bool, false, ◌&&◌, ◌||◌, inl, inr, List, refl, arith}
use Rattle.std.specs.Prelude.{not, nat_lt, nat_le}
use Rattle.std.proofs.lemmas.Bool.{cases_Bool, cases_lt, lt-ltb}
use Rattle.std.proofs.lemmas.Bool.Decides.{nat_tests}
use Rattle.strand_inputs.specs.declared.mode.Mode.{Mode}
use Rattle.strand_inputs.specs.declared.mode.Mode.TheVariants.{Strict, Epoch, Strand}
use Rattle.strand_events.specs.declared.event.Event.{Event}
use Rattle.strand_events.specs.Trace.{is_access, is_barrier, is_join, core_at, word_at, event_is, core_event_is, same_strand}
use Rattle.strand_events.specs.Order.{conflicts}
use Rattle.strand_order.specs.Graph.{any_between, stores_word, access_or_join, gates, drained_by, is_edge}
use Rattle.strand_order.specs.Lasts.{since_below}
use Rattle.strand_order.proofs.Edges.LastEvent.{le_yes, le_no}

-- the last event is none after event i
abbrev pub is_last : ℕ → ℕ → Bool
is_last last i = nat_le last (i + 1)

abbrev pub word_seen : List Event → ℕ → ℕ → Bool
word_seen t i j = conflicts t i j && is_last (since_below j (stores_word t (word_at t j))) i

abbrev pub program_seen : List Event → ℕ → ℕ → Bool
program_seen t i j = event_is access_or_join t j && core_event_is access_or_join (core_at t j) t i && is_last (since_below j (core_event_is access_or_join (core_at t j) t)) i

abbrev pub gate_seen : Mode → List Event → ℕ → ℕ → Bool
gate_seen mode t i j = (event_is is_access t j || event_is is_barrier t j) && (gates mode t j i && is_last (since_below j (gates mode t j)) i)

abbrev pub barrier_seen : Mode → List Event → ℕ → ℕ → Bool
barrier_seen mode t i j = event_is is_barrier t j && (event_is is_access t i && same_strand mode t i j && is_last (since_below j (gates mode t j)) i)

abbrev pub join_seen : List Event → ℕ → ℕ → Bool
join_seen t i j = event_is is_join t j && core_event_is drained_by (core_at t j) t i && is_last (since_below j (core_event_is is_join (core_at t j) t)) i

abbrev pub core_seen : Mode → List Event → ℕ → ℕ → Bool
core_seen Strict t i j = program_seen t i j
core_seen Epoch t i j = gate_seen Epoch t i j || barrier_seen Epoch t i j || join_seen t i j
core_seen Strand t i j = gate_seen Strand t i j || barrier_seen Strand t i j || join_seen t i j

lt_no : (m n : ℕ) → n ≤ m → nat_lt m n ≡ false
lt_no m n le = grind (arith, nat_tests)

none_between : (i n : ℕ) (test : ℕ → Bool) → n ≤ i + 1 → any_between i n test ≡ false
none_between i zero test le = refl
none_between i (suc n) test le = let far : n ≤ i = omega arith in rw (lt_no i n far, none_between i n test (omega arith)) refl

-- nothing between i and n passes exactly where the last that passes is at most i
nothing_after : (i n : ℕ) (test : ℕ → Bool) → nat_le (since_below n test) (i + 1) ≡ not (any_between i n test)
nothing_after i zero test = le_yes 0 (i + 1) (omega arith)
nothing_after i (suc n) test = elim (cases_Bool (test n)) [
  | inl yes_ ↦ elim (cases_lt i n) [
    | inl lt ↦ let far : i + 1 < suc n = omega arith in rw (yes_, le_no (suc n) (i + 1) far, lt-ltb i n lt) refl
    | inr le ↦ let near : suc n ≤ i + 1 = omega arith in rw (yes_, le_yes (suc n) (i + 1) near, lt_no i n le, none_between i n test (omega arith)) refl
  ]
  | inr no_ ↦ rw (no_, nothing_after i n test) (elim (cases_Bool (nat_lt i n)) [ inl lt ↦ rw lt refl | inr le ↦ rw le refl ])
]

module _ (t : List Event) (i j : ℕ) (lt : i < j) where
  pub edge_is_seen : (mode : Mode) → (word_seen t i j || core_seen mode t i j) ≡ is_edge mode t i j
  edge_is_seen Strict = rw (nothing_after i j (stores_word t (word_at t j)), nothing_after i j (core_event_is access_or_join (core_at t j) t), lt-ltb i j lt) refl
  edge_is_seen Epoch = rw (nothing_after i j (stores_word t (word_at t j)), nothing_after i j (gates Epoch t j), nothing_after i j (core_event_is is_join (core_at t j) t), lt-ltb i j lt) refl
  edge_is_seen Strand = rw (nothing_after i j (stores_word t (word_at t j)), nothing_after i j (gates Strand t j), nothing_after i j (core_event_is is_join (core_at t j) t), lt-ltb i j lt) refl
