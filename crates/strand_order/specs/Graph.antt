-- The graph of a trace: few edges, whose paths between accesses are persist order's.
use Rattle.std.specs.Prelude.{◌≡◌, ℕ, Bool, true, ◌&&◌, ◌||◌, not, ◌==◌, nat_lt, List, [], ◌∷◌}
use Rattle.strand_inputs.specs.declared.mode.Mode.{Mode}
use Rattle.strand_inputs.specs.declared.mode.Mode.TheVariants.{Strict, Epoch, Strand}
use Rattle.strand_base.specs.Counting.{any_below}
use Rattle.strand_events.specs.declared.event.Event.{Event}
use Rattle.strand_events.specs.Trace.{is_store, is_access, is_barrier, is_join, core_at, word_at, event_is, core_event_is, same_strand}
use Rattle.strand_events.specs.Order.{conflicts, stands_between}

-- some number between i and j passes the test
abbrev pub any_between : ℕ → ℕ → (ℕ → Bool) → Bool
any_between i j test = any_below j (λ k. nat_lt i k && test k)

-- event k is a store to the word
abbrev pub stores_word : List Event → ℕ → ℕ → Bool
stores_word t word k = event_is is_store t k && (word_at t k == word)

-- the last store to an access's word before it, and before a store the loads since then
abbrev pub word_edge : List Event → ℕ → ℕ → Bool
word_edge t i j = conflicts t i j && not (any_between i j (stores_word t (word_at t j)))

abbrev pub access_or_join : Event → Bool
access_or_join e = is_access e || is_join e

-- an access or a join, and its core's previous access or join
abbrev pub program_edge : List Event → ℕ → ℕ → Bool
program_edge t i j = event_is access_or_join t j && core_event_is access_or_join (core_at t j) t i && not (stands_between access_or_join (core_at t j) t i j)

-- event k is a barrier of j's strand or a join of j's core
abbrev pub gates : Mode → List Event → ℕ → ℕ → Bool
gates mode t j k = (event_is is_barrier t k && same_strand mode t k j) || (event_is is_join t k && (core_at t k == core_at t j))

-- the gate of j: the last such event before it
abbrev pub is_gate : Mode → List Event → ℕ → ℕ → Bool
is_gate mode t i j = gates mode t j i && not (any_between i j (gates mode t j))

-- an access of j's strand after the gate of j, or from the beginning where there is none
abbrev pub since_gate : Mode → List Event → ℕ → ℕ → Bool
since_gate mode t i j = event_is is_access t i && same_strand mode t i j && not (any_between i j (gates mode t j))

abbrev pub drained_by : Event → Bool
drained_by e = is_access e || is_barrier e || is_join e

-- a join, and its core's last join before it or an access or barrier since then
abbrev pub join_edge : List Event → ℕ → ℕ → Bool
join_edge t i j = event_is is_join t j && core_event_is drained_by (core_at t j) t i && not (stands_between is_join (core_at t j) t i j)

-- an access or a barrier, and its gate; a barrier, and an access since its gate; a join, and what it drains
abbrev pub gate_edge : Mode → List Event → ℕ → ℕ → Bool
gate_edge mode t i j = ((event_is is_access t j || event_is is_barrier t j) && is_gate mode t i j) || (event_is is_barrier t j && since_gate mode t i j) || join_edge t i j

abbrev pub core_edge : Mode → List Event → ℕ → ℕ → Bool
core_edge Strict t i j = program_edge t i j
core_edge Epoch t i j = gate_edge Epoch t i j
core_edge Strand t i j = gate_edge Strand t i j

-- there is an edge from event i to the later event j
abbrev pub is_edge : Mode → List Event → ℕ → ℕ → Bool
is_edge mode t i j = nat_lt i j && (word_edge t i j || core_edge mode t i j)

-- the events lead from a to b: from each to the next there is an edge
abbrev pub EdgePath : Mode → List Event → ℕ → List ℕ → ℕ → Type 0
EdgePath mode t a [] b = is_edge mode t a b ≡ true
EdgePath mode t a (x ∷ xs) b = (is_edge mode t a x ≡ true) × EdgePath mode t x xs b

-- a path of edges leads from a to b
abbrev pub LeadsTo : Mode → List Event → ℕ → ℕ → Type 0
LeadsTo mode t a b = (xs : List ℕ) × EdgePath mode t a xs b
