-- Persist order: direct order, its closure, and sets of persists.
use Rattle.std.specs.Prelude.{◌≡◌, ℕ, zero, suc, Bool, true, false, ◌&&◌, ◌||◌, not, ◌==◌, nat_lt, List, [], ◌∷◌, slice_index_or, length, if◌then◌else◌}
use Rattle.strand_inputs.specs.declared.mode.Mode.{Mode}
use Rattle.strand_inputs.specs.declared.mode.Mode.TheVariants.{Strict, Epoch, Strand}
use Rattle.strand_events.specs.declared.event.Event.{Event}
use Rattle.strand_base.specs.Counting.{any_below}
use Rattle.strand_events.specs.Trace.{is_store, is_access, is_persist, is_barrier, is_new_strand, is_join, is_barrier_or_join, core_at, word_at, value_at, event_is, core_event_is}

-- both are accesses that touch the same word, and one of them is a store
abbrev pub conflicts : List Event → ℕ → ℕ → Bool
conflicts t a b = event_is is_access t a && event_is is_access t b && (word_at t a == word_at t b) && (event_is is_store t a || event_is is_store t b)

-- an event of the core that passes the test stands between events a and b
abbrev pub stands_between : (Event → Bool) → ℕ → List Event → ℕ → ℕ → Bool
stands_between test core t a b = any_below b (λ k. nat_lt a k && core_event_is test core t k)

-- two accesses of one core, of which a is the earlier, are ordered by the core's own events
abbrev pub core_orders : Mode → ℕ → List Event → ℕ → ℕ → Bool
core_orders Strict core t a b = true
core_orders Epoch core t a b = stands_between is_barrier_or_join core t a b
core_orders Strand core t a b = stands_between is_join core t a b || (stands_between is_barrier core t a b && not (stands_between is_new_strand core t a b))

-- access a comes directly before the later access b
abbrev pub directly_before : Mode → List Event → ℕ → ℕ → Bool
directly_before mode t a b = nat_lt a b && event_is is_access t a && event_is is_access t b && (conflicts t a b || ((core_at t a == core_at t b) && core_orders mode (core_at t a) t a b))

-- the accesses lead from a to b: each comes directly before the next
abbrev pub Leads : Mode → List Event → ℕ → List ℕ → ℕ → Type 0
Leads mode t a [] b = directly_before mode t a b ≡ true
Leads mode t a (x ∷ xs) b = (directly_before mode t a x ≡ true) × Leads mode t x xs b

-- a is before b
abbrev pub Before : Mode → List Event → ℕ → ℕ → Type 0
Before mode t a b = (xs : List ℕ) × Leads mode t a xs b

-- a set of persists, by their event numbers
abbrev pub Set : Type 0
Set = ℕ → Bool

-- the set of the numbers that are marked
abbrev pub set_of : List Bool → Set
set_of marks = λ p. slice_index_or marks p false

-- the set holds every persist that is before one of its members
abbrev pub IsDownwardClosed : Mode → List Event → Set → Type 0
IsDownwardClosed mode t set = (p q : ℕ) → event_is is_persist t p ≡ true → Before mode t p q → set q ≡ true → set p ≡ true

-- persist p's core made it before its own last join: some join of the core comes later
abbrev pub is_joined : List Event → ℕ → Bool
is_joined t p = event_is is_persist t p && stands_between is_join (core_at t p) t p (length t)

abbrev pub HoldsJoined : List Event → Set → Type 0
HoldsJoined t set = (p : ℕ) → is_joined t p ≡ true → set p ≡ true

-- event k is a persist to the word, and the set holds it
abbrev pub sets_word : List Event → Set → ℕ → ℕ → Bool
sets_word t set word k = event_is is_persist t k && set k && (word_at t k == word)

-- the value of the last persist to the word that the set holds among the events below n, else the initial value
abbrev pub image_below : List Event → Set → (ℕ → ℕ) → ℕ → ℕ → ℕ
image_below t set initial zero word = initial word
image_below t set initial (suc n) word = if sets_word t set word n then value_at t n else image_below t set initial n word

abbrev pub image : List Event → Set → (ℕ → ℕ) → ℕ → ℕ
image t set initial word = image_below t set initial (length t) word
