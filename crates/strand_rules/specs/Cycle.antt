-- The cycle rules: the state of a machine, the turn of a step, and the state after it.
use Rattle.std.specs.Prelude.{◌≡◌, ℕ, suc, ◌+◌, ◌-◌, ◌%◌, Bool, true, false, ◌&&◌, ◌||◌, not, ◌==◌, nat_lt, List, [], ◌∷◌, ◌++◌, slice_get, slice_index, slice_set, remove, replicate, length, Some, None, if◌then◌else◌}
use Rattle.std.specs.declared.option.Option.{Option}
use Rattle.strand_base.specs.Counting.{count_below, list_below, any_below}
use Rattle.strand_inputs.specs.Settings.{Settings}
use Rattle.strand_inputs.specs.declared.mode.Mode.{Mode}
use Rattle.strand_inputs.specs.declared.mode.Mode.TheVariants.{Strict, Epoch, Strand}
use Rattle.strand_inputs.specs.declared.step.Step.{Step}
use Rattle.strand_inputs.specs.declared.step.Step.TheVariants.{Core, Dispatch, Send, Write}
use Rattle.strand_exec.specs.Core as cores
use Rattle.strand_exec.specs.Memory.{Memory}
use Rattle.strand_exec.specs.declared.planned.Plan.{Plan}
use Rattle.strand_events.specs.declared.event.Event.{Event}
use Rattle.strand_events.specs.Trace.{is_access, is_persist, is_barrier, is_new_strand, is_join, core_at, word_at, value_at, event_is, core_event_is, strand_number, same_strand, epoch}
use Rattle.strand_events.specs.Order.{Set, set_of, conflicts}
use Rattle.strand_base.specs.Places.{persistent_place}
use Rattle.strand_events.specs.Waits.{is_met}
use Rattle.strand_inputs.specs.declared.conflict.Conflict.{Conflict}
use Rattle.strand_inputs.specs.declared.conflict.Conflict.TheVariants.{Stall, Tag}
use Rattle.strand_rules.specs.declared.turn.Cause.TheVariants as causes
use Rattle.strand_rules.specs.declared.turn.Turn.{Turn}
use Rattle.strand_rules.specs.declared.turn.Turn.TheVariants.{Done, Bubble, Fault}
use Rattle.strand_rules.specs.Visible.{Program, Visible, event_of, next_plan, retire}

pub record State : Type 0 where
  -- the cores, the memory and the trace
  pub now : Visible
  -- the cores that retired an instruction, in turn
  pub retired : List ℕ
  -- how many of its items each core has dispatched
  pub dispatched : List ℕ
  -- the events that are buffered persists, by marks
  pub buffered : List Bool
  -- the persists in flight, by their event numbers, in order of sending
  pub flight : List ℕ
  -- the events that are durable persists, by marks
  pub durable : List Bool

-- the state before the first step
abbrev pub start_at : List cores.Core → Memory → State
start_at cores memory = record { now = record { cores = cores; memory = memory; trace = [] }; retired = []; dispatched = replicate (length cores) 0; buffered = []; flight = []; durable = [] }

abbrev pub durable_set : State → Set
durable_set s = set_of s.durable

-- what a core's queue carries: its persists, under epoch also its barriers, under strand also its begins of strands
abbrev pub is_item : Mode → Event → Bool
is_item Strict e = is_persist e
is_item Epoch e = is_persist e || is_barrier e
is_item Strand e = is_persist e || is_barrier e || is_new_strand e

-- the items of core n, in trace order
abbrev pub items : Mode → List Event → ℕ → List ℕ
items mode t n = list_below (length t) (core_event_is (is_item mode) n t)

-- how many of its items core n has dispatched, the oldest ones
abbrev pub gone : State → ℕ → ℕ
gone s n = slice_index s.dispatched n

-- how many items are in the queue of core n: those that it hasn't dispatched
abbrev pub queued : Settings → State → ℕ → ℕ
queued g s n = length (items g.mode s.now.trace n) - gone s n

-- the first item of core n's queue
abbrev pub front : Settings → State → ℕ → Option ℕ
front g s n = slice_get (items g.mode s.now.trace n) (gone s n)

-- some persist of core n among the events below an end isn't durable
abbrev pub some_wait : List Event → Set → ℕ → ℕ → Bool
some_wait t durable n end = any_below end (λ p. core_event_is is_persist n t p && not (durable p))

-- an earlier access of another strand conflicts with event b, and some persist of its core at or before it isn't durable
abbrev pub must_wait : Mode → List Event → Set → ℕ → Bool
must_wait mode t durable b = any_below b (λ a. conflicts t a b && not (same_strand mode t a b) && some_wait t durable (core_at t a) (a + 1))

-- the wait of some access of core n isn't met
abbrev pub some_unmet : Mode → List Event → Set → ℕ → Bool
some_unmet mode t durable n = any_below (length t) (λ a. core_event_is is_access n t a && not (is_met mode t durable a))

-- under tag a join waits for the waits of its core's accesses
abbrev pub join_unmet : Conflict → Mode → List Event → Set → ℕ → Bool
join_unmet Stall mode t durable n = false
join_unmet Tag mode t durable n = some_unmet mode t durable n

-- core n's queue isn't empty, or some persist of core n isn't durable, or under tag the wait of some access of core n isn't met
abbrev pub join_waits : Settings → State → ℕ → Bool
join_waits g s n = not (queued g s n == 0) || some_wait s.now.trace (set_of s.durable) n (length s.now.trace) || join_unmet g.conflict g.mode s.now.trace (set_of s.durable) n

-- under stall an access waits for what the accesses of other strands that conflict with it wait for
abbrev pub access_waits : Conflict → Mode → List Event → Set → Event → Bool
access_waits Stall mode t durable e = is_access e && must_wait mode (t ++ e ∷ []) durable (length t)
access_waits Tag mode t durable e = false

-- an instruction of core n that makes the event e
abbrev pub event_turn : Settings → State → ℕ → Event → Turn
event_turn g s n e =
    if is_join e && join_waits g s n then Bubble causes.Join
    else if access_waits g.conflict g.mode s.now.trace (set_of s.durable) e then Bubble causes.Conflict
    else if is_item g.mode e && (queued g s n == g.queue) then Bubble causes.Queue
    else Done

-- An instruction that makes no event is done, one that traps among them.
abbrev pub made_turn : Settings → State → ℕ → Option Event → Turn
made_turn g s n None = Done
made_turn g s n (Some e) = event_turn g s n e

-- A core that has ended, or isn't there, retires nothing.
abbrev pub core_turn : Settings → State → ℕ → Option Plan → Turn
core_turn g s n None = Bubble causes.Ended
core_turn g s n (Some plan) = made_turn g s n (event_of n s.now.memory plan)

-- event k is an item of core n that was dispatched
abbrev pub is_dispatched : Settings → State → ℕ → ℕ → Bool
is_dispatched g s n k = core_event_is (is_item g.mode) n s.now.trace k && nat_lt (count_below k (core_event_is (is_item g.mode) n s.now.trace)) (gone s n)

-- event p is a persist of core n that was dispatched
abbrev pub is_accepted : Settings → State → ℕ → ℕ → Bool
is_accepted g s n p = is_dispatched g s n p && event_is is_persist s.now.trace p

-- event p is a dispatched persist of the strand of core n's event k
abbrev pub is_of_ring : Settings → State → ℕ → ℕ → ℕ → Bool
is_of_ring g s n k p = is_accepted g s n p && same_strand g.mode s.now.trace p k

-- how many places of its strand's ring are in use: its dispatched persists from the oldest one that isn't durable on
abbrev pub ring_use : Settings → State → ℕ → ℕ → ℕ
ring_use g s n k = count_below (length s.now.trace) (λ p. is_of_ring g s n k p && any_below (suc p) (λ q. is_of_ring g s n k q && not (set_of s.durable q)))

-- the buffer of a strand
abbrev pub buffer_of : Settings → ℕ → ℕ
buffer_of g strand = strand % g.buffers

-- a dispatched persist of core n in buffer b isn't durable
abbrev pub buffer_busy : Settings → State → ℕ → ℕ → Bool
buffer_busy g s n b = any_below (length s.now.trace) (λ p. is_accepted g s n p && (buffer_of g (strand_number g.mode s.now.trace p) == b) && not (set_of s.durable p))

-- A begin of a strand is an event of the strand before, so the number that it begins is one more than its own.
abbrev pub item_turn : Settings → State → ℕ → Option ℕ → Turn
item_turn g s n None = Bubble causes.NoItem
item_turn g s n (Some k) =
    if event_is is_persist s.now.trace k && (ring_use g s n k == g.ring) then Bubble causes.NoRoom
    else if event_is is_new_strand s.now.trace k && buffer_busy g s n (buffer_of g (strand_number g.mode s.now.trace k + 1)) then Bubble causes.NotEmpty
    else Done

-- event q is a persist of a lower epoch of p's strand that isn't durable
abbrev pub is_lower : Mode → List Event → Set → ℕ → ℕ → Bool
is_lower mode t durable q p = event_is is_persist t q && same_strand mode t q p && nat_lt (epoch mode t q) (epoch mode t p) && not (durable q)

-- some persist of a lower epoch of p's strand isn't durable
abbrev pub epoch_waits : Settings → State → ℕ → Bool
epoch_waits g s p = any_below (length s.now.trace) (λ q. is_lower g.mode s.now.trace (set_of s.durable) q p)

-- an earlier buffered persist of p's strand has the same word
abbrev pub word_waits : Settings → State → ℕ → Bool
word_waits g s p = any_below p (λ q. set_of s.buffered q && same_strand g.mode s.now.trace q p && (word_at s.now.trace q == word_at s.now.trace p))

-- event p is a buffered persist in buffer b of core n
abbrev pub is_in_buffer : Settings → State → ℕ → ℕ → ℕ → Bool
is_in_buffer g s n b p = set_of s.buffered p && (core_at s.now.trace p == n) && (buffer_of g (strand_number g.mode s.now.trace p) == b)

-- under tag a persist waits in its buffer until its wait is met
abbrev pub persist_unmet : Conflict → Mode → List Event → Set → ℕ → Bool
persist_unmet Stall mode t durable p = false
persist_unmet Tag mode t durable p = not (is_met mode t durable p)

abbrev pub is_eligible : Settings → State → ℕ → ℕ → ℕ → Bool
is_eligible g s n b p = is_in_buffer g s n b p && not (epoch_waits g s p) && not (word_waits g s p) && not (persist_unmet g.conflict g.mode s.now.trace (set_of s.durable) p)

-- the eligible persists of buffer b of core n, in trace order
abbrev pub eligible : Settings → State → ℕ → ℕ → List ℕ
eligible g s n b = list_below (length s.now.trace) (is_eligible g s n b)

abbrev pub send_turn : Settings → State → Option ℕ → Turn
send_turn g s None = Bubble causes.NoEntry
send_turn g s (Some p) = if length s.flight == g.flight then Bubble causes.FlightFull else Done

-- the request at place i of those in flight has event p's word
abbrev pub has_word_of : State → ℕ → ℕ → Bool
has_word_of s p i = word_at s.now.trace (slice_index s.flight i) == word_at s.now.trace p

-- an older request than the one at place j, which is event p, has its word
abbrev pub older_waits : State → ℕ → ℕ → Bool
older_waits s j p = any_below j (has_word_of s p)

abbrev pub write_turn : State → ℕ → Option ℕ → Turn
write_turn s j None = Bubble causes.NoEntry
write_turn s j (Some p) = if older_waits s j p then Bubble causes.OlderWaits else Done

-- the turn of a step, where the bank takes what is stored
abbrev pub turn : Settings → Program → State → Step → Turn
turn g p s (Core n) = core_turn g s n (next_plan p s.now n)
turn g p s (Dispatch n) = item_turn g s n (front g s n)
turn g p s (Send n b j) = send_turn g s (slice_get (eligible g s n b) j)
turn g p s (Write j) = write_turn s j (slice_get s.flight j)

-- the event of core n's next instruction
abbrev pub event_in : ℕ → Memory → Option Plan → Option Event
event_in n memory None = None
event_in n memory (Some plan) = event_of n memory plan

abbrev pub next_event : Program → Visible → ℕ → Option Event
next_event p v n = event_in n v.memory (next_plan p v n)

-- a new event has no mark
abbrev pub unmarked : List Bool → Option Event → List Bool
unmarked marks None = marks
unmarked marks (Some e) = marks ++ false ∷ []

-- core n retired its instruction, which made this event
abbrev pub core_after : Program → State → ℕ → Option Event → State
core_after p s n event = record s { now = retire p s.now n; retired = s.retired ++ n ∷ []; buffered = unmarked s.buffered event; durable = unmarked s.durable event }

-- core n dispatched its item k
abbrev pub item_after : State → ℕ → Option ℕ → State
item_after s n None = s
item_after s n (Some k) = record s { dispatched = slice_set s.dispatched n (gone s n + 1); buffered = if event_is is_persist s.now.trace k then slice_set s.buffered k true else s.buffered }

-- persist p was sent
abbrev pub send_after : State → Option ℕ → State
send_after s None = s
send_after s (Some p) = record s { buffered = slice_set s.buffered p false; flight = s.flight ++ p ∷ [] }

-- persist p, at place j of those in flight, was written
abbrev pub write_after : State → ℕ → Option ℕ → State
write_after s j None = s
write_after s j (Some p) = record s { flight = remove s.flight j; durable = slice_set s.durable p true }

-- the state after a step that is done
abbrev pub done_after : Settings → Program → State → Step → State
done_after g p s (Core n) = core_after p s n (next_event p s.now n)
done_after g p s (Dispatch n) = item_after s n (front g s n)
done_after g p s (Send n b j) = send_after s (slice_get (eligible g s n b) j)
done_after g p s (Write j) = write_after s j (slice_get s.flight j)

-- A bubble and a fault change nothing.
abbrev pub after_turn : {X : Type 0} → Turn → X → X → X
after_turn Done old new = new
after_turn (Bubble cause) old new = old
after_turn (Fault m) old new = old

-- the state after a step
abbrev pub after : Settings → Program → State → Step → State
after g p s step = after_turn (turn g p s step) s (done_after g p s step)

-- the state after some steps
abbrev pub after_steps : Settings → Program → State → List Step → State
after_steps g p s [] = s
after_steps g p s (step ∷ steps) = after_steps g p (after g p s step) steps

-- a run reaches the state
abbrev pub IsReached : Settings → Program → State → Type 0
IsReached g p s = (cores : List cores.Core) × (memory : Memory) × (steps : List Step) × (s ≡ after_steps g p (start_at cores memory) steps)

-- what a store puts: the place among the persistent words, and the value
pub record WordStore : Type 0 where
  pub place : ℕ
  pub value : ℕ

-- what a store of event k puts
abbrev pub word_store_of : State → ℕ → WordStore
word_store_of s k = record { place = persistent_place (word_at s.now.trace k); value = value_at s.now.trace k }
