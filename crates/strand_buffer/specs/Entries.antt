-- The list of a buffer, the oldest entry first, and which of its entries may be sent.
use Rattle.std.specs.Prelude.{ℕ, Bool, true, false, ◌&&◌, not, ◌==◌, nat_lt, List, [], ◌∷◌, length, slice_get, slice_index, Some, None, if◌then◌else◌}
use Rattle.std.specs.declared.option.Option.{Option}
use Rattle.strand_base.specs.declared.limits.TheConstants.{CORE_ROOM}
use Rattle.strand_base.specs.Counting.{any_below, list_below}
use Rattle.strand_buffer.specs.declared.entry.Entry.{Entry}
use Rattle.strand_buffer.specs.declared.entry.Stage.{Stage}
use Rattle.strand_buffer.specs.declared.entry.Stage.TheVariants.{Buffered, Sent, Released}

-- the stages of an entry that waits to be sent, of one that was sent and isn't durable, and of one that isn't durable
abbrev pub is_waiting : Stage → Bool
is_waiting Buffered = true
is_waiting Sent = false
is_waiting Released = false

abbrev pub is_in_flight : Stage → Bool
is_in_flight Buffered = false
is_in_flight Sent = true
is_in_flight Released = false

abbrev pub is_unreleased : Stage → Bool
is_unreleased Buffered = true
is_unreleased Sent = true
is_unreleased Released = false

-- the entry waits to be sent
abbrev pub is_buffered : Entry → Bool
is_buffered e = is_waiting e.stage

-- the entry was sent, and isn't durable
abbrev pub is_sent : Entry → Bool
is_sent e = is_in_flight e.stage

-- the entry isn't durable
abbrev pub is_open : Entry → Bool
is_open e = is_unreleased e.stage

abbrev pub passes : (Entry → Bool) → Option Entry → Bool
passes test None = false
passes test (Some e) = test e

abbrev pub epoch_in : Option Entry → ℕ
epoch_in None = 0
epoch_in (Some e) = e.epoch

abbrev pub word_in : Option Entry → ℕ
word_in None = 0
word_in (Some e) = e.word

abbrev pub number_in : Option Entry → ℕ
number_in None = 0
number_in (Some e) = e.number

abbrev pub value_in : Option Entry → ℕ
value_in None = 0
value_in (Some e) = e.value

-- entry i is there and passes the test
abbrev pub entry_is : (Entry → Bool) → List Entry → ℕ → Bool
entry_is test entries i = passes test (slice_get entries i)

-- the parts of entry i, each 0 where there is none
abbrev pub epoch_at : List Entry → ℕ → ℕ
epoch_at entries i = epoch_in (slice_get entries i)

abbrev pub word_at : List Entry → ℕ → ℕ
word_at entries i = word_in (slice_get entries i)

abbrev pub number_at : List Entry → ℕ → ℕ
number_at entries i = number_in (slice_get entries i)

abbrev pub value_at : List Entry → ℕ → ℕ
value_at entries i = value_in (slice_get entries i)

-- some entry of a lower epoch than entry i's isn't durable
abbrev pub epoch_waits : List Entry → ℕ → Bool
epoch_waits entries i = any_below (length entries) (λ h. entry_is is_open entries h && nat_lt (epoch_at entries h) (epoch_at entries i))

-- entry h waits to be sent, and has this word
abbrev pub waits_with : List Entry → ℕ → ℕ → Bool
waits_with entries word h = entry_is is_buffered entries h && (word_at entries h == word)

-- an earlier entry that waits has entry i's word
abbrev pub word_waits : List Entry → ℕ → Bool
word_waits entries i = any_below i (waits_with entries (word_at entries i))

-- the entry's wait is met where of each core so many first persists are durable: none of its eight numbers is greater
abbrev pub is_met_by : List ℕ → Entry → Bool
is_met_by durable e = not (any_below CORE_ROOM (λ c. nat_lt (slice_index durable c) (slice_index e.wait c)))

-- entry i waits to be sent, all entries of lower epochs are durable, no earlier one that waits to be sent has its word, and its wait is met
abbrev pub is_eligible : List ℕ → List Entry → ℕ → Bool
is_eligible durable entries i = entry_is is_buffered entries i && not (epoch_waits entries i) && not (word_waits entries i) && entry_is (is_met_by durable) entries i

-- the places of the eligible entries, ascending
abbrev pub eligible_places : List ℕ → List Entry → List ℕ
eligible_places durable entries = list_below (length entries) (is_eligible durable entries)

-- a list from the first element on that isn't done
abbrev pub from_open : {X : Type 0} → (X → Bool) → List X → List X
from_open done [] = []
from_open done (x ∷ xs) = if done x then from_open done xs else x ∷ xs

-- the entries from the oldest that isn't durable on
abbrev pub trimmed : List Entry → List Entry
trimmed entries = from_open (λ e. not (is_open e)) entries
