-- The strand buffers of a core as contracts see them, and what their calls do.
use Rattle.std.specs.Prelude.{◌≡◌, ℕ, ◌+◌, ◌%◌, Bool, true, ◌==◌, nat_lt, List, [], ◌∷◌, ◌++◌, map, length, replicate, slice_get, slice_index_or, slice_set, Some, None, if◌then◌else◌}
use Rattle.std.specs.Option.{option_map}
use Rattle.std.specs.declared.option.Option.{Option}
use Rattle.strand_buffer.specs.declared.entry.Entry.{Entry}
use Rattle.strand_buffer.specs.declared.entry.Slot.{Slot}
use Rattle.strand_buffer.specs.declared.entry.Stage.{Stage}
use Rattle.strand_buffer.specs.declared.entry.Stage.TheVariants.{Buffered, Sent, Released}
use Rattle.strand_buffer.specs.Entries.{trimmed, entry_is, is_eligible, is_sent, eligible_places, number_at, word_at, value_at}

pub record Buffers : Type 0 where
  -- how many places a ring has
  pub ring : ℕ
  -- the number of the current strand
  pub strand : ℕ
  -- per buffer its entries from the oldest that isn't durable on
  pub lists : List (List Entry)
  -- the greatest number accepted so far
  pub number : Option ℕ
  -- the epoch of the last persist accepted since the last begin
  pub epoch : Option ℕ

-- buffers that nothing was accepted by, at strand 0
abbrev pub empty_buffers : ℕ → ℕ → Buffers
empty_buffers buffers ring = record { ring = ring; strand = 0; lists = replicate buffers []; number = None; epoch = None }

-- the list of buffer b
abbrev pub list_in : Buffers → ℕ → List Entry
list_in bs b = slice_index_or bs.lists b []

-- the buffer of the current strand, and that of the next one
abbrev pub current : Buffers → ℕ
current bs = bs.strand % length bs.lists

abbrev pub next_buffer : Buffers → ℕ
next_buffer bs = (bs.strand + 1) % length bs.lists

-- the current strand's buffer has fewer places in use than a ring has
abbrev pub has_room : Buffers → Bool
has_room bs = nat_lt (length (list_in bs (current bs))) bs.ring

-- the next strand's buffer holds no persist that isn't durable
abbrev pub can_begin : Buffers → Bool
can_begin bs = length (list_in bs (next_buffer bs)) == 0

-- the buffers with another list for buffer b
abbrev pub with_list : Buffers → ℕ → List Entry → Buffers
with_list bs b entries = record bs { lists = slice_set bs.lists b entries }

-- a persist comes to the end of the current strand's buffer
abbrev pub accepted : Buffers → ℕ → ℕ → ℕ → ℕ → List ℕ → Buffers
accepted bs number word value epoch wait =
    record (with_list bs (current bs) (list_in bs (current bs) ++ record { number = number; word = word; value = value; epoch = epoch; wait = wait; stage = Buffered } ∷ [])) { number = Some number; epoch = Some epoch }

-- the next strand begins
abbrev pub strand_begun : Buffers → Buffers
strand_begun bs = record bs { strand = bs.strand + 1; epoch = None }

-- the entry has come to this stage where it has this number
abbrev pub with_stage : Stage → ℕ → Entry → Entry
with_stage stage number e = if e.number == number then record e { stage = stage } else e

-- a persist of buffer b is sent
abbrev pub sent : Buffers → ℕ → ℕ → Buffers
sent bs b number = with_list bs b (map (with_stage Sent number) (list_in bs b))

-- a persist of buffer b is durable: places that no older one holds are free
abbrev pub released : Buffers → ℕ → ℕ → Buffers
released bs b number = with_list bs b (trimmed (map (with_stage Released number) (list_in bs b)))

-- the entry at a place, as it is handed out to be sent
abbrev pub slot_at : List Entry → ℕ → Slot
slot_at entries i = record { place = i; number = number_at entries i; word = word_at entries i; value = value_at entries i }

-- the eligible entry of a list, or of buffer b, that has j of them before it, where of each core so many first persists are durable
abbrev pub found_slot : List Entry → ℕ → List ℕ → Option Slot
found_slot entries j durable = option_map (slot_at entries) (slice_get (eligible_places durable entries) j)

abbrev pub eligible_slot : Buffers → ℕ → ℕ → List ℕ → Option Slot
eligible_slot bs b j durable = found_slot (list_in bs b) j durable

-- a persist of this number in buffer b is eligible with these counts
abbrev pub IsEligible : Buffers → ℕ → ℕ → List ℕ → Type 0
IsEligible bs b number durable = (i : ℕ) × (is_eligible durable (list_in bs b) i ≡ true) × (number_at (list_in bs b) i ≡ number)

-- a persist of this number in buffer b was sent, and isn't durable
abbrev pub IsSent : Buffers → ℕ → ℕ → Type 0
IsSent bs b number = (i : ℕ) × (entry_is is_sent (list_in bs b) i ≡ true) × (number_at (list_in bs b) i ≡ number)
