-- The parts of the ring machine, and what they hold for a state.
use Rattle.std.specs.Prelude.{◌≡◌, ℕ, zero, suc, ◌+◌, ◌-◌, ◌<◌, Bool, ◌&&◌, ◌==◌, List, [], drop, length, map, slice_index, slice_index_or, Some, None, if◌then◌else◌}
use Rattle.std.specs.Option.{option_map, unwrap_or}
use Rattle.std.specs.declared.option.Option.{Option}
use Rattle.strand_inputs.specs.declared.mode.Mode.{Mode}
use Rattle.strand_inputs.specs.declared.conflict.Conflict.TheVariants.{Tag}
use Rattle.strand_inputs.specs.Settings.{Settings}
use Rattle.strand_exec.specs.Core.{Extents}
use Rattle.strand_events.specs.declared.event.Event.{Event}
use Rattle.strand_events.specs.Trace.{is_access, is_persist, is_barrier, persists_of, core_at, word_at, value_at, event_is, core_event_is, strand_number, epoch, persist_number}
use Rattle.strand_events.specs.Order.{set_of}
use Rattle.strand_events.specs.Prefixes.{core_persists, durable_prefix, made_below}
use Rattle.strand_events.specs.Waits.{each_core}
use Rattle.strand_rules.specs.Cycle.{State, is_item, items, gone, is_accepted, buffer_of}
use Rattle.strand_rules.specs.Looking.{next_strand}
use Rattle.strand_queue.specs.declared.item.Item.{Item}
use Rattle.strand_queue.specs.declared.item.Item.TheVariants.{Persist, Barrier, NewStrand}
use Rattle.strand_queue.specs.Queue.{Queue, queue}
use Rattle.strand_buffer.specs.Buffers.{Buffers, list_in}
use Rattle.strand_control.specs.declared.request.Request.{Request}
use Rattle.strand_control.specs.Flight.{Flight}
use Rattle.strand_tags.specs.TagsSeen.{TagsSeen, StandFor}
use Rattle.strand_tags.specs.Traces.{noted_accesses, noted_wait}
use Rattle.strand_tags.specs.WaitEntries.{KeepsWaits, no_waits}
use Rattle.strand_tags.specs.declared.core_waits.CoreWaits.{CoreWaits}
use Rattle.strand_cache.specs.Seen.{Seen}
use Rattle.strand_machine.specs.Lists.{entries, begun}
use Rattle.strand_machine.specs.Cached.{CacheStands}

-- event k, which is an item, as a queue holds it
abbrev pub item_at : Mode → List Event → ℕ → Item
item_at mode t k =
    if event_is is_persist t k then Persist (persist_number t k) (word_at t k) (value_at t k) (epoch mode t k)
    else if event_is is_barrier t k then Barrier else NewStrand

abbrev pub item_of : Settings → State → ℕ → Item
item_of g s k = item_at g.mode s.now.trace k

-- the event at the end of a trace as a queue takes it, if it does
abbrev pub newest_item : Mode → List Event → Option Item
newest_item mode t = if event_is (is_item mode) t (length t - 1) then Some (item_at mode t (length t - 1)) else None

-- the items of core n that it hasn't dispatched
abbrev pub queue_items : Settings → State → ℕ → List Item
queue_items g s n = map (item_of g s) (drop (gone s n) (items g.mode s.now.trace n))

-- persist p as the controller holds it
abbrev pub request_at : Settings → State → ℕ → Request
request_at g s p = record { core = core_at s.now.trace p; buffer = buffer_of g (strand_number g.mode s.now.trace p); number = persist_number s.now.trace p; word = word_at s.now.trace p; value = value_at s.now.trace p }

abbrev pub requests : Settings → State → List Request
requests g s = map (request_at g s) s.flight

-- the last number below n that passes
abbrev pub last_below : ℕ → (ℕ → Bool) → Option ℕ
last_below zero test = None
last_below (suc n) test = if test n then Some n else last_below n test

-- the number of core n's last dispatched persist
abbrev pub last_number : Settings → State → ℕ → Option ℕ
last_number g s n = option_map (persist_number s.now.trace) (last_below (length s.now.trace) (is_accepted g s n))

-- the epoch of core n's last dispatched persist of the current strand of its buffers
abbrev pub last_epoch : Settings → State → ℕ → Option ℕ
last_epoch g s n = option_map (epoch g.mode s.now.trace) (last_below (length s.now.trace) (λ p. is_accepted g s n p && (strand_number g.mode s.now.trace p == begun g s n)))

-- core n's last access
abbrev pub last_access : List Event → ℕ → Option ℕ
last_access t n = last_below (length t) (core_event_is is_access n t)

-- the buffers of core n stand for the state
pub record BuffersStand (g : Settings) (s : State) (n : ℕ) (bs : Buffers) : Type 0 where
  pub ring : bs.ring ≡ g.ring
  pub buffers : length bs.lists ≡ g.buffers
  pub strand : bs.strand ≡ begun g s n
  pub lists : (b : ℕ) → b < g.buffers → list_in bs b ≡ entries g s n b
  pub number : bs.number ≡ last_number g s n
  pub epoch : bs.epoch ≡ last_epoch g s n

-- the tags stand for the state
pub record TagsStand (g : Settings) (sizes : Extents) (s : State) (tags : TagsSeen) : Type 0 where
  pub extents : tags.extents ≡ sizes
  pub cores : length tags.strands ≡ length s.now.cores
  pub accesses : StandFor tags (noted_accesses g.conflict g.mode s.now.trace)
  pub strands : (n : ℕ) → n < length s.now.cores → slice_index tags.strands n ≡ unwrap_or (option_map (strand_number g.mode s.now.trace) (last_access s.now.trace n)) 0
  pub made : (n : ℕ) → n < length s.now.cores → slice_index tags.made n ≡ unwrap_or (option_map (λ a. made_below s.now.trace n (a + 1)) (last_access s.now.trace n)) 0

-- what is counted of a core
pub record Tally : Type 0 where
  -- the numbers of its persists, ascending
  pub numbers : List ℕ
  -- how many of its first persists are all durable
  pub first : ℕ
  -- the number of the strand that its next event is of
  pub strand : ℕ
  -- what it keeps of the waits of its accesses
  pub waits : CoreWaits
  -- for how many persists there is room
  pub room : ℕ

-- what is counted of core n stands for the state
pub record TallyStands (g : Settings) (s : State) (n : ℕ) (c : Tally) : Type 0 where
  pub numbers : c.numbers ≡ map (persist_number s.now.trace) (core_persists s.now.trace n)
  pub first : c.first ≡ durable_prefix s.now.trace (set_of s.durable) n
  pub strand : c.strand ≡ next_strand g.mode s.now.trace n
  pub waits : g.conflict ≡ Tag → KeepsWaits g.mode s.now.trace n c.waits

-- the waits that are kept of persists, by the persists' numbers, and for how many there is room
pub record Waiting : Type 0 where
  pub waits : List (List ℕ)
  pub room : ℕ

-- the waits of a trace's persists
abbrev pub persist_waits : Settings → List Event → List (List ℕ)
persist_waits g t = map (noted_wait g.conflict g.mode t) (persists_of t)

-- the parts of the machine; the queues, the buffers and what is counted are by core
pub record PartsSeen : Type 0 where
  pub queues : List Queue
  pub buffers : List Buffers
  pub tags : TagsSeen
  pub control : Flight
  pub tallies : List Tally
  pub waiting : Waiting
  pub cache : Seen

abbrev pub no_queue : Queue
no_queue = queue [] 0

abbrev pub no_buffers : Buffers
no_buffers = record { ring = 0; strand = 0; lists = []; number = None; epoch = None }

abbrev pub no_tally : Tally
no_tally = record { numbers = []; first = 0; strand = 0; waits = no_waits; room = 0 }

-- the parts of core n
abbrev pub queue_at : PartsSeen → ℕ → Queue
queue_at m n = slice_index_or m.queues n no_queue

abbrev pub buffers_at : PartsSeen → ℕ → Buffers
buffers_at m n = slice_index_or m.buffers n no_buffers

abbrev pub tally_at : PartsSeen → ℕ → Tally
tally_at m n = slice_index_or m.tallies n no_tally

-- how many of each core's first persists are all durable
abbrev pub prefixes : PartsSeen → List ℕ
prefixes m = each_core (λ c. (tally_at m c).first)

-- the parts stand for the state
pub record Stand (g : Settings) (sizes : Extents) (s : State) (m : PartsSeen) : Type 0 where
  pub queue_count : length m.queues ≡ length s.now.cores
  pub queues : (n : ℕ) → n < length s.now.cores → queue_at m n ≡ queue (queue_items g s n) g.queue
  pub buffer_count : length m.buffers ≡ length s.now.cores
  pub buffers : (n : ℕ) → n < length s.now.cores → BuffersStand g s n (buffers_at m n)
  pub tags : TagsStand g sizes s m.tags
  pub control : m.control ≡ record { requests = requests g s; limit = g.flight }
  pub tally_count : length m.tallies ≡ length s.now.cores
  pub tallies : (n : ℕ) → n < length s.now.cores → TallyStands g s n (tally_at m n)
  pub waits : m.waiting.waits ≡ persist_waits g s.now.trace
  pub cache : CacheStands g s m.cache
