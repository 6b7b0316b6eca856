-- What the steps make of the parts.
use Rattle.std.specs.Prelude.{◌≡◌, ℕ, ◌+◌, ◌-◌, ◌^◌, ◌<◌, ◌≤◌, Bool, true, false, List, [], ◌∷◌, ◌++◌, drop, length, map, replicate, slice_index, slice_index_or, slice_set, if◌then◌else◌, Some, None, MatchOption}
use Rattle.std.specs.declared.option.Option.{Option}
use Rattle.strand_base.specs.declared.limits.TheConstants.{CORE_ROOM}
use Rattle.strand_inputs.specs.Settings.{Settings}
use Rattle.strand_exec.specs.Memory.{Memory}
use Rattle.strand_exec.specs.declared.planned.Plan.{Plan}
use Rattle.strand_exec.specs.declared.planned.Plan.TheVariants.{Load, Store}
use Rattle.strand_inputs.specs.declared.conflict.Conflict.TheVariants.{Tag}
use Rattle.strand_events.specs.declared.event.Event.{Event}
use Rattle.strand_events.specs.Trace.{is_persist}
use Rattle.strand_events.specs.Order.{set_of}
use Rattle.strand_events.specs.Prefixes.{leading}
use Rattle.strand_events.specs.Vectors.{waits_after}
use Rattle.strand_queue.specs.declared.item.Item.{Item}
use Rattle.strand_queue.specs.declared.item.Item.TheVariants.{Persist, Barrier, NewStrand}
use Rattle.strand_queue.specs.Queue.{Queue, queue}
use Rattle.strand_buffer.specs.Buffers.{Buffers, accepted, strand_begun, can_begin, empty_buffers, has_room, released, sent}
use Rattle.strand_control.specs.declared.request.Request.{Request}
use Rattle.strand_tags.specs.Access.{Noted}
use Rattle.strand_tags.specs.TagsSeen.{TagsSeen, StandFor}
use Rattle.strand_tags.specs.WaitEntries.{wait_entry, no_waits}
use Rattle.strand_cache.specs.declared.change.Change.{Change}
use Rattle.strand_cache.specs.declared.change.Change.TheVariants.{Read, Merge}
use Rattle.strand_cache.specs.Changes.{memory_after}
use Rattle.strand_cache.specs.Seen.{Seen, IsAccess, access_counted, counts_seen, empty_caches, shape_seen}
use Rattle.strand_events.specs.Waits.{each_core}
use Rattle.strand_machine.specs.Stand.{PartsSeen, Tally, queue_at, buffers_at, tally_at}

-- nothing is counted yet, with room for so many persists
abbrev pub empty_tally : ℕ → Tally
empty_tally room = record { numbers = []; first = 0; strand = 0; waits = no_waits; room = room }

-- the parts that were just made, of so many cores over a memory, with room for so many persists a core
abbrev pub start_parts : Settings → ℕ → Memory → ℕ → TagsSeen → PartsSeen
start_parts g count memory room tags = record {
  queues = replicate count (queue [] g.queue);
  buffers = replicate count (empty_buffers g.buffers g.ring);
  tags = tags;
  control = record { requests = []; limit = g.flight };
  tallies = replicate count (empty_tally room);
  waiting = record { waits = []; room = room };
  cache = empty_caches count g.sets g.ways memory.volatile memory.persistent;
}

-- how many of the persists with these numbers are durable before the first that isn't
abbrev pub durable_first : List Bool → List ℕ → ℕ
durable_first durable numbers = leading (map (set_of durable) numbers)

-- there is a number, and its mark is set
abbrev pub is_marked : List Bool → Option ℕ → Bool
is_marked marks None = false
is_marked marks (Some number) = set_of marks number

-- one persist more was made, or one strand more was begun
abbrev pub tallied : Tally → Item → Tally
tallied c (Persist number word value epoch) = record c { numbers = c.numbers ++ number ∷ [] }
tallied c Barrier = c
tallied c NewStrand = record c { strand = c.strand + 1 }

-- what is known of the durable persists is told
abbrev pub advanced : Tally → List Bool → Tally
advanced c durable = record c { first = durable_first durable c.numbers }

-- core n made an item
abbrev pub with_item : PartsSeen → ℕ → Item → PartsSeen
with_item m n item = record m {
  queues = slice_set m.queues n (queue ((queue_at m n).items ++ item ∷ []) (queue_at m n).depth);
  tallies = slice_set m.tallies n (tallied (tally_at m n) item);
}

abbrev pub with_made : PartsSeen → ℕ → Option Item → PartsSeen
with_made m n None = m
with_made m n (Some item) = with_item m n item

-- a queue has room for an item more, and it can be counted
pub record CanQueue (q : Queue) (c : Tally) : Type 0 where
  pub queue : length q.items < q.depth
  pub room : length c.numbers < c.room
  pub strand : c.strand < 2 ^ 32 - 1

-- what the tags make of an access
pub record Notes (old new : TagsSeen) (n : Noted) : Type 0 where
  pub extents : new.extents ≡ old.extents
  pub strands : new.strands ≡ slice_set old.strands n.access.core n.access.strand
  pub made : new.made ≡ slice_set old.made n.access.core n.made
  pub cores : length new.made ≡ length new.strands
  pub stands : (ns : List Noted) → StandFor old ns → StandFor new (ns ++ n ∷ [])

-- what core n's event with this wait makes of the waits that are kept: that of a persist comes to the end, and under tag the core's follow the event
pub record KeepsWait (g : Settings) (old new : PartsSeen) (n : ℕ) (e : Event) (wait : List ℕ) : Type 0 where
  pub waiting : new.waiting ≡ record old.waiting { waits = if is_persist e then old.waiting.waits ++ wait ∷ [] else old.waiting.waits }
  pub tallies : new.tallies ≡ slice_set old.tallies n (record (tally_at old n) { waits = (tally_at new n).waits })
  pub own : g.conflict ≡ Tag → (c : ℕ) → c < CORE_ROOM → wait_entry (tally_at new n).waits c ≡ waits_after g.mode e (slice_index wait c) (wait_entry (tally_at old n).waits c)

-- what an access of core n to a word makes of the caches
pub record IsCached (old new : Seen) (n word : ℕ) (change : Change) : Type 0 where
  pub hits : Bool
  pub cores : new.cores ≡ old.cores
  pub shape : shape_seen new ≡ shape_seen old
  pub memory : new.memory ≡ memory_after change word old.memory
  pub counts : new.counts ≡ slice_set old.counts n (access_counted hits (counts_seen old n))
  pub access : IsAccess old new n word change hits

-- what an instruction of core n with this plan makes of the caches
abbrev pub GoesThrough : Seen → Seen → ℕ → Plan → Type 0
GoesThrough old new n (Load word) = IsCached old new n word Read
GoesThrough old new n (Store word mask bits) = IsCached old new n word (Merge mask bits)
GoesThrough old new n _ = new ≡ old

-- the buffers can take a dispatched item
abbrev pub CanTake : Buffers → Item → Type 0
CanTake bs (Persist number word value epoch) = (has_room bs ≡ true) × MatchOption bs.number (Unit {0}) (λ n. n < number) × MatchOption bs.epoch (Unit {0}) (λ e. e ≤ epoch)
CanTake bs Barrier = Unit {0}
CanTake bs NewStrand = (can_begin bs ≡ true) × (bs.strand < 2 ^ 32 - 1)

-- what the buffers make of a dispatched item
abbrev pub taken : Buffers → Item → List ℕ → Buffers
taken bs (Persist number word value epoch) wait = accepted bs number word value epoch wait
taken bs Barrier wait = bs
taken bs NewStrand wait = strand_begun bs

-- the wait that is kept of an item, where it is a persist
abbrev pub wait_at : PartsSeen → Item → List ℕ
wait_at m (Persist number word value epoch) = slice_index_or m.waiting.waits number []
wait_at m Barrier = each_core (λ c. 0)
wait_at m NewStrand = each_core (λ c. 0)

-- the item's wait is kept, where it is a persist
abbrev pub HasWait : PartsSeen → Item → Type 0
HasWait m (Persist number word value epoch) = number < length m.waiting.waits
HasWait m Barrier = Unit {0}
HasWait m NewStrand = Unit {0}

-- core n dispatched the first item of its queue
abbrev pub with_dispatched : PartsSeen → ℕ → Item → PartsSeen
with_dispatched m n item = record m {
  queues = slice_set m.queues n (queue (drop 1 (queue_at m n).items) (queue_at m n).depth);
  buffers = slice_set m.buffers n (taken (buffers_at m n) item (wait_at m item));
}

-- a buffer's persist was sent
abbrev pub with_sent : PartsSeen → Request → PartsSeen
with_sent m r = record m {
  buffers = slice_set m.buffers r.core (sent (buffers_at m r.core) r.buffer r.number);
  control = record m.control { requests = m.control.requests ++ r ∷ [] };
}

-- a request was written: its buffer releases its persist, and the durable persists of its core are counted
abbrev pub with_written : PartsSeen → Request → List Bool → PartsSeen
with_written m r durable = record m {
  buffers = slice_set m.buffers r.core (released (buffers_at m r.core) r.buffer r.number);
  tallies = slice_set m.tallies r.core (advanced (tally_at m r.core) durable);
}
