-- Serves clause slot of StrandBuffers::eligible: whether the wait of an entry is met, by its eight numbers.
use Rattle.std.proofs.Common.{◌≡◌, ℕ, ◌<◌, Bool, List, [], length, sym, ap}
use Rattle.std.specs.Prelude.{nat_lt, not, slice_index, slice_index_or}
use Rattle.std.proofs.lemmas.Option.{slice_get-get_or}
use Rattle.strand_base.specs.declared.limits.TheConstants.{CORE_ROOM}
use Rattle.strand_base.specs.Counting.{any_below}
use Rattle.strand_buffer.specs.declared.entry.Entry.{Entry}
use Rattle.strand_buffer.specs.declared.entry.Stage.TheVariants.{Buffered}
use Rattle.strand_buffer.specs.Entries.{passes, entry_is, is_met_by}

abbrev no_entry : Entry
no_entry = record { number = 0; word = 0; value = 0; epoch = 0; wait = []; stage = Buffered }

-- the wait of entry i asks for more first persists of core c than are durable
abbrev pub asks_more : List ℕ → List Entry → ℕ → ℕ → Bool
asks_more durable entries i c = nat_lt (slice_index durable c) (slice_index (slice_index_or entries i no_entry).wait c)

-- the wait of an entry that is there is met where it asks for more of no core
pub met_at : (durable : List ℕ) (entries : List Entry) (i : ℕ) → i < length entries → not (any_below CORE_ROOM (asks_more durable entries i)) ≡ entry_is (is_met_by durable) entries i
met_at durable entries i lt = sym (ap (passes (is_met_by durable)) (slice_get-get_or entries i no_entry lt))
