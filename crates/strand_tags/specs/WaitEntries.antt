-- What a core's vectors say of the persists of each of eight cores.
use Rattle.std.specs.Prelude.{◌≡◌, ℕ, ◌<◌, List, slice_index}
use Rattle.strand_base.specs.declared.limits.TheConstants.{CORE_ROOM}
use Rattle.strand_inputs.specs.declared.mode.Mode.{Mode}
use Rattle.strand_events.specs.declared.event.Event.{Event}
use Rattle.strand_events.specs.Vectors.{WaitEntry, core_waits}
use Rattle.strand_tags.specs.declared.core_waits.CoreWaits.{CoreWaits}
use Rattle.strand_tags.specs.Greater.{no_counts}

-- the entries for core c
abbrev pub wait_entry : CoreWaits → ℕ → WaitEntry
wait_entry w c = record {
  all = slice_index w.all.counts c;
  current = slice_index w.current.counts c;
  fenced = slice_index w.fenced.counts c;
  joined = slice_index w.joined.counts c;
  made = w.made;
  made_joined = w.made_joined;
  made_begun = w.made_begun;
}

-- what a core keeps that has made nothing
abbrev pub no_waits : CoreWaits
no_waits = record { all = no_counts; current = no_counts; fenced = no_counts; joined = no_counts; made = 0; made_joined = 0; made_begun = 0 }

-- the vectors are those of core n in the trace
abbrev pub KeepsWaits : Mode → List Event → ℕ → CoreWaits → Type 0
KeepsWaits mode t n w = (c : ℕ) → c < CORE_ROOM → wait_entry w c ≡ core_waits mode t c n
