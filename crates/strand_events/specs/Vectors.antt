-- What is kept of the waits of earlier accesses, from which the wait of a core's next access is made.
use Rattle.std.specs.Prelude.{ℕ, ◌+◌, max, min, Bool, true, false, ◌&&◌, not, List, length, if◌then◌else◌}
use Rattle.strand_inputs.specs.declared.mode.Mode.{Mode}
use Rattle.strand_inputs.specs.declared.mode.Mode.TheVariants.{Strict, Epoch, Strand}
use Rattle.strand_events.specs.declared.event.Event.{Event}
use Rattle.strand_events.specs.Trace.{is_access, is_persist, is_barrier, is_new_strand, is_join, core_event_is}
use Rattle.strand_events.specs.Order.{conflicts, stands_between}
use Rattle.strand_events.specs.Greatest.{max_below}
use Rattle.strand_events.specs.Prefixes.{made_below}
use Rattle.strand_events.specs.Waits.{made_at, wait}

-- which events begin a strand
abbrev pub is_begin : Mode → Event → Bool
is_begin Strict e = false
is_begin Epoch e = false
is_begin Strand e = is_new_strand e

-- an event of core n that passes the test came after event a
abbrev pub came_after : (Event → Bool) → ℕ → List Event → ℕ → Bool
came_after test n t a = stands_between test n t a (length t)

-- the greatest wait, for the core, of those accesses of core n that pass the test
abbrev pub greatest_wait : Mode → List Event → ℕ → ℕ → (ℕ → Bool) → ℕ
greatest_wait mode t core n test = max_below (length t) (λ a. if core_event_is is_access n t a && test a then wait mode t core a else 0)

-- of all accesses of core n
abbrev pub all_waits : Mode → List Event → ℕ → ℕ → ℕ
all_waits mode t core n = greatest_wait mode t core n (λ a. true)

-- of those of its open strand
abbrev pub current_waits : Mode → List Event → ℕ → ℕ → ℕ
current_waits mode t core n = greatest_wait mode t core n (λ a. not (came_after (is_begin mode) n t a))

-- of those of its open strand that a barrier came after
abbrev pub fenced_waits : Mode → List Event → ℕ → ℕ → ℕ
fenced_waits mode t core n = greatest_wait mode t core n (λ a. came_after is_barrier n t a && not (came_after (is_begin mode) n t a))

-- of those that a join came after
abbrev pub joined_waits : Mode → List Event → ℕ → ℕ → ℕ
joined_waits mode t core n = greatest_wait mode t core n (came_after is_join n t)

-- how many persists core n had made at its last event that passes the test
abbrev pub made_at_last : (Event → Bool) → List Event → ℕ → ℕ
made_at_last test t n = max_below (length t) (λ k. if core_event_is test n t k then made_below t n k else 0)

-- what core n keeps of the waits of its accesses, for the persists of one core
pub record WaitEntry : Type 0 where
  -- the greatest wait of all its accesses, of those of its open strand, of those of it that a barrier fences, of those before its last join
  pub all : ℕ
  pub current : ℕ
  pub fenced : ℕ
  pub joined : ℕ
  -- how many persists it has made, and had made at its last join and at its last begin of a strand
  pub made : ℕ
  pub made_joined : ℕ
  pub made_begun : ℕ

abbrev pub core_waits : Mode → List Event → ℕ → ℕ → WaitEntry
core_waits mode t core n = record {
  all = all_waits mode t core n;
  current = current_waits mode t core n;
  fenced = fenced_waits mode t core n;
  joined = joined_waits mode t core n;
  made = made_below t n (length t);
  made_joined = made_at_last is_join t n;
  made_begun = made_at_last (is_begin mode) t n;
}

-- after one more event of the core, whose wait is this
abbrev pub waits_after : Mode → Event → ℕ → WaitEntry → WaitEntry
waits_after mode e new w = record {
  all = if is_access e then max new w.all else w.all;
  current = if is_begin mode e then 0 else if is_access e then max new w.current else w.current;
  fenced = if is_begin mode e then 0 else if is_barrier e then w.current else w.fenced;
  joined = if is_join e then w.all else w.joined;
  made = if is_persist e then w.made + 1 else w.made;
  made_joined = if is_join e then w.made else w.made_joined;
  made_begun = if is_begin mode e then w.made else w.made_begun;
}

-- what the core's own order hands on to its next access
abbrev pub next_by_order : Mode → Bool → WaitEntry → ℕ
next_by_order Strict own w = w.all
next_by_order Epoch own w = max w.joined w.fenced
next_by_order Strand own w = max (max w.joined w.fenced) (if own then min w.made_joined w.made_begun else 0)

-- what access x is handed by the accesses that conflict with it
abbrev pub handed_by_conflicts : Mode → List Event → ℕ → ℕ → ℕ
handed_by_conflicts mode t core x = max_below x (λ a. if conflicts t a x then max (wait mode t core a) (made_at mode t core x a) else 0)
