-- The events that are needed, found one after the other, with a line for each of the accesses among them.
use Rattle.std.specs.Prelude.{◌≡◌, ◌⊎◌, ◌<◌, ℕ, Bool, true, List, Some, [], ◌∷◌, ◌++◌, length, slice_get, slice_index, slice_set, if◌then◌else◌}
use Rattle.strand_inputs.specs.declared.mode.Mode.{Mode}
use Rattle.strand_events.specs.declared.event.Event.{Event}
use Rattle.strand_events.specs.Trace.{is_access, is_barrier_or_join, event_is}
use Rattle.strand_events.specs.Order.{Set, set_of, sets_word}
use Rattle.strand_order.specs.Graph.{EdgePath}
use Rattle.strand_order.specs.DirectPaths.{AreBarriersOrJoins}
use Rattle.strand_judge.specs.Judged.{Crash}
use Rattle.strand_refute.specs.Accepted.{needed_by, Holds, IsAcceptedForced}
use Rattle.strand_refute.specs.declared.certificate.Reason.{Reason}
use Rattle.strand_refute.specs.declared.certificate.Forced.{Forced}
use Rattle.strand_refute.specs.declared.work.Work.{Work}

-- the access by which event x is needed: itself, or the one that a path from it leads to
abbrev pub targets_after : Event → ℕ → ℕ → List ℕ → List ℕ
targets_after e x target targets = slice_set targets x (if is_access e then x else target)

abbrev pub lines_after : Event → ℕ → Reason → List Forced → List Forced
lines_after e x reason lines = if is_access e then lines ++ (record { event = x; reason = reason }) ∷ [] else lines

-- event j is access a, or a path of edges past barriers and joins alone leads from this barrier or join to it
abbrev pub IsTarget : Mode → List Event → ℕ → ℕ → Type 0
IsTarget mode t j a = (j ≡ a) ⊎ ((event_is is_barrier_or_join t j ≡ true) × ((xs : List ℕ) × AreBarriersOrJoins t xs × EdgePath mode t j xs a))

-- event x is an access, and the reason for it holds after these lines
abbrev pub HasReason : Mode → List Event → Crash → List Forced → ℕ → Reason → Type 0
HasReason mode t crash lines x reason = (event_is is_access t x ≡ true) × Holds mode t crash (needed_by lines (length lines)) x reason

-- each line is accepted, the marked accesses are those that the lines name, and each marked event is one or orders one
pub record IsExplained (mode : Mode) (t : List Event) (crash : Crash) (marks : List Bool) (targets : List ℕ) (lines : List Forced) : Type 0 where
  pub long : length targets ≡ length t
  pub accepted : (k : ℕ) (f : Forced) → slice_get lines k ≡ Some f → IsAcceptedForced mode t crash (needed_by lines k) f
  pub named : (e : ℕ) → event_is is_access t e ≡ true → set_of marks e ≡ true → needed_by lines (length lines) e ≡ true
  pub marked : (e : ℕ) → needed_by lines (length lines) e ≡ true → set_of marks e ≡ true
  pub target : (j : ℕ) → set_of marks j ≡ true → (event_is is_access t (slice_index targets j) ≡ true) × (set_of marks (slice_index targets j) ≡ true) × IsTarget mode t j (slice_index targets j)

-- the lines explain the marks
abbrev pub Explains : Mode → List Event → Crash → Work → Type 0
Explains mode t crash w = IsExplained mode t crash w.marks.items w.targets.items w.lines.items

-- where they did before, they do after
abbrev pub KeepsExplained : Mode → List Event → Crash → Work → Work → Type 0
KeepsExplained mode t crash before after = Explains mode t crash before → Explains mode t crash after

-- no persist to the word is in the set
abbrev pub IsNoneTo : List Event → Set → ℕ → Type 0
IsNoneTo t set word = (k : ℕ) → sets_word t set word k ≡ true → ⊥

-- the last persist to the word in the set
pub record IsLastTo (t : List Event) (set : Set) (word q : ℕ) : Type 0 where
  pub at : sets_word t set word q ≡ true
  pub none : (k : ℕ) → q < k → sets_word t set word k ≡ true → ⊥
