-- Serves clauses closed and joined of durable_sets_are_allowed: what a turn that is Done has seen.
use Rattle.std.proofs.Common.{◌≡◌, ℕ, ◌+◌, ◌<◌, Bool, true, false, ◌&&◌, ◌||◌, List, [], ◌∷◌, ◌++◌, length, refl, ap, arith}
use Rattle.std.specs.Prelude.{if◌then◌else◌, not, ◌==◌}
use Rattle.std.proofs.lemmas.Bool.{and_from, or_parts, eq-eqb, true≢false, false≢true}
use Rattle.strand_base.proofs.BelowBound.{any_false}
use Rattle.strand_inputs.specs.Settings.{Settings}
use Rattle.strand_inputs.specs.declared.mode.Mode.{Mode}
use Rattle.strand_events.specs.declared.event.Event.{Event}
use Rattle.strand_events.specs.Trace.{is_persist, is_access, is_join, core_at, event_is, core_event_is, same_strand}
use Rattle.strand_events.specs.Order.{Set, set_of, conflicts}
use Rattle.strand_events.proofs.PersistOrder.Chain.{AllDurableTo}
use Rattle.strand_rules.specs.declared.turn.Cause.{Cause}
use Rattle.strand_rules.specs.declared.turn.Cause.TheVariants as causes
use Rattle.strand_rules.specs.declared.turn.Turn.{Turn}
use Rattle.strand_rules.specs.declared.turn.Turn.TheVariants.{Done, Bubble, Fault}
use Rattle.strand_rules.specs.Cycle.{State, queued, some_wait, must_wait, join_waits, is_item, join_unmet, access_waits, event_turn}
use Rattle.strand_inputs.specs.declared.conflict.Conflict.{Conflict}
use Rattle.strand_inputs.specs.declared.conflict.Conflict.TheVariants.{Stall, Tag}

abbrev is_bubble : Turn → Bool
is_bubble (Bubble cause) = true
is_bubble Done = false
is_bubble (Fault m) = false

pub bubble_not_done : (cause : Cause) → Bubble cause ≡ Done → ⊥
bubble_not_done cause h = true≢false (ap is_bubble h)

-- no bubble of the first rule where the turn is Done
pub if_done : (b : Bool) (cause : Cause) (other : Turn) → (if b then Bubble cause else other) ≡ Done → (b ≡ false) × (other ≡ Done)
if_done true cause other h = absurd (bubble_not_done cause h)
if_done false cause other h = (refl, h)

-- x && not y fails although x holds
pub then_so : (x y : Bool) → (x && not y) ≡ false → x ≡ true → y ≡ true
then_so true true h e = refl
then_so true false h e = absurd (true≢false h)
then_so false y h e = absurd (false≢true e)

pub so_not : (x y : Bool) → (x && y) ≡ false → x ≡ true → y ≡ false
so_not true y h e = h
so_not false y h e = absurd (false≢true e)

pub none_wait : (t : List Event) (durable : Set) (core n : ℕ) → some_wait t durable core n ≡ false → (p : ℕ) → event_is is_persist t p ≡ true → core_at t p ≡ core → p < n → durable p ≡ true
none_wait t durable core n none p is c lt = then_so (core_event_is is_persist core t p) (durable p) (any_false n (λ p. core_event_is is_persist core t p && not (durable p)) none p lt) (and_from (event_is is_persist t p) (core_at t p == core) is (eq-eqb (core_at t p) core c))

access_seen : (conflict : Conflict) (mode : Mode) (t : List Event) (durable : Set) (e : Event) → access_waits conflict mode t durable e ≡ false → conflict ≡ Stall → is_access e ≡ true
    → must_wait mode (t ++ e ∷ []) durable (length t) ≡ false
access_seen Stall mode t durable e h stall access = so_not (is_access e) (must_wait mode (t ++ e ∷ []) durable (length t)) h access
access_seen Tag mode t durable e h stall access = absurd (true≢false (ap (λ c. elim c [ Tag ↦ true | Stall ↦ false ]) stall))

pub event_done : (g : Settings) (s : State) (n : ℕ) (e : Event) → event_turn g s n e ≡ Done
    → (is_join e ≡ true → some_wait s.now.trace (set_of s.durable) n (length s.now.trace) ≡ false)
    × (g.conflict ≡ Stall → is_access e ≡ true → must_wait g.mode (s.now.trace ++ e ∷ []) (set_of s.durable) (length s.now.trace) ≡ false)
event_done g s n e done =
    let must : Bool = access_waits g.conflict g.mode s.now.trace (set_of s.durable) e in
    let crowded : Bool = is_item g.mode e && (queued g s n == g.queue) in
    let some : Bool = some_wait s.now.trace (set_of s.durable) n (length s.now.trace) in
    let one = if_done (is_join e && join_waits g s n) causes.Join (if must then Bubble causes.Conflict else if crowded then Bubble causes.Queue else Done) done in
    let two = if_done must causes.Conflict (if crowded then Bubble causes.Queue else Done) one.1 in (
      λ join.
          let none = so_not (is_join e) (join_waits g s n) one.0 join in
          (or_parts (not (queued g s n == 0)) some (or_parts (not (queued g s n == 0) || some) (join_unmet g.conflict g.mode s.now.trace (set_of s.durable) n) none).0).1,
      λ stall access. access_seen g.conflict g.mode s.now.trace (set_of s.durable) e two.0 stall access,
    )

pub waited : (mode : Mode) (t : List Event) (durable : Set) (b : ℕ) → must_wait mode t durable b ≡ false → (a : ℕ) → a < b → conflicts t a b ≡ true → same_strand mode t a b ≡ false → AllDurableTo t durable a
waited mode t durable b none a lt conflict apart p is c le =
    let at = any_false b (λ a. conflicts t a b && not (same_strand mode t a b) && some_wait t durable (core_at t a) (a + 1)) none a lt in
    let quiet = so_not (conflicts t a b && not (same_strand mode t a b)) (some_wait t durable (core_at t a) (a + 1)) at (and_from (conflicts t a b) (not (same_strand mode t a b)) conflict (ap not apart)) in
    none_wait t durable (core_at t a) (a + 1) quiet p is c (omega arith)
