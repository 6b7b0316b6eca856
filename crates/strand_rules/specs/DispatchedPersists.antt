-- The parts that dispatched persists are in, and what holds of them after every list of steps.
use Rattle.std.specs.Prelude.{◌≡◌, ℕ, ◌<◌, ◌≤◌, ◌⊎◌, ◌↔◌, true, false, List, slice_get, Some, length}
use Rattle.strand_inputs.specs.declared.mode.Mode.{Mode}
use Rattle.strand_inputs.specs.Settings.{Settings}
use Rattle.strand_events.specs.declared.event.Event.{Event}
use Rattle.strand_events.specs.Trace.{is_persist, is_access, core_at, word_at, event_is, strand_number, same_strand, epoch}
use Rattle.strand_events.specs.Order.{Set, set_of, Before}
use Rattle.strand_events.specs.Waits.{wait_counts, is_met}
use Rattle.strand_inputs.specs.declared.conflict.Conflict.{Conflict}
use Rattle.strand_inputs.specs.declared.conflict.Conflict.TheVariants.{Stall}
use Rattle.strand_rules.specs.Cycle.{State, is_accepted, ring_use, buffer_of}

-- event p is a request in flight
abbrev pub InFlight : List ℕ → ℕ → Type 0
InFlight flight p = (i : ℕ) × (slice_get flight i ≡ Some p)

-- persist p was sent: it is in flight or durable
abbrev pub Sent : List ℕ → Set → ℕ → Type 0
Sent flight durable p = InFlight flight p ⊎ (durable p ≡ true)

-- persist p is in one of the three parts
abbrev pub IsInSomePart : Set → List ℕ → Set → ℕ → Type 0
IsInSomePart buffered flight durable p = (buffered p ≡ true) ⊎ Sent flight durable p

-- no persist is in two of the parts, and none is in flight twice
pub record AreApart (buffered : Set) (flight : List ℕ) (durable : Set) : Type 0 where
  pub one_place : (i h p : ℕ) → slice_get flight i ≡ Some p → slice_get flight h ≡ Some p → i ≡ h
  pub not_both : (p : ℕ) → buffered p ≡ true → Sent flight durable p → ⊥
  pub not_done : (p : ℕ) → InFlight flight p → durable p ≡ true → ⊥

-- p is an earlier persist of q's strand with q's word
pub record Older (mode : Mode) (t : List Event) (p q : ℕ) : Type 0 where
  pub persist : event_is is_persist t p ≡ true
  pub earlier : p < q
  pub strand : same_strand mode t p q ≡ true
  pub word : word_at t p ≡ word_at t q

-- p is a persist of a lower epoch of q's strand
pub record Lower (mode : Mode) (t : List Event) (p q : ℕ) : Type 0 where
  pub persist : event_is is_persist t p ≡ true
  pub strand : same_strand mode t p q ≡ true
  pub epoch : epoch mode t p < epoch mode t q

-- the parts hold the dispatched persists and no others, each once
pub record AreParts (g : Settings) (s : State) : Type 0 where
  pub apart : AreApart (set_of s.buffered) s.flight (set_of s.durable)
  pub together : (p : ℕ) → (is_accepted g s (core_at s.now.trace p) p ≡ true) ↔ IsInSomePart (set_of s.buffered) s.flight (set_of s.durable) p

-- a persist is sent after those of lower epochs of its strand are durable, and written after older ones of its word:
-- an older one of a request's word is durable or stands before it in the list of those in flight
pub record AreInOrder (mode : Mode) (t : List Event) (flight : List ℕ) (durable : Set) : Type 0 where
  pub lower : (p q : ℕ) → Sent flight durable q → Lower mode t p q → durable p ≡ true
  pub older : (p q : ℕ) → durable q ≡ true → Older mode t p q → durable p ≡ true
  pub in_flight : (i p q : ℕ) → slice_get flight i ≡ Some q → Older mode t p q → (durable p ≡ true) ⊎ ((h : ℕ) × (h < i) × (slice_get flight h ≡ Some p))

-- a persist before access b is one that b's wait counts, or it is of b's strand and has a lower epoch or b's word
abbrev pub AreAccounted : Mode → List Event → Type 0
AreAccounted mode t = (p b : ℕ) → event_is is_persist t p ≡ true → Before mode t p b
    → (wait_counts mode t b p ≡ true) ⊎ ((same_strand mode t p b ≡ true) × ((epoch mode t p < epoch mode t b) ⊎ (word_at t p ≡ word_at t b)))

-- the wait of each persist in flight or durable is met, and under stall that of every access
abbrev pub AreMet : Conflict → Mode → List Event → List ℕ → Set → Type 0
AreMet conflict mode t flight durable = (b : ℕ) → event_is is_access t b ≡ true → (conflict ≡ Stall) ⊎ Sent flight durable b → is_met mode t durable b ≡ true

-- persist p was dispatched and isn't durable
abbrev pub IsOpen : Settings → State → ℕ → Type 0
IsOpen g s p = (is_accepted g s (core_at s.now.trace p) p ≡ true) × (set_of s.durable p ≡ false)

-- the persists of one buffer that aren't durable are of one strand, a strand uses no more places than its ring has, and
-- no more requests are in flight than can be
pub record FitBuffers (g : Settings) (s : State) : Type 0 where
  pub one_strand : (p q : ℕ) → IsOpen g s p → IsOpen g s q → core_at s.now.trace p ≡ core_at s.now.trace q
      → buffer_of g (strand_number g.mode s.now.trace p) ≡ buffer_of g (strand_number g.mode s.now.trace q)
      → strand_number g.mode s.now.trace p ≡ strand_number g.mode s.now.trace q
  pub ring : (n k : ℕ) → ring_use g s n k ≤ g.ring
  pub requests : length s.flight ≤ g.flight
