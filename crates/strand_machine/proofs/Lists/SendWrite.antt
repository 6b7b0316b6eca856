-- Serves clause parts of Machine::step: what a send and a write do to the lists of the buffers.
use Rattle.std.proofs.Common.{◌≡◌, ℕ, suc, ◌<◌, Bool, true, false, inl, inr, List, [], ◌∷◌, length, map, refl, sym, ap, ◌∙◌}
use Rattle.std.specs.Prelude.{not, ◌==◌, if◌then◌else◌, slice_get, slice_set, Some}
use Rattle.std.proofs.lemmas.Bool.{cases_Bool, cases_eq, and_parts, eq-eqb, ne_eqb}
use Rattle.strand_base.specs.Counting.{list_below}
use Rattle.strand_base.proofs.BelowBound.{list_get}
use Rattle.strand_inputs.specs.Settings.{Settings}
use Rattle.strand_events.specs.declared.event.Event.{Event}
use Rattle.strand_events.specs.Trace.{is_persist, event_is, strand_number, persist_number}
use Rattle.strand_events.specs.Order.{set_of}
use Rattle.strand_rules.specs.Cycle.{State, is_accepted, is_dispatched, buffer_of, send_after, write_after}
use Rattle.strand_rules.proofs.Marks.{held_set, held_other}
use Rattle.strand_rules.proofs.Ranks.{same_rank}
use Rattle.strand_buffer.specs.declared.entry.Entry.{Entry}
use Rattle.strand_buffer.specs.declared.entry.Stage.{Stage}
use Rattle.strand_buffer.specs.declared.entry.Stage.TheVariants.{Buffered, Sent, Released}
use Rattle.strand_buffer.specs.Entries.{from_open, is_open, trimmed}
use Rattle.strand_buffer.specs.Buffers.{with_stage}
use Rattle.strand_machine.proofs.Lists.FromOpen.{is_used, open_below, open_again, open_map}
use Rattle.strand_machine.specs.Lists.{is_of_buffer, listed, stage_of, entry_of, entries}

not_not : (x : Bool) → not (not x) ≡ x
not_not true = refl
not_not false = refl

-- maps that agree on the members
pub map_on : {X : Type 0} (f h : ℕ → X) (xs : List ℕ) → ((i q : ℕ) → slice_get xs i ≡ Some q → f q ≡ h q) → map f xs ≡ map h xs
map_on f h [] same = refl
map_on f h (x ∷ xs) same = cc (same 0 x refl, map_on f h xs (λ i q e. same (suc i) q e))

map_two : (f : Entry → Entry) (h : ℕ → Entry) (xs : List ℕ) → map f (map h xs) ≡ map (λ q. f (h q)) xs
map_two f h [] = refl
map_two f h (x ∷ xs) = ap (λ es. f (h x) ∷ es) (map_two f h xs)

-- the same for what is left of a list where tests agree on the members
pub open_on : {X : Type 0} (f h : ℕ → X) (done more : ℕ → Bool) (xs : List ℕ) → ((i q : ℕ) → slice_get xs i ≡ Some q → (f q ≡ h q) × (done q ≡ more q)) → map f (from_open done xs) ≡ map h (from_open more xs)
open_on f h done more [] same = refl
open_on f h done more (x ∷ xs) same = elim (cases_Bool (done x)) [
  | inl yes_ ↦ let yes' : more x ≡ true = sym ((same 0 x refl).1) ∙ yes_ in rw (yes_, yes') (open_on f h done more xs (λ i q e. same (suc i) q e))
  | inr no_ ↦ let no' : more x ≡ false = sym ((same 0 x refl).1) ∙ no_ in rw (no_, no') (map_on f h (x ∷ xs) (λ i q e. (same i q e).0))
]

-- a member of a buffer's list is a persist of that buffer
pub listed_member : (g : Settings) (s : State) (n b i q : ℕ) → slice_get (listed g s n b) i ≡ Some q → (q < length s.now.trace) × (is_of_buffer g s n b q ≡ true)
listed_member g s n b i q e =
    let r = list_get (length s.now.trace) (is_used (is_of_buffer g s n b) (set_of s.durable)) i q (ap (λ xs. slice_get xs i) (sym (open_below (is_of_buffer g s n b) (set_of s.durable) (length s.now.trace))) ∙ e) in
    (r.0, (and_parts (is_of_buffer g s n b q) _ r.1).0)

pub listed_persist : (g : Settings) (s : State) (n b i q : ℕ) → slice_get (listed g s n b) i ≡ Some q → event_is is_persist s.now.trace q ≡ true
listed_persist g s n b i q e =
    (and_parts (is_dispatched g s n q) (event_is is_persist s.now.trace q) ((and_parts (is_accepted g s n q) (buffer_of g (strand_number g.mode s.now.trace q) == b) ((listed_member g s n b i q e).1)).0)).1

-- two persists with one number are one
pub number_apart : (t : List Event) (p q : ℕ) → event_is is_persist t p ≡ true → event_is is_persist t q ≡ true → (q ≡ p → ⊥) → persist_number t q ≡ persist_number t p → ⊥
number_apart t p q is_p is_q ne e = ne (same_rank (event_is is_persist t) q p is_q is_p e)

pub stage_is_open : (g : Settings) (s : State) (p : ℕ) → is_open (entry_of g s p) ≡ not (set_of s.durable p)
stage_is_open g s p = elim (cases_Bool (set_of s.durable p)) [
  | inl d ↦ rw d refl
  | inr d ↦ elim (cases_Bool (set_of s.buffered p)) [ inl w ↦ rw (d, w) refl | inr w ↦ rw (d, w) refl ]
]

module _ (g : Settings) (s : State) (p : ℕ) (persist : event_is is_persist s.now.trace p ≡ true) where
  -- an entry of another number stays
  stage_other : (stage : Stage) (q : ℕ) → event_is is_persist s.now.trace q ≡ true → (q ≡ p → ⊥) → with_stage stage (persist_number s.now.trace p) (entry_of g s q) ≡ entry_of g s q
  stage_other stage q is ne = rw (ne_eqb (persist_number s.now.trace q) (persist_number s.now.trace p) (number_apart s.now.trace p q persist is ne)) refl

  stage_own : (stage : Stage) → with_stage stage (persist_number s.now.trace p) (entry_of g s p) ≡ record (entry_of g s p) { stage = stage }
  stage_own stage = rw (eq-eqb (persist_number s.now.trace p) (persist_number s.now.trace p) refl) refl

  module _ (inside : p < length s.buffered) (undone : set_of s.durable p ≡ false) where
    abbrev after_send : State
    after_send = send_after s (Some p)

    entry_sent : (q : ℕ) → event_is is_persist s.now.trace q ≡ true → entry_of g after_send q ≡ with_stage Sent (persist_number s.now.trace p) (entry_of g s q)
    entry_sent q is = elim (cases_eq q p) [
      | inl e ↦ rw e (
          let now : set_of (slice_set s.buffered p false) p ≡ false = held_set s.buffered p false inside in
          let stage : stage_of after_send p ≡ Sent = rw (undone, now) refl in
          ap (λ (x : Stage). record (entry_of g s p) { stage = x }) stage ∙ sym (stage_own Sent))
      | inr ne ↦
          let same : stage_of after_send q ≡ stage_of s q = ap (λ b. if set_of s.durable q then Released else if b then Buffered else Sent) (held_other s.buffered p false q ne) in
          ap (λ (x : Stage). record (entry_of g s q) { stage = x }) same ∙ sym (stage_other Sent q is ne)
    ]

    -- a send marks the sent persist's entry
    pub entries_sent : (n b : ℕ) → entries g after_send n b ≡ map (with_stage Sent (persist_number s.now.trace p)) (entries g s n b)
    entries_sent n b =
        map_on (entry_of g after_send) (λ q. with_stage Sent (persist_number s.now.trace p) (entry_of g s q)) (listed g s n b) (λ i q e. entry_sent q (listed_persist g s n b i q e))
        ∙ sym (map_two (with_stage Sent (persist_number s.now.trace p)) (entry_of g s) (listed g s n b))

  module _ (j : ℕ) (inside : p < length s.durable) where
    abbrev after_write : State
    after_write = write_after s j (Some p)

    entry_written : (q : ℕ) → event_is is_persist s.now.trace q ≡ true → with_stage Released (persist_number s.now.trace p) (entry_of g s q) ≡ entry_of g after_write q
    entry_written q is = elim (cases_eq q p) [
      | inl e ↦ rw e (
          let now : set_of (slice_set s.durable p true) p ≡ true = held_set s.durable p true inside in
          let stage : stage_of after_write p ≡ Released = rw now refl in
          stage_own Released ∙ sym (ap (λ (x : Stage). record (entry_of g s p) { stage = x }) stage))
      | inr ne ↦
          let same : stage_of after_write q ≡ stage_of s q = ap (λ b. if b then Released else if set_of s.buffered q then Buffered else Sent) (held_other s.durable p true q ne) in
          stage_other Released q is ne ∙ sym (ap (λ (x : Stage). record (entry_of g s q) { stage = x }) same)
    ]

    still_done : (q : ℕ) → set_of s.durable q ≡ true → set_of (slice_set s.durable p true) q ≡ true
    still_done q d = elim (cases_eq q p) [ inl e ↦ ap (set_of (slice_set s.durable p true)) e ∙ held_set s.durable p true inside | inr ne ↦ held_other s.durable p true q ne ∙ d ]

    -- a write marks the written persist's entry, and drops what no older one keeps
    pub entries_written : (n b : ℕ) → entries g after_write n b ≡ trimmed (map (with_stage Released (persist_number s.now.trace p)) (entries g s n b))
    entries_written n b =
        let now : ℕ → Entry = λ q. with_stage Released (persist_number s.now.trace p) (entry_of g s q) in
        ap (map (entry_of g after_write)) (sym (open_again (set_of s.durable) (set_of (slice_set s.durable p true)) (list_below (length s.now.trace) (is_of_buffer g s n b)) still_done))
        ∙ sym (open_on now (entry_of g after_write) (λ q. not (is_open (now q))) (set_of (slice_set s.durable p true)) (listed g s n b) (λ i q e.
        let same = entry_written q (listed_persist g s n b i q e) in
        (same, ap (λ (x : Entry). not (is_open x)) same ∙ ap not (stage_is_open g after_write q) ∙ not_not (set_of (slice_set s.durable p true) q))))
        ∙ sym (open_map now (λ e. not (is_open e)) (listed g s n b))
        ∙ ap trimmed (sym (map_two (with_stage Released (persist_number s.now.trace p)) (entry_of g s) (listed g s n b)))
