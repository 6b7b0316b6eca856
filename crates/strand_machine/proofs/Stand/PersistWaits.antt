-- Serves clause parts of Machine::step: persists' waits, and what a core keeps of waits, when the trace grows.
use Rattle.std.proofs.Common.{◌≡◌, ℕ, ◌<◌, ◌≤◌, inl, inr, List, [], ◌∷◌, ◌++◌, length, map, refl, ap, ◌∙◌, arith}
use Rattle.std.specs.Prelude.{slice_index, if◌then◌else◌}
use Rattle.std.proofs.lemmas.Bool.{cases_Bool}
use Rattle.std.proofs.lemmas.List.{length-map, map-append}
use Rattle.strand_base.specs.declared.limits.TheConstants.{CORE_ROOM}
use Rattle.strand_base.proofs.BelowBound.{list_length}
use Rattle.strand_inputs.specs.Settings.{Settings}
use Rattle.strand_inputs.specs.declared.conflict.Conflict.{Conflict}
use Rattle.strand_inputs.specs.declared.conflict.Conflict.TheVariants.{Stall, Tag}
use Rattle.strand_inputs.specs.declared.mode.Mode.{Mode}
use Rattle.strand_events.specs.declared.event.Event.{Event}
use Rattle.strand_events.specs.Trace.{core_event_is, event_is, is_persist, persists_of}
use Rattle.strand_events.specs.Vectors.{WaitEntry}
use Rattle.strand_events.specs.Waits.{wait}
use Rattle.strand_events.proofs.TraceInvariant.{count_most, persists_next}
use Rattle.strand_events.proofs.Waits.LongerTrace.{wait_kept}
use Rattle.strand_tags.specs.WaitEntries.{KeepsWaits}
use Rattle.strand_tags.specs.Traces.{noted_wait}
use Rattle.strand_tags.specs.declared.core_waits.CoreWaits.{CoreWaits}
use Rattle.strand_tags.proofs.Vectors.{each_at, same_each}
use Rattle.strand_machine.specs.Stand.{persist_waits}
use Rattle.strand_machine.proofs.Lists.FromOpen.{map_below}

-- an event's wait stays
pub wait_longer : (conflict : Conflict) (mode : Mode) (t : List Event) (e : Event) (a : ℕ) → a < length t → noted_wait conflict mode (t ++ e ∷ []) a ≡ noted_wait conflict mode t a
wait_longer Stall mode t e a lt = refl
wait_longer Tag mode t e a lt = same_each (λ c. wait mode (t ++ e ∷ []) c a) (λ c. wait mode t c a) (λ c. wait_kept mode t e c a lt)

-- under tag it has the wait for each of eight cores
pub tagged_wait : (conflict : Conflict) (mode : Mode) (t : List Event) (a c : ℕ) → conflict ≡ Tag → c < CORE_ROOM → slice_index (noted_wait conflict mode t a) c ≡ wait mode t c a
tagged_wait conflict mode t a c tag lt = ap (λ k. slice_index (noted_wait k mode t a) c) tag ∙ each_at (λ core. wait mode t core a) c lt

-- a persist's wait comes to the end
pub persist_waits_longer : (g : Settings) (t : List Event) (e : Event)
    → persist_waits g (t ++ e ∷ []) ≡ (if is_persist e then persist_waits g t ++ noted_wait g.conflict g.mode (t ++ e ∷ []) (length t) ∷ [] else persist_waits g t)
persist_waits_longer g t e =
    let old : map (noted_wait g.conflict g.mode (t ++ e ∷ [])) (persists_of t) ≡ persist_waits g t = map_below (noted_wait g.conflict g.mode (t ++ e ∷ [])) (noted_wait g.conflict g.mode t) (length t) (event_is is_persist t) (λ k lt yes_. wait_longer g.conflict g.mode t e k lt) in
    elim (cases_Bool (is_persist e)) [
      | inl yes_ ↦ rw yes_ (ap (map (noted_wait g.conflict g.mode (t ++ e ∷ []))) (persists_next t e ∙ (rw yes_ refl)) ∙ map-append (noted_wait g.conflict g.mode (t ++ e ∷ [])) (persists_of t) (length t ∷ []) ∙ ap (λ ws. ws ++ noted_wait g.conflict g.mode (t ++ e ∷ []) (length t) ∷ []) old)
      | inr no_ ↦ rw no_ (ap (map (noted_wait g.conflict g.mode (t ++ e ∷ []))) (persists_next t e ∙ (rw no_ refl)) ∙ old)
    ]

-- there are as many as persists, and no more than events
pub persist_waits_most : (g : Settings) (t : List Event) → length (persist_waits g t) ≤ length t
persist_waits_most g t = omega (arith, length-map (persists_of t) (noted_wait g.conflict g.mode t), list_length (length t) (event_is is_persist t), count_most (length t) (event_is is_persist t))

-- a core's vectors count its persists, which are no more than the events
pub kept_made : (mode : Mode) (t : List Event) (n : ℕ) (w : CoreWaits) → KeepsWaits mode t n w → w.made ≤ length t
kept_made mode t n w keeps = omega (arith, ap (λ (x : WaitEntry). x.made) (keeps 0 (omega arith)), count_most (length t) (core_event_is is_persist n t))
