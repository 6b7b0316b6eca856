-- Serves Trace::push, persists and joined: what a trace keeps when one more event comes.
use Rattle.std.proofs.Common.{◌≡◌, ℕ, zero, suc, ◌-◌, ◌^◌, ◌<◌, ◌≤◌, Bool, inl, inr, List, [], ◌∷◌, ◌++◌, length, refl, sym, ap, ◌∙◌, arith, length-append}
use Rattle.std.specs.Prelude.{if◌then◌else◌, slice_index_or, slice_set}
use Rattle.std.proofs.lemmas.Bool.{cases_Bool, cases_eq, ne_eqb}
use Rattle.std.proofs.lemmas.List.{get_or-set_same, get_or-set_other, length-set}
use Rattle.strand_base.specs.declared.limits.TheConstants.{CORE_ROOM}
use Rattle.strand_events.specs.declared.event.Event.{Event}
use Rattle.strand_base.specs.Counting.{count_below}
use Rattle.strand_base.proofs.BelowBound.{at_or_below, get_last, list_agree, list_length, count_yes, count_no}
use Rattle.strand_events.specs.Trace.{passes, core_of, core_in, core_at, is_access, is_new_strand, is_barrier_or_join, is_persist, event_is, core_event_is, persists_of}
use Rattle.strand_events.specs.declared.event_counts.EventCounts.{EventCounts}
use Rattle.strand_events.specs.TraceSeen.{IsKeptTrace}
use Rattle.strand_events.specs.EventCounts.{CanRise, is_border, counts_below, counts_after, nothing_made, AreEventCounts, AreLatest}
use Rattle.strand_events.proofs.StrandAndEpoch.{counts_kept, counts_own, counts_other}
use Rattle.strand_events.specs.Fits.{EventFits, AllFit}
use Rattle.strand_events.proofs.LongerTrace.{event_is_kept, core_kept}

-- a count is at most the bound
pub count_most : (n : ℕ) (f : ℕ → Bool) → count_below n f ≤ n
count_most zero f = omega arith
count_most (suc n) f = elim (cases_Bool (f n)) [ inl e ↦ omega (arith, count_yes n f e, count_most n f) | inr e ↦ omega (arith, count_no n f e, count_most n f) ]

pub persists_most : (t : List Event) → length (persists_of t) ≤ length t
persists_most t = omega (arith, list_length (length t) (event_is is_persist t), count_most (length t) (event_is is_persist t))

-- the last event passes a test where it does by itself
pub last_is : (test : Event → Bool) (t : List Event) (e : Event) → event_is test (t ++ e ∷ []) (length t) ≡ test e
last_is test t e = ap (passes test) (get_last t e)

pub persists_next : (t : List Event) (e : Event) → persists_of (t ++ e ∷ []) ≡ (if is_persist e then persists_of t ++ length t ∷ [] else persists_of t)
persists_next t e =
    let more : length (t ++ e ∷ []) ≡ suc (length t) = omega (arith, length-append t (e ∷ [])) in
    let same = list_agree (length t) (event_is is_persist (t ++ e ∷ [])) (event_is is_persist t) (λ k lt. event_is_kept t e is_persist k lt) in
    rw (more, last_is is_persist t e, same) refl

all_fit_next : (t : List Event) (e : Event) → AllFit t → EventFits e → AllFit (t ++ e ∷ [])
all_fit_next [] e all fits = (fits, tt)
all_fit_next (x ∷ t) e all fits = (all.0, all_fit_next t e all.1 fits)

-- an element of a list with one more at its end
index_more : {X : Type 0} (xs : List X) (y d : X) (i : ℕ) → i < length xs → slice_index_or (xs ++ y ∷ []) i d ≡ slice_index_or xs i d
index_more [] y d i lt = absurd (omega arith)
index_more (x ∷ xs) y d zero lt = refl
index_more (x ∷ xs) y d (suc i) lt = index_more xs y d i (omega arith)

index_last : {X : Type 0} (xs : List X) (y d : X) → slice_index_or (xs ++ y ∷ []) (length xs) d ≡ y
index_last [] y d = refl
index_last (x ∷ xs) y d = index_last xs y d

counts_next : (t : List Event) (counts : List EventCounts) (e : Event) (m : EventCounts) → AreEventCounts t counts → m ≡ counts_below t (core_of e) (length t) → AreEventCounts (t ++ e ∷ []) (counts ++ m ∷ [])
counts_next t counts e m are is = (
  omega (arith, are.0, length-append t (e ∷ []), length-append counts (m ∷ [])),
  λ i lt. elim (cases_eq i (length t)) [
    | inl same ↦
        let core : core_at (t ++ e ∷ []) i ≡ core_of e = ap (core_at (t ++ e ∷ [])) same ∙ ap core_in (get_last t e) in
        let kept = counts_kept t e (core_of e) (length t) (omega arith) in
        let last : slice_index_or (counts ++ m ∷ []) i nothing_made ≡ m = ap (λ j. slice_index_or (counts ++ m ∷ []) j nothing_made) (same ∙ sym are.0) ∙ index_last counts m nothing_made in
        last ∙ is ∙ sym kept ∙ ap (λ j. counts_below (t ++ e ∷ []) (core_of e) j) (sym same) ∙ ap (λ c. counts_below (t ++ e ∷ []) c i) (sym core)
    | inr other ↦
        let below : i < length t = at_or_below (omega (arith, lt, length-append t (e ∷ []))) other in
        let core : core_at (t ++ e ∷ []) i ≡ core_at t i = core_kept t e i below in
        index_more counts m nothing_made i (omega (arith, are.0)) ∙ are.1 i below ∙ sym (counts_kept t e (core_at t i) i (omega arith)) ∙ ap (λ c. counts_below (t ++ e ∷ []) c i) (sym core)
  ],
)

latest_next : (t : List Event) (latest : List EventCounts) (e : Event) → length latest ≡ CORE_ROOM → core_of e < CORE_ROOM → AreLatest t latest → AreLatest (t ++ e ∷ []) (slice_set latest (core_of e) (counts_after e (counts_below t (core_of e) (length t))))
latest_next t latest e eight small are core lt =
    let more : length (t ++ e ∷ []) ≡ suc (length t) = omega (arith, length-append t (e ∷ [])) in
    let new = counts_after e (counts_below t (core_of e) (length t)) in
    elim (cases_eq core (core_of e)) [
      | inl same ↦ rw (same, more) (get_or-set_same latest (core_of e) new nothing_made (omega (arith, eight)) ∙ sym (counts_own t e))
      | inr other ↦ rw more (get_or-set_other latest (core_of e) core new nothing_made other ∙ are core lt ∙ sym (counts_other t e core (ne_eqb (core_of e) core (λ s. other (sym s)))))
    ]

-- an event's core can make one more
pub can_rise : (t : List Event) (room : ℕ) (persists : List ℕ) (counts latest : List EventCounts) (core : ℕ) → IsKeptTrace t room persists counts latest → length t < room → core < CORE_ROOM → CanRise (slice_index_or latest core nothing_made)
can_rise t room persists counts latest core kept lt small =
    let n = length t in
    let below : n < 2 ^ 32 - 1 = omega (arith, kept.small) in
    rw (kept.latest_are.1 core small) (
      omega (arith, count_most n (core_event_is is_access core t)),
      omega (arith, count_most n (core_event_is is_new_strand core t)),
      omega (arith, count_most n (core_event_is is_barrier_or_join core t)),
      omega (arith, count_most n (is_border core t n)),
    )

pub kept_next : (t : List Event) (room : ℕ) (persists : List ℕ) (counts latest : List EventCounts) (e : Event) (m new : EventCounts) → IsKeptTrace t room persists counts latest → length t < room → EventFits e
    → m ≡ slice_index_or latest (core_of e) nothing_made → new ≡ counts_after e m
    → IsKeptTrace (t ++ e ∷ []) room (if is_persist e then persists ++ length t ∷ [] else persists) (counts ++ m ∷ []) (slice_set latest (core_of e) new)
kept_next t room persists counts latest e m new kept lt fits read next =
    let is : m ≡ counts_below t (core_of e) (length t) = read ∙ kept.latest_are.1 (core_of e) fits.0 in
    record {
      within = omega (arith, length-append t (e ∷ []));
      small = kept.small;
      fits = all_fit_next t e kept.fits fits;
      persists_are = rw kept.persists_are (sym (persists_next t e));
      counts_are = counts_next t counts e m kept.counts_are is;
      latest_are = (length-set latest (core_of e) new ∙ kept.latest_are.0, rw (next, is) (latest_next t latest e kept.latest_are.0 fits.0 kept.latest_are.1));
    }
