-- Serves clauses conflicts, own and others of waits_are_noted.
-- Where accesses are noted with their waits, what an access covers is what conflicts hand on; and a core's vectors follow its events.
use Rattle.std.proofs.Common.{◌≡◌, ℕ, zero, suc, ◌+◌, ◌<◌, Bool, true, false, inl, inr, ◌&&◌, ◌||◌, List, [], ◌∷◌, ◌++◌, length, map, refl, sym, ap, ◌∙◌, arith}
use Rattle.std.specs.Prelude.{max, not, ◌==◌, if◌then◌else◌, slice_index}
use Rattle.std.proofs.lemmas.Bool.{cases_Bool, eqb-true, eq-eqb}
use Rattle.std.proofs.lemmas.List.{map-append}
use Rattle.strand_base.specs.declared.limits.TheConstants.{CORE_ROOM}
use Rattle.strand_base.specs.Counting.{list_below}
use Rattle.strand_inputs.specs.declared.mode.Mode.{Mode}
use Rattle.strand_inputs.specs.declared.conflict.Conflict.TheVariants.{Tag}
use Rattle.strand_events.specs.declared.event.Event.{Event}
use Rattle.strand_events.specs.Trace.{is_access, is_store, core_of, core_at, word_at, event_is, same_strand}
use Rattle.strand_events.specs.Order.{conflicts}
use Rattle.strand_events.specs.Greatest.{max_below}
use Rattle.strand_events.specs.Prefixes.{made_below}
use Rattle.strand_events.specs.Waits.{made_at, wait}
use Rattle.strand_events.specs.Vectors.{handed_by_conflicts, waits_after}
use Rattle.strand_events.proofs.Waits.Greatest.{max_agree}
use Rattle.strand_events.proofs.Waits.Vectors.{own_moves, others_stay}
use Rattle.strand_tags.specs.declared.core_waits.CoreWaits.{CoreWaits}
use Rattle.strand_tags.specs.Access.{Access, Noted, part, covered}
use Rattle.strand_tags.specs.WaitEntries.{wait_entry, KeepsWaits}
use Rattle.strand_tags.specs.Traces.{access_at, noted_at, noted_below}
use Rattle.strand_tags.proofs.StandFor.{covered_push}
use Rattle.strand_tags.proofs.Vectors.{each_at}

-- the greatest over the noted accesses is the greatest over the numbers that pass
covered_below : (c : ℕ) (b : Access) (f : ℕ → Noted) (n : ℕ) (test : ℕ → Bool) → covered c b (map f (list_below n test)) ≡ max_below n (λ a. if test a then part c b (f a) else 0)
covered_below c b f zero test = refl
covered_below c b f (suc n) test =
    let rest = covered_below c b f n test in
    elim (cases_Bool (test n)) [
      | inl yes_ ↦ rw (yes_, map-append f (list_below n test) (n ∷ []), covered_push c b (map f (list_below n test)) (f n)) (omega (arith, rest))
      | inr no_ ↦ rw no_ (omega (arith, rest))
    ]

module _ (mode : Mode) (t : List Event) where
  module _ (b c : ℕ) (is : event_is is_access t b ≡ true) (few : c < CORE_ROOM) where
    tidy : (p w s o n : Bool) (x m : ℕ) → (if p && true && w && s then max x (if o && n then m else 0) else 0) ≡ (if p then max (if w && s then x else 0) (if o && (w && s && n) then m else 0) else 0)
    tidy true true true o n x m = refl
    tidy true true false true n x m = refl
    tidy true true false false n x m = refl
    tidy true false s true n x m = refl
    tidy true false s false n x m = refl
    tidy false w s o n x m = refl

    -- the core's own access is of it
    own : (a n : ℕ) (apart : Bool) → (if (n == c) && apart then made_below t c (a + 1) else 0) ≡ (if (n == c) && apart then made_below t n (a + 1) else 0)
    own a n apart = elim (cases_Bool (n == c)) [
      | inl same ↦ ap (λ m. if (n == c) && apart then made_below t m (a + 1) else 0) (sym (eqb-true n c same))
      | inr other ↦ rw other refl
    ]

    hands : (a : ℕ) → (if conflicts t a b then max (wait mode t c a) (made_at mode t c b a) else 0) ≡ (if event_is is_access t a then part c (access_at mode t b) (noted_at Tag mode t a) else 0)
    hands a =
        rw (is, each_at (λ n. wait mode t n a) c few, own a (core_at t a) (not (same_strand mode t a b)))
        (tidy (event_is is_access t a) (word_at t a == word_at t b) (event_is is_store t a || event_is is_store t b) (core_at t a == c) (not (same_strand mode t a b)) (wait mode t c a) (made_below t (core_at t a) (a + 1)))

    pub conflicts_covered : handed_by_conflicts mode t c b ≡ covered c (access_at mode t b) (noted_below Tag mode t b)
    conflicts_covered =
        max_agree b (λ a. if conflicts t a b then max (wait mode t c a) (made_at mode t c b a) else 0) (λ a. if event_is is_access t a then part c (access_at mode t b) (noted_at Tag mode t a) else 0) (λ a lt. hands a)
        ∙ sym (covered_below c (access_at mode t b) (noted_at Tag mode t) b (event_is is_access t))

  module _ (e : Event) where
    pub keeps_own : (old new : CoreWaits) (w : List ℕ) → KeepsWaits mode t (core_of e) old → ((c : ℕ) → c < CORE_ROOM → slice_index w c ≡ wait mode (t ++ e ∷ []) c (length t))
        → ((c : ℕ) → c < CORE_ROOM → wait_entry new c ≡ waits_after mode e (slice_index w c) (wait_entry old c)) → KeepsWaits mode (t ++ e ∷ []) (core_of e) new
    keeps_own old new w kept is moved c few =
        moved c few ∙ ap (λ x. waits_after mode e x (wait_entry old c)) (is c few) ∙ ap (waits_after mode e (wait mode (t ++ e ∷ []) c (length t))) (kept c few)
        ∙ sym (own_moves mode t e c (core_of e) (eq-eqb (core_of e) (core_of e) refl))

    pub keeps_other : (n : ℕ) (old : CoreWaits) → (core_of e == n) ≡ false → KeepsWaits mode t n old → KeepsWaits mode (t ++ e ∷ []) n old
    keeps_other n old other kept c few = kept c few ∙ sym (others_stay mode t e c n other)
