-- Serves clauses waits and missing of counts_tell_what_waits.
-- An access must wait exactly where for some core it covers more persists than lead.
use Rattle.std.proofs.Common.{◌≡◌, ℕ, zero, suc, ◌+◌, ◌<◌, ◌≤◌, Bool, true, false, ◌&&◌, ◌||◌, inl, inr, List, [], ◌∷◌, length, map, refl, sym, ap, subst, ◌∙◌, arith}
use Rattle.std.specs.Prelude.{nat_lt, max, not, ◌==◌, slice_index_or}
use Rattle.std.proofs.lemmas.Bool.{cases_Bool, cases_lt, and_parts, and_from, eqb-true, eq-eqb, ltb-true, lt-ltb, le-ltb, or_left, or_right, false≢true}
use Rattle.std.proofs.lemmas.List.{map-append}
use Rattle.std.proofs.lemmas.Option.{slice_get-get_or}
use Rattle.strand_base.specs.declared.limits.TheConstants.{CORE_ROOM}
use Rattle.strand_base.specs.Counting.{list_below, any_below}
use Rattle.strand_base.proofs.BelowBound.{any_true, any_from, any_agree}
use Rattle.strand_inputs.specs.declared.mode.Mode.{Mode}
use Rattle.strand_inputs.specs.declared.conflict.Conflict.TheVariants.{Stall}
use Rattle.strand_events.specs.declared.event.Event.{Event}
use Rattle.strand_events.specs.declared.event.Event.TheVariants.{Join}
use Rattle.strand_events.specs.Trace.{core_of, core_in, is_access, is_persist, core_at, event_is, core_event_is, same_strand}
use Rattle.strand_events.specs.Order.{Set, conflicts}
use Rattle.strand_events.specs.Fits.{AllFit}
use Rattle.strand_events.proofs.Joins.{fits_at}
use Rattle.strand_events.proofs.EventWithin.{event_within}
use Rattle.strand_events.specs.Prefixes.{made_below, durable_prefix}
use Rattle.strand_events.proofs.Waits.DurablePrefix.{missing_up_to}
use Rattle.strand_tags.specs.Access.{Access, Noted, conflicts_with, opposes, made_part, part, covered}
use Rattle.strand_tags.specs.Traces.{access_at, noted_at, noted_below, waits_by_counts}
use Rattle.strand_tags.proofs.StandFor.{covered_push}
use Rattle.strand_tags.proofs.Vectors.{none_at}

-- each event is of one of eight cores
core_few : (t : List Event) (a : ℕ) → AllFit t → a < length t → core_at t a < CORE_ROOM
core_few t a fit lt =
    let at : core_at t a ≡ core_of (slice_index_or t a (Join 0)) = ap core_in (slice_get-get_or t a (Join 0) lt) in
    let fits = fits_at t a (Join 0) lt fit in
    subst (λ c. c < CORE_ROOM) (sym at) fits.0

pub alike : (a b : Bool) → (a ≡ true → b ≡ true) → (b ≡ true → a ≡ true) → a ≡ b
alike true true h k = refl
alike false false h k = refl
alike true false h k = absurd (false≢true (h refl))
alike false true h k = absurd (false≢true (k refl))

lt_max : (x a b : ℕ) → nat_lt x (max a b) ≡ nat_lt x b || nat_lt x a
lt_max x a b = elim (cases_lt x b) [
  | inl lt ↦ lt-ltb x (max a b) (omega arith) ∙ sym (or_left (nat_lt x b) (nat_lt x a) (lt-ltb x b lt))
  | inr le ↦ elim (cases_lt x a) [
    | inl lt ↦ lt-ltb x (max a b) (omega arith) ∙ sym (or_right (nat_lt x b) (nat_lt x a) (lt-ltb x a lt))
    | inr le' ↦ le-ltb x (max a b) (omega arith) ∙ sym (rw (le-ltb x b le, le-ltb x a le') refl)
  ]
]

-- a number is below the maximum where it is below what one access adds
below_covered : (c x : ℕ) (b : Access) (g : ℕ → Noted) (n : ℕ) (f : ℕ → Bool) → nat_lt x (covered c b (map g (list_below n f))) ≡ any_below n (λ a. f a && nat_lt x (part c b (g a)))
below_covered c x b g zero f = le-ltb x 0 (omega arith)
below_covered c x b g (suc n) f = elim (cases_Bool (f n)) [
  | inl yes_ ↦ rw (yes_, map-append g (list_below n f) (n ∷ []), covered_push c b (map g (list_below n f)) (g n), lt_max x (covered c b (map g (list_below n f))) (part c b (g n)), below_covered c x b g n f) refl
  | inr no_ ↦ rw no_ (below_covered c x b g n f)
]

-- what an access of core c made is more than x where it is of core c, opposes, and its core had made more
below_part : (c x : ℕ) (b : Access) (n : Noted) → nat_lt x (made_part c b n) ≡ true → (n.access.core ≡ c) × (opposes n.access b ≡ true) × (x < n.made)
below_part c x b n h = elim (cases_Bool ((n.access.core == c) && opposes n.access b)) [
  | inl yes_ ↦
      let parts = and_parts (n.access.core == c) (opposes n.access b) yes_ in
      let e : made_part c b n ≡ n.made = rw yes_ refl in
      (eqb-true n.access.core c parts.0, parts.1, (let lt = ltb-true x (made_part c b n) h in omega (arith, lt, e)))
  | inr no_ ↦ let e : made_part c b n ≡ 0 = rw no_ refl in let lt = ltb-true x (made_part c b n) h in absurd (omega (arith, lt, e))
]

part_below : (c x : ℕ) (b : Access) (n : Noted) → n.access.core ≡ c → opposes n.access b ≡ true → x < n.made → nat_lt x (made_part c b n) ≡ true
part_below c x b n e yes_ lt =
    let is : made_part c b n ≡ n.made = rw (and_from (n.access.core == c) (opposes n.access b) (eq-eqb n.access.core c e) yes_) refl in
    lt-ltb x (made_part c b n) (omega (arith, is, lt))

regroup : (a e w s n : Bool) → e ≡ true → (a && e && w && s && n) ≡ (a && (w && s && n))
regroup true e w s n h = rw h refl
regroup false e w s n h = refl

-- some persist of core c below an end isn't durable exactly where fewer lead than it made there
pub wait_by_counts : (t : List Event) (durable : Set) (c end : ℕ) → end ≤ length t → any_below end (λ p. core_event_is is_persist c t p && not (durable p)) ≡ nat_lt (durable_prefix t durable c) (made_below t c end)
wait_by_counts t durable c end le = missing_up_to (core_event_is is_persist c t) durable (length t) end le

module _ (mode : Mode) (t : List Event) (durable : Set) (b : ℕ) (is : event_is is_access t b ≡ true) where
  abbrev some_wait : ℕ → ℕ → Bool
  some_wait c end = any_below end (λ p. core_event_is is_persist c t p && not (durable p))

  -- an earlier access holds the access up
  abbrev holds_up : ℕ → Bool
  holds_up a = conflicts t a b && not (same_strand mode t a b) && some_wait (core_at t a) (a + 1)

  -- its part of core c is more than lead
  abbrev is_more : ℕ → ℕ → Bool
  is_more c a = event_is is_access t a && nat_lt (durable_prefix t durable c) (made_part c (access_at mode t b) (noted_at Stall mode t a))

  opposes_same : (a : ℕ) → (conflicts t a b && not (same_strand mode t a b)) ≡ (event_is is_access t a && opposes (access_at mode t a) (access_at mode t b))
  opposes_same a = regroup _ _ _ _ _ is

  up : (c a : ℕ) → a < length t → is_more c a ≡ true → holds_up a ≡ true
  up c a lt h =
      let parts = and_parts (event_is is_access t a) (nat_lt (durable_prefix t durable c) (made_part c (access_at mode t b) (noted_at Stall mode t a))) h in
      let r = below_part c (durable_prefix t durable c) (access_at mode t b) (noted_at Stall mode t a) parts.1 in
      let against : (conflicts t a b && not (same_strand mode t a b)) ≡ true = opposes_same a ∙ and_from (event_is is_access t a) (opposes (access_at mode t a) (access_at mode t b)) parts.0 r.1 in
      let more : durable_prefix t durable (core_at t a) < made_below t (core_at t a) (a + 1) = subst (λ x. durable_prefix t durable x < made_below t (core_at t a) (a + 1)) (sym r.0) r.2 in
      and_from (conflicts t a b && not (same_strand mode t a b)) (some_wait (core_at t a) (a + 1)) against (wait_by_counts t durable (core_at t a) (a + 1) (omega (arith, lt)) ∙ lt-ltb _ _ more)

  down : (a : ℕ) → a < length t → holds_up a ≡ true → is_more (core_at t a) a ≡ true
  down a lt h =
      let parts = and_parts (conflicts t a b && not (same_strand mode t a b)) (some_wait (core_at t a) (a + 1)) h in
      let against = and_parts (event_is is_access t a) (opposes (access_at mode t a) (access_at mode t b)) (sym (opposes_same a) ∙ parts.0) in
      let more = ltb-true (durable_prefix t durable (core_at t a)) (made_below t (core_at t a) (a + 1)) (sym (wait_by_counts t durable (core_at t a) (a + 1) (omega (arith, lt))) ∙ parts.1) in
      and_from (event_is is_access t a) (nat_lt (durable_prefix t durable (core_at t a)) (made_part (core_at t a) (access_at mode t b) (noted_at Stall mode t a))) against.0 (part_below (core_at t a) (durable_prefix t durable (core_at t a)) (access_at mode t b) (noted_at Stall mode t a) refl against.1 more)

  -- where accesses are noted with no wait, each adds what was made at it
  stalled : (c a : ℕ) → part c (access_at mode t b) (noted_at Stall mode t a) ≡ made_part c (access_at mode t b) (noted_at Stall mode t a)
  stalled c a = elim (cases_Bool (conflicts_with (access_at mode t a) (access_at mode t b))) [
    | inl yes_ ↦ rw (yes_, none_at c) (omega arith)
    | inr no_ ↦ rw no_ (omega arith)
  ]

  rows : waits_by_counts mode t durable b ≡ any_below CORE_ROOM (λ c. any_below b (is_more c))
  rows = any_agree CORE_ROOM (λ c. nat_lt (durable_prefix t durable c) (covered c (access_at mode t b) (noted_below Stall mode t b))) (λ c. any_below b (is_more c)) (λ c lt. below_covered c (durable_prefix t durable c) (access_at mode t b) (noted_at Stall mode t) b (event_is is_access t) ∙ any_agree b _ (is_more c) (λ a lt'. ap (λ x. event_is is_access t a && nat_lt (durable_prefix t durable c) x) (stalled c a)))

  inside : (a : ℕ) → a < b → a < length t
  inside a lt = omega (arith, lt, event_within is_access t b is)

  pub waits_alike : AllFit t → any_below b holds_up ≡ waits_by_counts mode t durable b
  waits_alike fit = alike (any_below b holds_up) (waits_by_counts mode t durable b)
      (λ h.
      let found = any_true b holds_up h in
      let lt = inside found.0 found.1 in
      rows ∙ (any_from CORE_ROOM (λ c. any_below b (is_more c)) (core_at t found.0) (core_few t found.0 fit lt) (any_from b (is_more (core_at t found.0)) found.0 found.1 (down found.0 lt found.2))))
      (λ h.
      let c = any_true CORE_ROOM (λ c. any_below b (is_more c)) (sym rows ∙ h) in
      let a = any_true b (is_more c.0) c.2 in
      any_from b holds_up a.0 a.1 (up c.0 a.0 (inside a.0 a.1) a.2))
