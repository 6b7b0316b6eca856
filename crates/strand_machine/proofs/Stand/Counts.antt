-- Serves clause parts of Machine::step: what events and writes do to a core's counts and to the noted accesses.
use Rattle.std.proofs.Common.{◌≡◌, ℕ, suc, ◌+◌, ◌<◌, ◌≤◌, Bool, true, false, ◌&&◌, ◌||◌, inl, inr, List, [], ◌∷◌, ◌++◌, length, map, refl, sym, ap, ◌∙◌, arith}
use Rattle.std.specs.Prelude.{◌==◌, if◌then◌else◌, slice_get, slice_set, Some}
use Rattle.std.specs.Option.{option_map}
use Rattle.std.proofs.lemmas.Bool.{cases_Bool, and_parts, eqb-true, eq-eqb, true≢false, false_from_ne_true}
use Rattle.std.proofs.lemmas.List.{map-append}
use Rattle.std.proofs.lemmas.Option.{slice_get-map, slice_get-get_or, slice_get_within, same_Some}
use Rattle.strand_base.proofs.BelowBound.{count_agree, count_yes, count_no, get_last}
use Rattle.strand_inputs.specs.declared.conflict.Conflict.{Conflict}
use Rattle.strand_inputs.specs.declared.mode.Mode.{Mode}
use Rattle.strand_inputs.specs.declared.mode.Mode.TheVariants.{Strict, Epoch, Strand}
use Rattle.strand_events.specs.declared.event.Event.{Event}
use Rattle.strand_events.specs.declared.event.Event.TheVariants as events
use Rattle.strand_events.specs.Trace.{is_barrier, word_in, is_access, is_new_strand, is_persist, is_store, core_of, word_of, core_at, event_is, core_event_is, persists_of, persist_number}
use Rattle.strand_events.specs.Order.{Set, set_of}
use Rattle.strand_events.proofs.TraceInvariant.{count_most, last_is}
use Rattle.strand_events.proofs.LongerTrace.{event_is_kept, core_event_kept}
use Rattle.strand_events.proofs.PersistOrder.Epochs.{barrier_begins_none}
use Rattle.strand_rules.specs.Cycle.{is_item}
use Rattle.strand_rules.specs.Looking.{next_strand}
use Rattle.strand_rules.proofs.Next.{core_new, number_new}
use Rattle.strand_rules.proofs.Buffers.Begin.{begins_none}
use Rattle.strand_base.proofs.ListBelow.{list_at}
use Rattle.strand_rules.proofs.Order.Sets.Event.{length_grown}
use Rattle.strand_rules.proofs.Marks.{held_other}
use Rattle.strand_tags.specs.Access.{Access, access, noted_as}
use Rattle.strand_events.specs.Prefixes.{leading, core_persists, durable_prefix, made_below}
use Rattle.strand_tags.specs.Traces.{access_at, noted_wait, noted_at, noted_accesses}
use Rattle.strand_tags.proofs.LongerTrace.{list_grown, made_kept, access_noted}
use Rattle.strand_machine.proofs.Lists.FromOpen.{map_below}

-- the next event, which is an access, as tags are asked of it
abbrev pub next_access : Mode → List Event → Event → Access
next_access mode t e = access (core_of e) (next_strand mode t (core_of e)) (word_of e) (is_store e)

module _ (t : List Event) (e : Event) where
  -- which it is at the end of the trace
  pub access_new : (mode : Mode) → access_at mode (t ++ e ∷ []) (length t) ≡ next_access mode t e
  access_new mode = cc (core_new t e, number_new mode t e, ap word_in (get_last t e), last_is is_store t e)

  core_last : (test : Event → Bool) (c : ℕ) → core_event_is test c (t ++ e ∷ []) (length t) ≡ (test e && (core_of e == c))
  core_last test c = cc (last_is test t e, core_new t e)

  -- how many persists a core made, its new event counted
  pub made_grown : (c : ℕ) → made_below (t ++ e ∷ []) c (length t + 1) ≡ made_below t c (length t) + (if is_persist e && (core_of e == c) then 1 else 0)
  made_grown c =
      let next : length t + 1 ≡ suc (length t) = omega arith in
      let kept = made_kept t e c (length t) (omega arith) in
      rw next (elim (cases_Bool (is_persist e && (core_of e == c))) [
        | inl yes_ ↦ rw yes_ (omega (arith, count_yes (length t) (core_event_is is_persist c (t ++ e ∷ [])) (core_last is_persist c ∙ yes_), kept))
        | inr no_ ↦ rw no_ (omega (arith, count_no (length t) (core_event_is is_persist c (t ++ e ∷ [])) (core_last is_persist c ∙ no_), kept))
      ])

  pub own_count : made_below (t ++ e ∷ []) (core_of e) (length t + 1) ≡ made_below t (core_of e) (length t) + (if is_persist e then 1 else 0)
  own_count = made_grown (core_of e) ∙ (elim (cases_Bool (is_persist e)) [ inl yes_ ↦ rw (yes_, eq-eqb (core_of e) (core_of e) refl) refl | inr no_ ↦ rw no_ refl ])

  module _ (conflict : Conflict) (mode : Mode) where
    noted_new : noted_at conflict mode (t ++ e ∷ []) (length t) ≡ noted_as (next_access mode t e) (made_below t (core_of e) (length t) + (if is_persist e then 1 else 0)) (noted_wait conflict mode (t ++ e ∷ []) (length t))
    noted_new =
        let made : made_below (t ++ e ∷ []) (core_at (t ++ e ∷ []) (length t)) (length t + 1) ≡ made_below t (core_of e) (length t) + (if is_persist e then 1 else 0) = ap (λ c. made_below (t ++ e ∷ []) c (length t + 1)) (core_new t e) ∙ own_count in
        cc (access_new mode, made)

    -- a new access is noted at the end
    pub noted_grown : is_access e ≡ true → noted_accesses conflict mode (t ++ e ∷ [])
        ≡ noted_accesses conflict mode t ++ noted_as (next_access mode t e) (made_below t (core_of e) (length t) + (if is_persist e then 1 else 0)) (noted_wait conflict mode (t ++ e ∷ []) (length t)) ∷ []
    noted_grown is = access_noted t e conflict mode is ∙ ap (λ n. noted_accesses conflict mode t ++ n ∷ []) noted_new

  number_kept_at : (p : ℕ) → p < length t → persist_number (t ++ e ∷ []) p ≡ persist_number t p
  number_kept_at p lt = count_agree p (event_is is_persist (t ++ e ∷ [])) (event_is is_persist t) (λ i below. event_is_kept t e is_persist i (omega arith))

  -- the number of the new event
  pub number_last : persist_number (t ++ e ∷ []) (length t) ≡ persist_number t (length t)
  number_last = count_agree (length t) (event_is is_persist (t ++ e ∷ [])) (event_is is_persist t) (λ i below. event_is_kept t e is_persist i below)

  -- a new persist is one more of its core
  pub numbers_grown : (c : ℕ) → map (persist_number (t ++ e ∷ [])) (core_persists (t ++ e ∷ []) c)
      ≡ (if is_persist e && (core_of e == c) then map (persist_number t) (core_persists t c) ++ persist_number t (length t) ∷ [] else map (persist_number t) (core_persists t c))
  numbers_grown c =
      let list = list_grown t e (core_event_is is_persist c (t ++ e ∷ [])) (core_event_is is_persist c t) (λ k lt. core_event_kept t e is_persist c k lt) in
      let old : map (persist_number (t ++ e ∷ [])) (core_persists t c) ≡ map (persist_number t) (core_persists t c) = map_below (persist_number (t ++ e ∷ [])) (persist_number t) (length t) (core_event_is is_persist c t) (λ k lt yes_. number_kept_at k lt) in
      elim (cases_Bool (is_persist e && (core_of e == c))) [
        | inl yes_ ↦ rw yes_ (ap (map (persist_number (t ++ e ∷ []))) (list ∙ (rw (core_last is_persist c, yes_) refl)) ∙ map-append (persist_number (t ++ e ∷ [])) (core_persists t c) (length t ∷ []) ∙ cc (old, number_last))
        | inr no_ ↦ rw no_ (ap (map (persist_number (t ++ e ∷ []))) (list ∙ (rw (core_last is_persist c, no_) refl)) ∙ old)
      ]

-- the event begins a strand
abbrev pub begins : Mode → Event → Bool
begins mode e = is_item mode e && is_new_strand e

pub and_false : (x : Bool) → (x && false) ≡ false
and_false true = refl
and_false false = refl

pub no_begin : (mode : Mode) (e : Event) → is_new_strand e ≡ false → begins mode e ≡ false
no_begin mode e no_ = ap (λ b. is_item mode e && b) no_ ∙ and_false (is_item mode e)

strict_begins : (e : Event) → begins Strict e ≡ false
strict_begins (events.NewStrand core) = refl
strict_begins (events.Load core word) = refl
strict_begins (events.Store persist core word value) = and_false persist
strict_begins (events.Barrier core) = refl
strict_begins (events.Join core) = refl
strict_begins (events.Out core value) = refl

epoch_begins : (e : Event) → begins Epoch e ≡ false
epoch_begins (events.NewStrand core) = refl
epoch_begins (events.Load core word) = refl
epoch_begins (events.Store persist core word value) = and_false (persist || false)
epoch_begins (events.Barrier core) = refl
epoch_begins (events.Join core) = refl
epoch_begins (events.Out core value) = refl

strand_begins : (e : Event) → begins Strand e ≡ is_new_strand e
strand_begins (events.NewStrand core) = refl
strand_begins (events.Load core word) = refl
strand_begins (events.Store persist core word value) = and_false (persist || false || false)
strand_begins (events.Barrier core) = refl
strand_begins (events.Join core) = refl
strand_begins (events.Out core value) = refl

-- an item that is neither a persist nor a barrier begins a strand
pub item_begins : (mode : Mode) (e : Event) → is_item mode e ≡ true → is_persist e ≡ false → is_barrier e ≡ false → begins mode e ≡ true
item_begins Strict e item no_ none = absurd (true≢false (sym item ∙ no_))
item_begins Epoch e item no_ none = absurd (true≢false (sym item ∙ (rw (no_, none) refl)))
item_begins Strand e item no_ none = strand_begins e ∙ (let h : is_item Strand e ≡ is_new_strand e = rw (no_, none) refl in sym h) ∙ item

pub new_strand_item : (mode : Mode) (e : Event) → is_item mode e ≡ true → is_persist e ≡ false → is_barrier e ≡ false → is_new_strand e ≡ true
new_strand_item mode e item no_ none = (and_parts (is_item mode e) (is_new_strand e) (item_begins mode e item no_ none)).1

pub persist_begins : (mode : Mode) (e : Event) → is_persist e ≡ true → begins mode e ≡ false
persist_begins mode e is = no_begin mode e (false_from_ne_true (is_new_strand e) (λ h. begins_none (Some e) h is))

pub barrier_begins : (mode : Mode) (e : Event) → is_barrier e ≡ true → begins mode e ≡ false
barrier_begins mode e is = no_begin mode e (barrier_begins_none e is)

-- its strand number is at most the number of events
pub next_most : (mode : Mode) (t : List Event) (n : ℕ) → next_strand mode t n ≤ length t
next_most Strict t n = omega arith
next_most Epoch t n = omega arith
next_most Strand t n = count_most (length t) (core_event_is is_new_strand n t)

-- a core's next event is of a strand more where its event begins one
pub strand_grown : (mode : Mode) (t : List Event) (e : Event) (c : ℕ) → next_strand mode (t ++ e ∷ []) c ≡ next_strand mode t c + (if begins mode e && (core_of e == c) then 1 else 0)
strand_grown Strict t e c = rw (strict_begins e) refl
strand_grown Epoch t e c = rw (epoch_begins e) refl
strand_grown Strand t e c =
    let f : ℕ → Bool = core_event_is is_new_strand c (t ++ e ∷ []) in
    let kept = count_agree (length t) f (core_event_is is_new_strand c t) (λ k lt. core_event_kept t e is_new_strand c k lt) in
    let last : f (length t) ≡ (is_new_strand e && (core_of e == c)) = core_last t e is_new_strand c in
    rw (length_grown t e, strand_begins e) (elim (cases_Bool (is_new_strand e && (core_of e == c))) [
      | inl yes_ ↦ rw yes_ (omega (arith, count_yes (length t) f (last ∙ yes_), kept))
      | inr no_ ↦ rw no_ (omega (arith, count_no (length t) f (last ∙ no_), kept))
    ])

-- a persist that becomes durable changes no count of another core
pub first_apart : (t : List Event) (marks : List Bool) (p c : ℕ) → (core_at t p ≡ c → ⊥) → durable_prefix t (set_of (slice_set marks p true)) c ≡ durable_prefix t (set_of marks) c
first_apart t marks p c other = ap leading (map_below (set_of (slice_set marks p true)) (set_of marks) (length t) (core_event_is is_persist c t) (λ k lt yes_. held_other marks p true k (λ e. other (ap (core_at t) (sym e) ∙ eqb-true (core_at t k) c ((and_parts (event_is is_persist t k) (core_at t k == c) yes_).1)))))

-- how many first persists of a core are durable, by the marks of the persists
pub first_by_marks : (t : List Event) (durable : Set) (c : ℕ) → leading (map (set_of (map durable (persists_of t))) (map (persist_number t) (core_persists t c))) ≡ durable_prefix t durable c
first_by_marks t durable c = ap leading (map_two (set_of (map durable (persists_of t))) (persist_number t) (core_persists t c) ∙ map_below (λ p. set_of (map durable (persists_of t)) (persist_number t p)) durable (length t) (core_event_is is_persist c t) (λ p lt yes_.
    let is : event_is is_persist t p ≡ true = (and_parts (event_is is_persist t p) (core_at t p == c) yes_).0 in
    let at : slice_get (map durable (persists_of t)) (persist_number t p) ≡ Some (durable p) = slice_get-map durable (persists_of t) (persist_number t p) ∙ ap (option_map durable) (list_at (length t) (event_is is_persist t) p lt is) in
    same_Some (set_of (map durable (persists_of t)) (persist_number t p)) (durable p) (sym (slice_get-get_or (map durable (persists_of t)) (persist_number t p) false (slice_get_within (map durable (persists_of t)) (persist_number t p) (durable p) at)) ∙ at)))
  where
    map_two : (f : ℕ → Bool) (h : ℕ → ℕ) (xs : List ℕ) → map f (map h xs) ≡ map (λ q. f (h q)) xs
    map_two f h [] = refl
    map_two f h (x ∷ xs) = ap (λ es. f (h x) ∷ es) (map_two f h xs)

-- more that is durable only lets more lead
pub leading_more : (f h : ℕ → Bool) (xs : List ℕ) → ((x : ℕ) → f x ≡ true → h x ≡ true) → leading (map f xs) ≤ leading (map h xs)
leading_more f h [] so = omega arith
leading_more f h (x ∷ xs) so = elim (cases_Bool (f x)) [
  | inl yes_ ↦ rw (yes_, so x yes_) (let more = leading_more f h xs so in omega (arith, more))
  | inr no_ ↦ rw no_ (omega arith)
]
