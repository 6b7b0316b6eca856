-- Serves clause next of waits_are_kept_by_vectors.
-- The wait of a core's next access, from what is kept of the waits of earlier accesses.
use Rattle.std.proofs.Common.{◌≡◌, ℕ, zero, suc, ◌+◌, ◌<◌, ◌≤◌, Bool, true, false, ◌&&◌, ◌||◌, inl, inr, List, [], ◌∷◌, ◌++◌, length, refl, sym, ap, ◌∙◌, arith}
use Rattle.std.specs.Prelude.{max, min, not, ◌==◌, if◌then◌else◌, slice_get, Some, None}
use Rattle.std.specs.declared.option.Option.{Option}
use Rattle.std.proofs.lemmas.Bool.{cases_lt, cases_Bool, and_parts, and_from, and_left, or_left, or_right, or_cases, eq-eqb, ne_eqb, eqb-true, lt-ltb, not-true, both_ways, false_from_ne_true, false≢true}
use Rattle.strand_base.specs.Counting.{count_below}
use Rattle.strand_base.proofs.BelowBound.{count_mono, count_no, get_last}
use Rattle.strand_inputs.specs.declared.mode.Mode.{Mode}
use Rattle.strand_inputs.specs.declared.mode.Mode.TheVariants.{Strict, Epoch, Strand}
use Rattle.strand_events.specs.declared.event.Event.{Event}
use Rattle.strand_events.specs.Trace.{passes, is_persist, is_access, is_barrier, is_new_strand, is_join, is_barrier_or_join, core_of, core_in, core_at, event_is, core_event_is, same_strand}
use Rattle.strand_events.specs.Order.{directly_before, conflicts, stands_between, core_orders}
use Rattle.strand_events.proofs.TestLaws.{same_from}
use Rattle.strand_events.proofs.LongerTrace.{event_is_kept, core_kept, between_kept, orders_kept}
use Rattle.strand_events.proofs.PersistOrder.Epochs.{either_passes, strand_from, between_parts, between_from, no_begin, same_number, weaker, persist_access, join_either, barrier_either}
use Rattle.strand_events.specs.Greatest.{max_below}
use Rattle.strand_events.specs.Prefixes.{made_below}
use Rattle.strand_events.specs.Waits.{made_at, handed, wait}
use Rattle.strand_events.specs.Vectors.{is_begin, came_after, greatest_wait, made_at_last, core_waits, next_by_order, handed_by_conflicts}
use Rattle.strand_events.proofs.Waits.Greatest.{max_at, max_most, max_found, max_agree, max_split}
use Rattle.strand_events.proofs.Waits.Counts.{wait_is, made_none, made_some}
use Rattle.strand_events.proofs.Waits.LongerTrace.{persists_kept, wait_kept}

-- a choice by either of two tests
pick_or : (c o : Bool) (m : ℕ) → (if c || o then m else 0) ≡ max (if c then m else 0) (if o then m else 0)
pick_or true true m = omega arith
pick_or true false m = omega arith
pick_or false o m = omega arith

pick_max : (b : Bool) (w m : ℕ) → (if b then max w m else 0) ≡ max (if b then w else 0) (if b then m else 0)
pick_max true w m = refl
pick_max false w m = omega arith

and_or : (s j f : Bool) → (s && (j || f)) ≡ ((s && j) || (s && f))
and_or true j f = refl
and_or false j f = refl

shape : (x c r r' : Bool) → (c ≡ true → r ≡ r') → (x && (c && r)) ≡ ((x && c) && r')
shape false c r r' same = refl
shape true false r r' same = refl
shape true true r r' same = same refl

and_no : (x y : Bool) → y ≡ true → (x && not y) ≡ false
and_no true true h = refl
and_no false y h = refl
and_no true false h = absurd (false≢true h)

-- the last number that passes below a bound
count_last : (n : ℕ) (f : ℕ → Bool) (c : ℕ) → c < count_below n f → (k : ℕ) × (k < n) × (f k ≡ true) × (c < count_below (k + 1) f)
count_last zero f c lt = absurd (omega arith)
count_last (suc n) f c lt = elim (cases_Bool (f n)) [
  | inl yes_ ↦
      let next : n + 1 ≡ suc n = omega arith in
      (n, omega arith, yes_, rw next lt)
  | inr no_ ↦
      let before : c < count_below n f = omega (arith, lt, count_no n f no_) in
      let found = count_last n f c before in
      let below : found.0 < suc n = omega (arith, found.1) in
      (found.0, below, found.2, found.3)
]

module _ (mode : Mode) (t : List Event) where
  -- access a comes directly before x by their core's own events
  abbrev ordered : ℕ → ℕ → Bool
  ordered x a = event_is is_access t a && ((core_at t a == core_at t x) && core_orders mode (core_at t a) t a x)

  direct_is : (x a : ℕ) → a < x → event_is is_access t x ≡ true → directly_before mode t a x ≡ (conflicts t a x || ordered x a)
  direct_is x a lt is = elim (cases_Bool (event_is is_access t a)) [
    | inl yes_ ↦ rw (lt-ltb a x lt, yes_, is) refl
    | inr no_ ↦ rw (lt-ltb a x lt, no_) refl
  ]

  abbrev order_wait : ℕ → ℕ → ℕ
  order_wait core x = max_below x (λ a. if ordered x a then max (wait mode t core a) (made_at mode t core x a) else 0)

  -- a wait is what conflicts hand on and what the core's own order hands on
  wait_parts : (core x : ℕ) → event_is is_access t x ≡ true → wait mode t core x ≡ max (handed_by_conflicts mode t core x) (order_wait core x)
  wait_parts core x is =
      wait_is mode t core x
      ∙ max_agree x (handed mode t (wait mode t core) core x) (λ a. max (if conflicts t a x then max (wait mode t core a) (made_at mode t core x a) else 0) (if ordered x a then max (wait mode t core a) (made_at mode t core x a) else 0))
      (λ a lt. ap (λ b. if b then max (wait mode t core a) (made_at mode t core x a) else 0) (direct_is x a lt is) ∙ pick_or (conflicts t a x) (ordered x a) (max (wait mode t core a) (made_at mode t core x a)))
      ∙ max_split x (λ a. if conflicts t a x then max (wait mode t core a) (made_at mode t core x a) else 0) (λ a. if ordered x a then max (wait mode t core a) (made_at mode t core x a) else 0)

  -- either of two tests
  wait_or : (core n : ℕ) (j f : ℕ → Bool) → greatest_wait mode t core n (λ a. j a || f a) ≡ max (greatest_wait mode t core n j) (greatest_wait mode t core n f)
  wait_or core n j f =
      max_agree (length t) (λ a. if core_event_is is_access n t a && (j a || f a) then wait mode t core a else 0) (λ a. max (if core_event_is is_access n t a && j a then wait mode t core a else 0) (if core_event_is is_access n t a && f a then wait mode t core a else 0))
      (λ a lt. ap (λ b. if b then wait mode t core a else 0) (and_or (core_event_is is_access n t a) (j a) (f a)) ∙ pick_or (core_event_is is_access n t a && j a) (core_event_is is_access n t a && f a) (wait mode t core a))
      ∙ max_split (length t) (λ a. if core_event_is is_access n t a && j a then wait mode t core a else 0) (λ a. if core_event_is is_access n t a && f a then wait mode t core a else 0)

  wait_same : (core n : ℕ) (j f : ℕ → Bool) → ((a : ℕ) → a < length t → j a ≡ f a) → greatest_wait mode t core n j ≡ greatest_wait mode t core n f
  wait_same core n j f same =
      max_agree (length t) (λ a. if core_event_is is_access n t a && j a then wait mode t core a else 0) (λ a. if core_event_is is_access n t a && f a then wait mode t core a else 0)
      (λ a lt. ap (λ b. if core_event_is is_access n t a && b then wait mode t core a else 0) (same a lt))

module _ (mode : Mode) (t : List Event) (e : Event) where
  new_core : core_at (t ++ e ∷ []) (length t) ≡ core_of e
  new_core = ap core_in (get_last t e)

  -- which accesses the core's own events put directly before the new one
  abbrev before_new : ℕ → Bool
  before_new a = core_event_is is_access (core_of e) t a && core_orders mode (core_of e) t a (length t)

  ordered_new : (a : ℕ) → a < length t → ordered mode (t ++ e ∷ []) (length t) a ≡ before_new a
  ordered_new a lt =
      let u : List Event = t ++ e ∷ [] in
      let upto : length t ≤ length t = omega arith in
      let own : Bool = event_is is_access u a && (core_at u a == core_at u (length t)) in
      let is_own : own ≡ core_event_is is_access (core_of e) t a = cc (event_is_kept t e is_access a lt, core_kept t e a lt, new_core) in
      shape (event_is is_access u a) (core_at u a == core_at u (length t)) (core_orders mode (core_at u a) u a (length t)) (core_orders mode (core_of e) t a (length t))
      (λ same. ap (λ c. core_orders mode c u a (length t)) (eqb-true (core_at u a) (core_at u (length t)) same ∙ new_core) ∙ orders_kept t e mode (core_of e) a (length t) upto)
      ∙ ap (λ b. b && core_orders mode (core_of e) t a (length t)) is_own

  abbrev made_new : ℕ → ℕ → ℕ
  made_new core a = made_at mode (t ++ e ∷ []) core (length t) a

  -- what the core's own order hands on: the waits of earlier accesses, and what was made up to them
  order_parts : (core : ℕ) → order_wait mode (t ++ e ∷ []) core (length t)
      ≡ max (greatest_wait mode t core (core_of e) (λ a. core_orders mode (core_of e) t a (length t))) (max_below (length t) (λ a. if before_new a then made_new core a else 0))
  order_parts core =
      let u : List Event = t ++ e ∷ [] in
      max_agree (length t) (λ a. if ordered mode u (length t) a then max (wait mode u core a) (made_new core a) else 0) (λ a. max (if before_new a then wait mode t core a else 0) (if before_new a then made_new core a else 0))
      (λ a lt. ap (λ b. if b then max (wait mode u core a) (made_new core a) else 0) (ordered_new a lt)
      ∙ ap (λ w. if before_new a then max w (made_new core a) else 0) (wait_kept mode t e core a lt)
      ∙ pick_max (before_new a) (wait mode t core a) (made_new core a))
      ∙ max_split (length t) (λ a. if before_new a then wait mode t core a else 0) (λ a. if before_new a then made_new core a else 0)

  -- nothing was made up to an access of the same strand
  made_nothing : (core : ℕ) → ((a : ℕ) → a < length t → core_event_is is_access (core_of e) t a ≡ true → same_strand mode (t ++ e ∷ []) a (length t) ≡ true) → max_below (length t) (λ a. if before_new a then made_new core a else 0) ≡ 0
  made_nothing core one =
      let most : max_below (length t) (λ a. if before_new a then made_new core a else 0) ≤ 0 = max_most (length t) (λ a. if before_new a then made_new core a else 0) 0 (λ a lt. elim (cases_Bool (before_new a)) [
        | inr no_ ↦ rw no_ (omega arith)
        | inl yes_ ↦
            let own = (and_parts (core_event_is is_access (core_of e) t a) (core_orders mode (core_of e) t a (length t)) yes_).0 in
            let none : ((core_at (t ++ e ∷ []) a == core) && not (same_strand mode (t ++ e ∷ []) a (length t))) ≡ false = and_no (core_at (t ++ e ∷ []) a == core) (same_strand mode (t ++ e ∷ []) a (length t)) (one a lt own) in
            rw (yes_, made_none mode (t ++ e ∷ []) core (length t) a none) (omega arith)
      ]) in
      omega (arith, most)

  -- an access of the new event's core is of its core
  core_same : (a : ℕ) → a < length t → core_event_is is_access (core_of e) t a ≡ true → core_at (t ++ e ∷ []) a ≡ core_at (t ++ e ∷ []) (length t)
  core_same a lt own = core_kept t e a lt ∙ eqb-true (core_at t a) (core_of e) ((and_parts (event_is is_access t a) (core_at t a == core_of e) own).1) ∙ sym new_core

module _ (t : List Event) (e : Event) where
  strict_order : (core : ℕ) → order_wait Strict (t ++ e ∷ []) core (length t) ≡ next_by_order Strict (core == core_of e) (core_waits Strict t core (core_of e))
  strict_order core =
      let none = made_nothing Strict t e core (λ a lt own. strand_from Strict (t ++ e ∷ []) a (length t) (core_same Strict t e a lt own) refl) in
      omega (arith, order_parts Strict t e core, none)

  no_begins : (n a b : ℕ) → stands_between (is_begin Epoch) n t a b ≡ false
  no_begins n a b = false_from_ne_true (stands_between (is_begin Epoch) n t a b) (λ h. let k = between_parts (is_begin Epoch) n t a b h in false≢true (sym (none (slice_get t k.0)) ∙ k.3))
    where
      none : (o : Option Event) → passes (is_begin Epoch) o ≡ false
      none None = refl
      none (Some e) = refl

  border_parts : (n a b : ℕ) → stands_between is_barrier_or_join n t a b ≡ (stands_between is_join n t a b || (stands_between is_barrier n t a b && not (stands_between (is_begin Epoch) n t a b)))
  border_parts n a b = same_from (stands_between is_barrier_or_join n t a b) (stands_between is_join n t a b || (stands_between is_barrier n t a b && not (stands_between (is_begin Epoch) n t a b)))
      (λ border.
      let k = between_parts is_barrier_or_join n t a b border in
      elim (either_passes is_barrier is_join t k.0 k.3) [
        | inl barrier ↦ or_right (stands_between is_join n t a b) (stands_between is_barrier n t a b && not (stands_between (is_begin Epoch) n t a b)) (and_from (stands_between is_barrier n t a b) (not (stands_between (is_begin Epoch) n t a b)) (between_from is_barrier n t a b k.0 k.1 k.2 barrier k.4) (ap not (no_begins n a b)))
        | inr join ↦ or_left (stands_between is_join n t a b) (stands_between is_barrier n t a b && not (stands_between (is_begin Epoch) n t a b)) (between_from is_join n t a b k.0 k.1 k.2 join k.4)
      ])
      (λ either. elim (or_cases (stands_between is_join n t a b) (stands_between is_barrier n t a b && not (stands_between (is_begin Epoch) n t a b)) either) [
        | inl join ↦ let k = between_parts is_join n t a b join in between_from is_barrier_or_join n t a b k.0 k.1 k.2 (weaker is_join is_barrier_or_join join_either t k.0 k.3) k.4
        | inr barrier ↦
            let k = between_parts is_barrier n t a b ((and_parts (stands_between is_barrier n t a b) (not (stands_between (is_begin Epoch) n t a b)) barrier).0) in
            between_from is_barrier_or_join n t a b k.0 k.1 k.2 (weaker is_barrier is_barrier_or_join barrier_either t k.0 k.3) k.4
      ])

  epoch_order : (core : ℕ) → order_wait Epoch (t ++ e ∷ []) core (length t) ≡ next_by_order Epoch (core == core_of e) (core_waits Epoch t core (core_of e))
  epoch_order core =
      let n : ℕ = core_of e in
      let none = made_nothing Epoch t e core (λ a lt own. strand_from Epoch (t ++ e ∷ []) a (length t) (core_same Epoch t e a lt own) refl) in
      let borders = wait_same Epoch t core n (λ a. core_orders Epoch n t a (length t)) (λ a. came_after is_join n t a || (came_after is_barrier n t a && not (came_after (is_begin Epoch) n t a))) (λ a lt. border_parts n a (length t)) in
      let parts = wait_or Epoch t core n (came_after is_join n t) (λ a. came_after is_barrier n t a && not (came_after (is_begin Epoch) n t a)) in
      omega (arith, order_parts Epoch t e core, none, borders, parts)

  -- an access of the core that is of another strand than its next event: a begin came after it
  apart_begin : (a : ℕ) → a < length t → core_event_is is_access (core_of e) t a ≡ true → same_strand Strand (t ++ e ∷ []) a (length t) ≡ false → stands_between is_new_strand (core_of e) t a (length t) ≡ true
  apart_begin a lt own apart = elim (cases_Bool (stands_between is_new_strand (core_of e) t a (length t))) [
    | inl yes_ ↦ yes_
    | inr no_ ↦
        let u : List Event = t ++ e ∷ [] in
        let c : core_at u a ≡ core_at u (length t) = core_same Strand t e a lt own in
        let upto : length t ≤ length t = omega arith in
        let le : a ≤ length t = omega arith in
        let is : event_is is_access u a ≡ true = event_is_kept t e is_access a lt ∙ (and_parts (event_is is_access t a) (core_at t a == core_of e) own).0 in
        let none : stands_between is_new_strand (core_at u a) u a (length t) ≡ false = ap (λ n. stands_between is_new_strand n u a (length t)) (c ∙ new_core Strand t e) ∙ between_kept t e is_new_strand (core_of e) a (length t) upto ∙ no_ in
        absurd (both_ways (same_strand Strand u a (length t)) apart (strand_from Strand u a (length t) c (same_number u a (length t) (length t) is le upto c none)))
  ]

  begin_apart : (a : ℕ) → a < length t → core_event_is is_access (core_of e) t a ≡ true → stands_between is_new_strand (core_of e) t a (length t) ≡ true → same_strand Strand (t ++ e ∷ []) a (length t) ≡ false
  begin_apart a lt own begins = false_from_ne_true (same_strand Strand (t ++ e ∷ []) a (length t)) (λ same.
      let u : List Event = t ++ e ∷ [] in
      let c : core_at u a ≡ core_of e = core_same Strand t e a lt own ∙ new_core Strand t e in
      let upto : length t ≤ length t = omega arith in
      let none : stands_between is_new_strand (core_of e) t a (length t) ≡ false = sym (between_kept t e is_new_strand (core_of e) a (length t) upto) ∙ ap (λ n. stands_between is_new_strand n u a (length t)) (sym c) ∙ no_begin u a (length t) lt same in
      both_ways (stands_between is_new_strand (core_of e) t a (length t)) none begins)

  -- what was made up to an access before an event of the core was made before it
  made_upto : (test : Event → Bool) (n a : ℕ) → stands_between test n t a (length t) ≡ true → made_below t n (a + 1) ≤ made_at_last test t n
  made_upto test n a h =
      let k = between_parts test n t a (length t) h in
      let at : core_event_is test n t k.0 ≡ true = and_from (event_is test t k.0) (core_at t k.0 == n) k.3 (eq-eqb (core_at t k.0) n k.4) in
      let over : a + 1 ≤ k.0 = omega (arith, k.1) in
      let value : (if core_event_is test n t k.0 then made_below t n k.0 else 0) ≡ made_below t n k.0 = rw at refl in
      omega (arith, count_mono (a + 1) k.0 (core_event_is is_persist n t) over, max_at (length t) (λ k. if core_event_is test n t k then made_below t n k else 0) k.0 k.2, value)

  -- and less than what was made before it was made before some such event
  made_where : (test : Event → Bool) (n c : ℕ) → c < made_at_last test t n → (k : ℕ) × (k < length t) × (core_event_is test n t k ≡ true) × (c < made_below t n k)
  made_where test n c lt =
      let found = max_found (length t) (λ k. if core_event_is test n t k then made_below t n k else 0) c lt in
      elim (cases_Bool (core_event_is test n t found.0)) [
        | inr no_ ↦ absurd (less_zero c (rw (← no_of found.0 no_) found.2))
        | inl yes_ ↦ (found.0, found.1, yes_, rw (← yes_of found.0 yes_) found.2)
      ]
    where
      less_zero : (c : ℕ) → c < 0 → ⊥
      less_zero c h = omega arith

      no_of : (k : ℕ) → core_event_is test n t k ≡ false → (if core_event_is test n t k then made_below t n k else 0) ≡ 0
      no_of k h = rw h refl

      yes_of : (k : ℕ) → core_event_is test n t k ≡ true → (if core_event_is test n t k then made_below t n k else 0) ≡ made_below t n k
      yes_of k h = rw h refl

  made_other : (core : ℕ) → (core == core_of e) ≡ false → max_below (length t) (λ a. if before_new Strand t e a then made_new Strand t e core a else 0) ≡ 0
  made_other core other =
      let most : max_below (length t) (λ a. if before_new Strand t e a then made_new Strand t e core a else 0) ≤ 0 = max_most (length t) (λ a. if before_new Strand t e a then made_new Strand t e core a else 0) 0 (λ a lt. elim (cases_Bool (before_new Strand t e a)) [
        | inr no_ ↦ rw no_ (omega arith)
        | inl yes_ ↦
            let own = and_parts (event_is is_access t a) (core_at t a == core_of e) ((and_parts (core_event_is is_access (core_of e) t a) (core_orders Strand (core_of e) t a (length t)) yes_).0) in
            let here : core_at (t ++ e ∷ []) a ≡ core_of e = core_kept t e a lt ∙ eqb-true (core_at t a) (core_of e) own.1 in
            let off : (core_at (t ++ e ∷ []) a == core) ≡ false = ne_eqb (core_at (t ++ e ∷ []) a) core (λ same. both_ways (core == core_of e) other (eq-eqb core (core_of e) (sym same ∙ here))) in
            let none : ((core_at (t ++ e ∷ []) a == core) && not (same_strand Strand (t ++ e ∷ []) a (length t))) ≡ false = and_left (core_at (t ++ e ∷ []) a == core) (not (same_strand Strand (t ++ e ∷ []) a (length t))) off in
            rw (yes_, made_none Strand (t ++ e ∷ []) core (length t) a none) (omega arith)
      ]) in
      omega (arith, most)

  -- what is handed on by accesses of other strands: what the core had made at the earlier one of its last join and its last begin
  made_strand : max_below (length t) (λ a. if before_new Strand t e a then made_new Strand t e (core_of e) a else 0) ≡ min (made_at_last is_join t (core_of e)) (made_at_last is_new_strand t (core_of e))
  made_strand =
      let no_more : max_below (length t) f ≤ min (made_at_last is_join t n) (made_at_last is_new_strand t n) = max_most (length t) f (min (made_at_last is_join t n) (made_at_last is_new_strand t n)) small in
      let no_less : min (made_at_last is_join t n) (made_at_last is_new_strand t n) ≤ max_below (length t) f = elim (cases_lt (max_below (length t) f) (min (made_at_last is_join t n) (made_at_last is_new_strand t n))) [
        | inr ge ↦ ge
        | inl lt ↦
            let joins : max_below (length t) f < made_at_last is_join t n = omega (arith, lt) in
            let begins : max_below (length t) f < made_at_last is_new_strand t n = omega (arith, lt) in
            absurd (omega (arith, large (max_below (length t) f) joins begins))
      ] in
      omega (arith, no_more, no_less)
    where
      n : ℕ
      n = core_of e

      f : ℕ → ℕ
      f a = if before_new Strand t e a then made_new Strand t e (core_of e) a else 0

      small : (a : ℕ) → a < length t → f a ≤ min (made_at_last is_join t n) (made_at_last is_new_strand t n)
      small a lt = elim (cases_Bool (before_new Strand t e a)) [
        | inr no_ ↦ rw no_ (omega arith)
        | inl yes_ ↦
            let parts = and_parts (core_event_is is_access n t a) (core_orders Strand n t a (length t)) yes_ in
            elim (cases_Bool ((core_at (t ++ e ∷ []) a == n) && not (same_strand Strand (t ++ e ∷ []) a (length t)))) [
              | inr none ↦ rw (yes_, made_none Strand (t ++ e ∷ []) n (length t) a none) (omega arith)
              | inl some ↦
                  let apart = not-true (same_strand Strand (t ++ e ∷ []) a (length t)) ((and_parts (core_at (t ++ e ∷ []) a == n) (not (same_strand Strand (t ++ e ∷ []) a (length t))) some).1) in
                  let begins = apart_begin a lt parts.0 apart in
                  let join : stands_between is_join n t a (length t) ≡ true = elim (or_cases (stands_between is_join n t a (length t)) (stands_between is_barrier n t a (length t) && not (stands_between is_new_strand n t a (length t))) parts.1) [
                    | inl j ↦ j
                    | inr fenced ↦ absurd (both_ways (stands_between is_new_strand n t a (length t)) (not-true (stands_between is_new_strand n t a (length t)) ((and_parts (stands_between is_barrier n t a (length t)) (not (stands_between is_new_strand n t a (length t))) fenced).1)) begins)
                  ] in
                  let upto : a + 1 ≤ length t = omega arith in
                  rw (yes_, made_some Strand (t ++ e ∷ []) n (length t) a some, persists_kept Strand t e n (a + 1) upto) (omega (arith, made_upto is_join n a join, made_upto is_new_strand n a begins))
            ]
      ]

      -- a persist before both a join and a begin of the core hands on what was made up to it
      reach : (c i j b : ℕ) → c < made_below t n i → i ≤ j → i ≤ b → j < length t → b < length t → core_event_is is_join n t j ≡ true → core_event_is is_new_strand n t b ≡ true → c < max_below (length t) f
      reach c i j b less ij ib jt bt isj isb =
          let last = count_last i (core_event_is is_persist n t) c less in
          let a : ℕ = last.0 in
          let lt : a < length t = omega (arith, last.1) in
          let aj : a < j = omega (arith, last.1) in
          let ab : a < b = omega (arith, last.1) in
          let p = and_parts (event_is is_persist t a) (core_at t a == n) last.2 in
          let jp = and_parts (event_is is_join t j) (core_at t j == n) isj in
          let bp = and_parts (event_is is_new_strand t b) (core_at t b == n) isb in
          let own : core_event_is is_access n t a ≡ true = and_from (event_is is_access t a) (core_at t a == n) (weaker is_persist is_access persist_access t a p.0) p.1 in
          let join : stands_between is_join n t a (length t) ≡ true = between_from is_join n t a (length t) j aj jt jp.0 (eqb-true (core_at t j) n jp.1) in
          let begins : stands_between is_new_strand n t a (length t) ≡ true = between_from is_new_strand n t a (length t) b ab bt bp.0 (eqb-true (core_at t b) n bp.1) in
          let orders : core_orders Strand n t a (length t) ≡ true = or_left (stands_between is_join n t a (length t)) (stands_between is_barrier n t a (length t) && not (stands_between is_new_strand n t a (length t))) join in
          let yes_ : before_new Strand t e a ≡ true = and_from (core_event_is is_access n t a) (core_orders Strand n t a (length t)) own orders in
          let here : core_at (t ++ e ∷ []) a ≡ n = core_kept t e a lt ∙ eqb-true (core_at t a) n p.1 in
          let some : ((core_at (t ++ e ∷ []) a == n) && not (same_strand Strand (t ++ e ∷ []) a (length t))) ≡ true = and_from (core_at (t ++ e ∷ []) a == n) (not (same_strand Strand (t ++ e ∷ []) a (length t))) (eq-eqb (core_at (t ++ e ∷ []) a) n here) (ap not (begin_apart a lt own begins)) in
          let upto : a + 1 ≤ length t = omega arith in
          let value : f a ≡ made_below t n (a + 1) = rw (yes_, made_some Strand (t ++ e ∷ []) n (length t) a some, persists_kept Strand t e n (a + 1) upto) refl in
          omega (arith, last.3, value, max_at (length t) f a lt)

      large : (c : ℕ) → c < made_at_last is_join t n → c < made_at_last is_new_strand t n → c < max_below (length t) f
      large c joins begins =
          let j = made_where is_join n c joins in
          let b = made_where is_new_strand n c begins in
          elim (cases_lt j.0 b.0) [
            | inl lt ↦ reach c j.0 j.0 b.0 j.3 (omega arith) (omega (arith, lt)) j.1 b.1 j.2 b.2
            | inr ge ↦ reach c b.0 j.0 b.0 b.3 ge (omega arith) j.1 b.1 j.2 b.2
          ]

  strand_order : (core : ℕ) → order_wait Strand (t ++ e ∷ []) core (length t) ≡ next_by_order Strand (core == core_of e) (core_waits Strand t core (core_of e))
  strand_order core =
      let n : ℕ = core_of e in
      let parts = wait_or Strand t core n (came_after is_join n t) (λ a. came_after is_barrier n t a && not (came_after is_new_strand n t a)) in
      elim (cases_Bool (core == n)) [
        | inl own ↦
            let same : core ≡ n = eqb-true core n own in
            let made : max_below (length t) (λ a. if before_new Strand t e a then made_new Strand t e core a else 0) ≡ min (made_at_last is_join t n) (made_at_last is_new_strand t n) = ap (λ c. max_below (length t) (λ a. if before_new Strand t e a then made_new Strand t e c a else 0)) same ∙ made_strand in
            let value : (if core == n then min (made_at_last is_join t n) (made_at_last is_new_strand t n) else 0) ≡ min (made_at_last is_join t n) (made_at_last is_new_strand t n) = rw own refl in
            omega (arith, order_parts Strand t e core, parts, made, value)
        | inr other ↦
            let value : (if core == n then min (made_at_last is_join t n) (made_at_last is_new_strand t n) else 0) ≡ 0 = rw other refl in
            omega (arith, order_parts Strand t e core, parts, made_other core other, value)
      ]

  pub by_order : (mode : Mode) (core : ℕ) → order_wait mode (t ++ e ∷ []) core (length t) ≡ next_by_order mode (core == core_of e) (core_waits mode t core (core_of e))
  by_order Strict core = strict_order core
  by_order Epoch core = epoch_order core
  by_order Strand core = strand_order core

  -- the wait of the next access: what the accesses that conflict with it hand on, and what its core's order does
  pub next_wait : (mode : Mode) (core : ℕ) → is_access e ≡ true
      → wait mode (t ++ e ∷ []) core (length t) ≡ max (handed_by_conflicts mode (t ++ e ∷ []) core (length t)) (next_by_order mode (core == core_of e) (core_waits mode t core (core_of e)))
  next_wait mode core is =
      let u : List Event = t ++ e ∷ [] in
      wait_parts mode u core (length t) (ap (passes is_access) (get_last t e) ∙ is) ∙ ap (max (handed_by_conflicts mode u core (length t))) (by_order mode core)
