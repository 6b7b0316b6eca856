-- Serves clauses own and others of waits_are_kept_by_vectors: what is kept of the waits, after one more event.
use Rattle.std.proofs.Common.{◌≡◌, ℕ, suc, ◌+◌, ◌<◌, ◌≤◌, Bool, true, false, ◌&&◌, ◌||◌, inl, inr, List, [], ◌∷◌, ◌++◌, length, refl, ap, ◌∙◌, arith}
use Rattle.std.specs.Prelude.{max, not, ◌==◌, nat_lt, if◌then◌else◌}
use Rattle.std.proofs.lemmas.Bool.{cases_Bool, and_parts, and_left, and_right, or_left, lt-ltb, ltb-true, false_from_ne_true, both_ways}
use Rattle.strand_base.proofs.BelowBound.{any_true, count_mono, get_last}
use Rattle.strand_inputs.specs.declared.mode.Mode.{Mode}
use Rattle.strand_inputs.specs.declared.mode.Mode.TheVariants.{Strict, Epoch, Strand}
use Rattle.strand_events.specs.declared.event.Event.{Event}
use Rattle.strand_events.specs.Trace.{passes, is_persist, is_access, is_barrier, is_new_strand, is_join, is_barrier_or_join, core_of, core_in, core_event_is}
use Rattle.strand_events.specs.Order.{stands_between}
use Rattle.strand_events.proofs.LongerTrace.{core_event_kept, between_kept}
use Rattle.strand_events.proofs.TestLaws.{and_true}
use Rattle.strand_events.proofs.PersistOrder.Epochs.{barrier_either, join_either, access_begins_none, barrier_begins_none, access_no_border}
use Rattle.strand_events.proofs.Waits.IsMet.{length_grown}
use Rattle.strand_events.specs.Greatest.{max_below}
use Rattle.strand_events.specs.Prefixes.{made_below}
use Rattle.strand_events.specs.Waits.{wait}
use Rattle.strand_events.specs.Vectors.{is_begin, came_after, greatest_wait, all_waits, current_waits, fenced_waits, joined_waits, made_at_last, core_waits, waits_after}
use Rattle.strand_events.proofs.Waits.Greatest.{max_most, max_agree}
use Rattle.strand_events.proofs.Waits.LongerTrace.{persists_kept, wait_kept}

begin_access : (mode : Mode) (e : Event) → is_begin mode e ≡ true → is_access e ≡ false
begin_access Strict e h = absurd (both_ways false refl h)
begin_access Epoch e h = absurd (both_ways false refl h)
begin_access Strand e h = false_from_ne_true (is_access e) (λ a. both_ways (is_new_strand e) (access_begins_none e a) h)

border_access : (e : Event) → is_barrier_or_join e ≡ true → is_access e ≡ false
border_access e h = false_from_ne_true (is_access e) (λ a. both_ways (is_barrier_or_join e) (access_no_border e a) h)

barrier_begin : (mode : Mode) (e : Event) → is_barrier e ≡ true → is_begin mode e ≡ false
barrier_begin Strict e h = refl
barrier_begin Epoch e h = refl
barrier_begin Strand e h = barrier_begins_none e h

module _ (mode : Mode) (t : List Event) (e : Event) (core n : ℕ) where
  -- the new event is of core n and passes the test
  abbrev new_is : (Event → Bool) → Bool
  new_is test = test e && (core_of e == n)

  new_at : (test : Event → Bool) → core_event_is test n (t ++ e ∷ []) (length t) ≡ new_is test
  new_at test = ap (λ o. passes test o && (core_in o == n)) (get_last t e)

  -- what came after an old event, and after the new one
  came_more : (test : Event → Bool) (a : ℕ) → a < length t → came_after test n (t ++ e ∷ []) a ≡ (new_is test || came_after test n t a)
  came_more test a lt =
      let u : List Event = t ++ e ∷ [] in
      let upto : length t ≤ length t = omega arith in
      let longer : stands_between test n u a (length u) ≡ stands_between test n u a (suc (length t)) = ap (stands_between test n u a) (length_grown t e) in
      longer ∙ rw (lt-ltb a (length t) lt, new_at test, between_kept t e test n a (length t) upto) refl

  came_none : (test : Event → Bool) → came_after test n (t ++ e ∷ []) (length t) ≡ false
  came_none test = false_from_ne_true (came_after test n (t ++ e ∷ []) (length t)) (λ h.
      let found = any_true (length (t ++ e ∷ [])) (λ k. nat_lt (length t) k && core_event_is test n (t ++ e ∷ []) k) h in
      let above : length t < found.0 = ltb-true (length t) found.0 ((and_parts (nat_lt (length t) found.0) (core_event_is test n (t ++ e ∷ []) found.0) found.2).0) in
      omega (arith, above, found.1, length_grown t e))

  abbrev newest : (ℕ → Bool) → ℕ
  newest test = if core_event_is is_access n (t ++ e ∷ []) (length t) && test (length t) then wait mode (t ++ e ∷ []) core (length t) else 0

  -- the greatest of the waits that pass a test which says of old accesses what another says
  grown_wait : (test' test : ℕ → Bool) → ((a : ℕ) → a < length t → test' a ≡ test a) → greatest_wait mode (t ++ e ∷ []) core n test' ≡ max (newest test') (greatest_wait mode t core n test)
  grown_wait test' test same =
      let u : List Event = t ++ e ∷ [] in
      ap (λ l. max_below l (λ a. if core_event_is is_access n u a && test' a then wait mode u core a else 0)) (length_grown t e)
      ∙ ap (max (newest test')) (max_agree (length t) (λ a. if core_event_is is_access n u a && test' a then wait mode u core a else 0) (λ a. if core_event_is is_access n t a && test a then wait mode t core a else 0)
      (λ a lt. rw (core_event_kept t e is_access n a lt, same a lt, wait_kept mode t e core a lt) refl))

  no_newest : (test : ℕ → Bool) → is_access e ≡ false → newest test ≡ 0
  no_newest test none =
      let off : (core_event_is is_access n (t ++ e ∷ []) (length t) && test (length t)) ≡ false = and_left (core_event_is is_access n (t ++ e ∷ []) (length t)) (test (length t)) (new_at is_access ∙ and_left (is_access e) (core_of e == n) none) in
      rw off refl

  newest_off : (test : ℕ → Bool) → test (length t) ≡ false → newest test ≡ 0
  newest_off test off = ap (λ b. if b then wait mode (t ++ e ∷ []) core (length t) else 0) (and_right (core_event_is is_access n (t ++ e ∷ []) (length t)) (test (length t)) off)

  -- the wait of the new event, where it is an access of core n
  abbrev new_wait : ℕ
  new_wait = if new_is is_access then wait mode (t ++ e ∷ []) core (length t) else 0

  newest_on : (test : ℕ → Bool) → test (length t) ≡ true → newest test ≡ new_wait
  newest_on test on = ap (λ b. if core_event_is is_access n (t ++ e ∷ []) (length t) && b then wait mode (t ++ e ∷ []) core (length t) else 0) on ∙ ap (λ b. if b then wait mode (t ++ e ∷ []) core (length t) else 0) (and_true (core_event_is is_access n (t ++ e ∷ []) (length t)) ∙ new_at is_access)

  no_waits : greatest_wait mode t core n (λ a. false) ≡ 0
  no_waits =
      let most : greatest_wait mode t core n (λ a. false) ≤ 0 = max_most (length t) (λ a. if core_event_is is_access n t a && false then wait mode t core a else 0) 0 (λ a lt. rw (and_right (core_event_is is_access n t a) false refl) (omega arith)) in
      omega (arith, most)

  -- all accesses: one more where the event is an access of the core
  pub all_step : all_waits mode (t ++ e ∷ []) core n ≡ max new_wait (all_waits mode t core n)
  all_step = grown_wait (λ a. true) (λ a. true) (λ a lt. refl) ∙ ap (λ w. max w (all_waits mode t core n)) (newest_on (λ a. true) refl)

  -- the open strand: none where the event begins another
  pub open_begin : new_is (is_begin mode) ≡ true → current_waits mode (t ++ e ∷ []) core n ≡ 0
  open_begin begins =
      let test : ℕ → Bool = λ a. not (came_after (is_begin mode) n (t ++ e ∷ []) a) in
      let grown = grown_wait test (λ a. false) (λ a lt. ap not (came_more (is_begin mode) a lt ∙ or_left (new_is (is_begin mode)) (came_after (is_begin mode) n t a) begins)) in
      let none = no_newest test (begin_access mode e ((and_parts (is_begin mode e) (core_of e == n) begins).0)) in
      omega (arith, grown, none, no_waits)

  pub open_step : new_is (is_begin mode) ≡ false → current_waits mode (t ++ e ∷ []) core n ≡ max new_wait (current_waits mode t core n)
  open_step none =
      let test : ℕ → Bool = λ a. not (came_after (is_begin mode) n (t ++ e ∷ []) a) in
      grown_wait test (λ a. not (came_after (is_begin mode) n t a)) (λ a lt. ap not (came_more (is_begin mode) a lt ∙ ap (λ b. b || came_after (is_begin mode) n t a) none))
      ∙ ap (λ w. max w (current_waits mode t core n)) (newest_on test (ap not (came_none (is_begin mode))))

  -- the fenced ones: none where a strand begins, those of the open strand at a barrier
  pub fenced_begin : new_is (is_begin mode) ≡ true → fenced_waits mode (t ++ e ∷ []) core n ≡ 0
  fenced_begin begins =
      let test : ℕ → Bool = λ a. came_after is_barrier n (t ++ e ∷ []) a && not (came_after (is_begin mode) n (t ++ e ∷ []) a) in
      let grown = grown_wait test (λ a. false) (λ a lt. ap (λ b. came_after is_barrier n (t ++ e ∷ []) a && not b) (came_more (is_begin mode) a lt ∙ or_left (new_is (is_begin mode)) (came_after (is_begin mode) n t a) begins) ∙ and_right (came_after is_barrier n (t ++ e ∷ []) a) false refl) in
      let none = no_newest test (begin_access mode e ((and_parts (is_begin mode e) (core_of e == n) begins).0)) in
      omega (arith, grown, none, no_waits)

  pub fenced_barrier : new_is is_barrier ≡ true → fenced_waits mode (t ++ e ∷ []) core n ≡ current_waits mode t core n
  fenced_barrier barrier =
      let test : ℕ → Bool = λ a. came_after is_barrier n (t ++ e ∷ []) a && not (came_after (is_begin mode) n (t ++ e ∷ []) a) in
      let is : is_barrier e ≡ true = (and_parts (is_barrier e) (core_of e == n) barrier).0 in
      let no_begin : new_is (is_begin mode) ≡ false = and_left (is_begin mode e) (core_of e == n) (barrier_begin mode e is) in
      let grown = grown_wait test (λ a. not (came_after (is_begin mode) n t a)) (λ a lt.
      ap (λ b. b && not (came_after (is_begin mode) n (t ++ e ∷ []) a)) (came_more is_barrier a lt ∙ or_left (new_is is_barrier) (came_after is_barrier n t a) barrier)
      ∙ ap not (came_more (is_begin mode) a lt ∙ ap (λ b. b || came_after (is_begin mode) n t a) no_begin)) in
      let none = no_newest test (border_access e (barrier_either e is)) in
      omega (arith, grown, none)

  pub fenced_step : new_is (is_begin mode) ≡ false → new_is is_barrier ≡ false → fenced_waits mode (t ++ e ∷ []) core n ≡ fenced_waits mode t core n
  fenced_step no_begin no_barrier =
      let test : ℕ → Bool = λ a. came_after is_barrier n (t ++ e ∷ []) a && not (came_after (is_begin mode) n (t ++ e ∷ []) a) in
      let grown = grown_wait test (λ a. came_after is_barrier n t a && not (came_after (is_begin mode) n t a)) (λ a lt.
      ap (λ b. b && not (came_after (is_begin mode) n (t ++ e ∷ []) a)) (came_more is_barrier a lt ∙ ap (λ b. b || came_after is_barrier n t a) no_barrier)
      ∙ ap (λ b. came_after is_barrier n t a && not b) (came_more (is_begin mode) a lt ∙ ap (λ b. b || came_after (is_begin mode) n t a) no_begin)) in
      let none = newest_off test (and_left (came_after is_barrier n (t ++ e ∷ []) (length t)) (not (came_after (is_begin mode) n (t ++ e ∷ []) (length t))) (came_none is_barrier)) in
      omega (arith, grown, none)

  -- the joined ones: all at a join
  pub joined_join : new_is is_join ≡ true → joined_waits mode (t ++ e ∷ []) core n ≡ all_waits mode t core n
  joined_join join =
      let test : ℕ → Bool = came_after is_join n (t ++ e ∷ []) in
      let grown = grown_wait test (λ a. true) (λ a lt. came_more is_join a lt ∙ or_left (new_is is_join) (came_after is_join n t a) join) in
      let none = no_newest test (border_access e (join_either e ((and_parts (is_join e) (core_of e == n) join).0))) in
      omega (arith, grown, none)

  pub joined_step : new_is is_join ≡ false → joined_waits mode (t ++ e ∷ []) core n ≡ joined_waits mode t core n
  joined_step no_join =
      let test : ℕ → Bool = came_after is_join n (t ++ e ∷ []) in
      let grown = grown_wait test (came_after is_join n t) (λ a lt. came_more is_join a lt ∙ ap (λ b. b || came_after is_join n t a) no_join) in
      let none = newest_off test (came_none is_join) in
      omega (arith, grown, none)

  -- the count at the last such event: what the core has made now, where this is one
  made_grown : (test : Event → Bool) → made_at_last test (t ++ e ∷ []) n ≡ max (if new_is test then made_below t n (length t) else 0) (made_at_last test t n)
  made_grown test =
      let u : List Event = t ++ e ∷ [] in
      let upto : length t ≤ length t = omega arith in
      ap (λ l. max_below l (λ k. if core_event_is test n u k then made_below u n k else 0)) (length_grown t e)
      ∙ rw (new_at test, persists_kept mode t e n (length t) upto) (ap (max (if new_is test then made_below t n (length t) else 0)) (max_agree (length t) (λ k. if core_event_is test n u k then made_below u n k else 0) (λ k. if core_event_is test n t k then made_below t n k else 0)
      (λ k lt. let le : k ≤ length t = omega arith in rw (core_event_kept t e test n k lt, persists_kept mode t e n k le) refl)))

  pub made_at_event : (test : Event → Bool) → new_is test ≡ true → made_at_last test (t ++ e ∷ []) n ≡ made_below t n (length t)
  made_at_event test yes_ =
      let grown = made_grown test in
      let value : (if new_is test then made_below t n (length t) else 0) ≡ made_below t n (length t) = rw yes_ refl in
      let most : made_at_last test t n ≤ made_below t n (length t) = max_most (length t) (λ k. if core_event_is test n t k then made_below t n k else 0) (made_below t n (length t)) (λ k lt. elim (cases_Bool (core_event_is test n t k)) [
        | inl is ↦ rw is (count_mono k (length t) (core_event_is is_persist n t) (omega arith))
        | inr not_ ↦ rw not_ (omega arith)
      ]) in
      omega (arith, grown, value, most)

  pub made_else : (test : Event → Bool) → new_is test ≡ false → made_at_last test (t ++ e ∷ []) n ≡ made_at_last test t n
  made_else test no_ =
      let grown = made_grown test in
      let value : (if new_is test then made_below t n (length t) else 0) ≡ 0 = rw no_ refl in
      omega (arith, grown, value)

  persists_grown : made_below (t ++ e ∷ []) n (length (t ++ e ∷ [])) ≡ (if new_is is_persist then made_below t n (length t) + 1 else made_below t n (length t))
  persists_grown =
      let upto : length t ≤ length t = omega arith in
      let u : List Event = t ++ e ∷ [] in
      ap (made_below u n) (length_grown t e)
      ∙ rw (new_at is_persist, persists_kept mode t e n (length t) upto) (one (new_is is_persist) (made_below t n (length t)))
    where
      one : (b : Bool) (x : ℕ) → (if b then suc x else x) ≡ (if b then x + 1 else x)
      one true x = omega arith
      one false x = refl

  if_new : (test : Event → Bool) (x y : ℕ) → (core_of e == n) ≡ true → (if new_is test then x else y) ≡ (if test e then x else y)
  if_new test x y own = ap (λ b. if test e && b then x else y) own ∙ ap (λ b. if b then x else y) (and_true (test e))

  new_own : (test : Event → Bool) → (core_of e == n) ≡ true → new_is test ≡ test e
  new_own test own = ap (λ b. test e && b) own ∙ and_true (test e)

  other_not : (test : Event → Bool) → (core_of e == n) ≡ false → new_is test ≡ false
  other_not test other = and_right (test e) (core_of e == n) other

  -- an event of another core changes nothing
  pub others_stay : (core_of e == n) ≡ false → core_waits mode (t ++ e ∷ []) core n ≡ core_waits mode t core n
  others_stay other =
      let no : (test : Event → Bool) → new_is test ≡ false = λ test. other_not test other in
      let zero_ : new_wait ≡ 0 = rw (no is_access) refl in
      let a : all_waits mode (t ++ e ∷ []) core n ≡ all_waits mode t core n = omega (arith, all_step, zero_) in
      let o : current_waits mode (t ++ e ∷ []) core n ≡ current_waits mode t core n = omega (arith, open_step (no (is_begin mode)), zero_) in
      let m : made_below (t ++ e ∷ []) n (length (t ++ e ∷ [])) ≡ made_below t n (length t) = persists_grown ∙ rw (no is_persist) refl in
      rw (a, o, fenced_step (no (is_begin mode)) (no is_barrier), joined_step (no is_join), m, made_else is_join (no is_join), made_else (is_begin mode) (no (is_begin mode))) refl

  pub own_moves : (core_of e == n) ≡ true → core_waits mode (t ++ e ∷ []) core n ≡ waits_after mode e (wait mode (t ++ e ∷ []) core (length t)) (core_waits mode t core n)
  own_moves own =
      let u : List Event = t ++ e ∷ [] in
      let new : ℕ = wait mode u core (length t) in
      let w = core_waits mode t core n in
      let is_own : (test : Event → Bool) → new_is test ≡ test e = λ test. new_own test own in
      let fresh : (x : ℕ) → max new_wait x ≡ (if is_access e then max new x else x) = λ x. ap (λ b. max (if b then new else 0) x) (is_own is_access) ∙ max_if (is_access e) new x in
      let a : all_waits mode u core n ≡ (if is_access e then max new w.all else w.all) = all_step ∙ fresh w.all in
      let o : current_waits mode u core n ≡ (if is_begin mode e then 0 else if is_access e then max new w.current else w.current) = elim (cases_Bool (is_begin mode e)) [
        | inl yes_ ↦ open_begin (is_own (is_begin mode) ∙ yes_) ∙ rw yes_ refl
        | inr no_ ↦ open_step (is_own (is_begin mode) ∙ no_) ∙ fresh w.current ∙ rw no_ refl
      ] in
      let f : fenced_waits mode u core n ≡ (if is_begin mode e then 0 else if is_barrier e then w.current else w.fenced) = elim (cases_Bool (is_begin mode e)) [
        | inl yes_ ↦ fenced_begin (is_own (is_begin mode) ∙ yes_) ∙ rw yes_ refl
        | inr no_ ↦ elim (cases_Bool (is_barrier e)) [
          | inl bar ↦ fenced_barrier (is_own is_barrier ∙ bar) ∙ rw (no_, bar) refl
          | inr none ↦ fenced_step (is_own (is_begin mode) ∙ no_) (is_own is_barrier ∙ none) ∙ rw (no_, none) refl
        ]
      ] in
      let j : joined_waits mode u core n ≡ (if is_join e then w.all else w.joined) = elim (cases_Bool (is_join e)) [
        | inl yes_ ↦ joined_join (is_own is_join ∙ yes_) ∙ rw yes_ refl
        | inr no_ ↦ joined_step (is_own is_join ∙ no_) ∙ rw no_ refl
      ] in
      let m : made_below u n (length u) ≡ (if is_persist e then w.made + 1 else w.made) = persists_grown ∙ if_new is_persist (w.made + 1) w.made own in
      let made : (test : Event → Bool) → made_at_last test u n ≡ (if test e then w.made else made_at_last test t n) = λ test. elim (cases_Bool (test e)) [
        | inl yes_ ↦ made_at_event test (is_own test ∙ yes_) ∙ rw yes_ refl
        | inr no_ ↦ made_else test (is_own test ∙ no_) ∙ rw no_ refl
      ] in
      rw (a, o, f, j, m, made is_join, made (is_begin mode)) refl
    where
      max_if : (b : Bool) (new x : ℕ) → max (if b then new else 0) x ≡ (if b then max new x else x)
      max_if true new x = refl
      max_if false new x = omega arith
