-- Serves clause kept of waits_are_met_by_prefixes, and parts_are_kept of strand_rules.
-- What is said of the events of a trace stays so when the trace grows.
use Rattle.std.proofs.Common.{◌≡◌, ℕ, ◌<◌, ◌≤◌, Bool, ◌&&◌, List, [], ◌∷◌, ◌++◌, length, refl, ap, ◌∙◌, arith}
use Rattle.std.specs.Prelude.{nat_lt, ◌==◌}
use Rattle.strand_inputs.specs.declared.mode.Mode.{Mode}
use Rattle.strand_inputs.specs.declared.mode.Mode.TheVariants.{Strict, Epoch, Strand}
use Rattle.strand_events.specs.declared.event.Event.{Event}
use Rattle.strand_base.specs.Counting.{count_below}
use Rattle.strand_events.specs.Trace.{core_in, word_in, passes, is_access, is_store, is_barrier, is_join, is_new_strand, is_barrier_or_join, core_at, word_at, event_is, core_event_is, strand_number, same_strand, epoch}
use Rattle.strand_events.specs.Order.{stands_between, core_orders, directly_before}
use Rattle.strand_base.proofs.BelowBound.{get_more, any_agree, count_agree}

module _ (t : List Event) (e : Event) where
  pub event_is_kept : (test : Event → Bool) (i : ℕ) → i < length t → event_is test (t ++ e ∷ []) i ≡ event_is test t i
  event_is_kept test i lt = ap (passes test) (get_more t e i lt)

  pub core_kept : (i : ℕ) → i < length t → core_at (t ++ e ∷ []) i ≡ core_at t i
  core_kept i lt = ap core_in (get_more t e i lt)

  pub word_kept : (i : ℕ) → i < length t → word_at (t ++ e ∷ []) i ≡ word_at t i
  word_kept i lt = ap word_in (get_more t e i lt)

  pub core_event_kept : (test : Event → Bool) (core i : ℕ) → i < length t → core_event_is test core (t ++ e ∷ []) i ≡ core_event_is test core t i
  core_event_kept test core i lt = ap (λ x. passes test x && (core_in x == core)) (get_more t e i lt)

  pub number_kept : (mode : Mode) (i : ℕ) → i < length t → strand_number mode (t ++ e ∷ []) i ≡ strand_number mode t i
  number_kept Strict i lt = refl
  number_kept Epoch i lt = refl
  number_kept Strand i lt = ap (λ c. count_below i (core_event_is is_new_strand c (t ++ e ∷ []))) (core_kept i lt) ∙ count_agree i (core_event_is is_new_strand (core_at t i) (t ++ e ∷ [])) (core_event_is is_new_strand (core_at t i) t) (λ k below. core_event_kept is_new_strand (core_at t i) k (omega arith))

  pub strand_kept : (mode : Mode) (i j : ℕ) → i < length t → j < length t → same_strand mode (t ++ e ∷ []) i j ≡ same_strand mode t i j
  strand_kept mode i j lt lt' = cc (core_kept i lt, core_kept j lt', number_kept mode i lt, number_kept mode j lt')

  strand_epoch_kept : (mode : Mode) (i : ℕ) → i < length t → count_below i (λ k. event_is is_barrier_or_join (t ++ e ∷ []) k && same_strand mode (t ++ e ∷ []) k i) ≡ count_below i (λ k. event_is is_barrier_or_join t k && same_strand mode t k i)
  strand_epoch_kept mode i lt = count_agree i (λ k. event_is is_barrier_or_join (t ++ e ∷ []) k && same_strand mode (t ++ e ∷ []) k i) (λ k. event_is is_barrier_or_join t k && same_strand mode t k i) (λ k below. let inside : k < length t = omega arith in cc (event_is_kept is_barrier_or_join k inside, strand_kept mode k i inside lt))

  pub epoch_kept : (mode : Mode) (i : ℕ) → i < length t → epoch mode (t ++ e ∷ []) i ≡ epoch mode t i
  epoch_kept Strict i lt = ap (λ c. count_below i (core_event_is is_access c (t ++ e ∷ []))) (core_kept i lt) ∙ count_agree i (core_event_is is_access (core_at t i) (t ++ e ∷ [])) (core_event_is is_access (core_at t i) t) (λ k below. core_event_kept is_access (core_at t i) k (omega arith))
  epoch_kept Epoch i lt = strand_epoch_kept Epoch i lt
  epoch_kept Strand i lt = strand_epoch_kept Strand i lt

  pub between_kept : (test : Event → Bool) (core a b : ℕ) → b ≤ length t → stands_between test core (t ++ e ∷ []) a b ≡ stands_between test core t a b
  between_kept test core a b le = any_agree b (λ k. nat_lt a k && core_event_is test core (t ++ e ∷ []) k) (λ k. nat_lt a k && core_event_is test core t k) (λ k below. ap (λ x. nat_lt a k && x) (core_event_kept test core k (omega arith)))

  pub orders_kept : (mode : Mode) (core a b : ℕ) → b ≤ length t → core_orders mode core (t ++ e ∷ []) a b ≡ core_orders mode core t a b
  orders_kept Strict core a b le = refl
  orders_kept Epoch core a b le = between_kept is_barrier_or_join core a b le
  orders_kept Strand core a b le = cc (between_kept is_join core a b le, between_kept is_barrier core a b le, between_kept is_new_strand core a b le)

  pub directly_kept : (mode : Mode) (a b : ℕ) → a < length t → b < length t → directly_before mode (t ++ e ∷ []) a b ≡ directly_before mode t a b
  directly_kept mode a b lt lt' =
      let le : b ≤ length t = omega arith in
      cc (event_is_kept is_access a lt, event_is_kept is_access b lt', event_is_kept is_store a lt, event_is_kept is_store b lt', word_kept a lt, word_kept b lt', core_kept a lt, core_kept b lt', orders_kept mode (core_at t a) a b le)
