-- Serves clause kept of waits_are_met_by_prefixes: an access's wait stays as it is when the trace grows.
use Rattle.std.proofs.Common.{◌≡◌, ℕ, zero, suc, ◌+◌, ◌<◌, ◌≤◌, List, [], ◌∷◌, ◌++◌, length, refl, ap, ◌∙◌, arith}
use Rattle.strand_base.proofs.BelowBound.{count_agree}
use Rattle.strand_inputs.specs.declared.mode.Mode.{Mode}
use Rattle.strand_events.specs.declared.event.Event.{Event}
use Rattle.strand_events.specs.Trace.{is_persist, core_at, core_event_is}
use Rattle.strand_events.specs.Order.{directly_before}
use Rattle.strand_events.proofs.LongerTrace.{core_kept, core_event_kept, strand_kept, directly_kept}
use Rattle.strand_events.specs.Prefixes.{made_below}
use Rattle.strand_events.specs.Waits.{made_at, handed, wait_within, wait}
use Rattle.strand_events.proofs.Waits.Greatest.{max_agree}
use Rattle.strand_events.proofs.Waits.Counts.{Counts}

module _ (mode : Mode) (t : List Event) (e : Event) where
  pub persists_kept : (core n : ℕ) → n ≤ length t → made_below (t ++ e ∷ []) core n ≡ made_below t core n
  persists_kept core n le = count_agree n (core_event_is is_persist core (t ++ e ∷ [])) (core_event_is is_persist core t) (λ k lt. core_event_kept t e is_persist core k (omega arith))

  made_kept : (core x a : ℕ) → a < x → x < length t → made_at mode (t ++ e ∷ []) core x a ≡ made_at mode t core x a
  made_kept core x a lt inside =
      let before : a < length t = omega arith in
      let upto : a + 1 ≤ length t = omega arith in
      cc (core_kept t e a before, strand_kept t e mode a x before inside, persists_kept core (a + 1) upto)

  within_kept : (n core x : ℕ) → x < length t → wait_within n mode (t ++ e ∷ []) core x ≡ wait_within n mode t core x
  within_kept zero core x inside = refl
  within_kept (suc n) core x inside =
      max_agree x (handed mode (t ++ e ∷ []) (wait_within n mode (t ++ e ∷ []) core) core x) (handed mode t (wait_within n mode t core) core x) (λ a lt.
      let before : a < length t = omega arith in
      let direct : directly_before mode (t ++ e ∷ []) a x ≡ directly_before mode t a x = directly_kept t e mode a x before inside in
      let waits : wait_within n mode (t ++ e ∷ []) core a ≡ wait_within n mode t core a = within_kept n core a before in
      let made : made_at mode (t ++ e ∷ []) core x a ≡ made_at mode t core x a = made_kept core x a lt inside in
      rw (direct, waits, made) refl)

  pub wait_kept : (core x : ℕ) → x < length t → wait mode (t ++ e ∷ []) core x ≡ wait mode t core x
  wait_kept core x inside = within_kept x core x inside

  -- what an old wait counts it counted before
  pub counted_was : (x p : ℕ) → x < length t → p < length t → Counts mode (t ++ e ∷ []) x p → Counts mode t x p
  counted_was x p inside lt counted =
      let c : core_at (t ++ e ∷ []) p ≡ core_at t p = core_kept t e p lt in
      let upto : p ≤ length t = omega arith in
      let made : made_below (t ++ e ∷ []) (core_at (t ++ e ∷ []) p) p ≡ made_below t (core_at t p) p = ap (λ n. made_below (t ++ e ∷ []) n p) c ∙ persists_kept (core_at t p) p upto in
      let waits : wait mode (t ++ e ∷ []) (core_at (t ++ e ∷ []) p) x ≡ wait mode t (core_at t p) x = ap (λ n. wait mode (t ++ e ∷ []) n x) c ∙ wait_kept (core_at t p) x inside in
      omega (arith, counted, made, waits)
