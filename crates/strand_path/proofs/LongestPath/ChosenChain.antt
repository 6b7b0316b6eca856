-- Serves clause chosen of longest.
-- Levels are the lengths of longest chains, and picked members are the chosen chain.
use Rattle.std.proofs.Common.{◌≡◌, ℕ, zero, suc, ◌+◌, ◌-◌, ◌<◌, ◌≤◌, true, List, [], ◌∷◌, ◌++◌, length, map, refl, ap, ◌∙◌, arith, subst}
use Rattle.std.specs.Prelude.{slice_index}
use Rattle.std.proofs.lemmas.List.{length-append}
use Rattle.strand_inputs.specs.declared.mode.Mode.{Mode}
use Rattle.strand_events.specs.declared.event.Event.{Event}
use Rattle.strand_events.specs.Trace.{is_persist, event_is, persist_number}
use Rattle.strand_events.specs.Order.{Before}
use Rattle.strand_order.proofs.Paths.Path.{path_before}
use Rattle.strand_order.proofs.Paths.Before.{before_path}
use Rattle.strand_path.specs.Chains.{IsChain, events_of}
use Rattle.strand_path.specs.Checked.{AreLevels}
use Rattle.strand_path.specs.Chosen.{IsLevel, IsChosen}
use Rattle.strand_path.specs.Building.{AreSupported}
use Rattle.strand_path.specs.Picking.{ArePicked}
use Rattle.strand_events.proofs.EventWithin.{event_within}
use Rattle.strand_path.proofs.Check.Bounds.{path_lt, access, greatest_most, number_again}

module _ (mode : Mode) (t : List Event) where
  chain_more : (front : List ℕ) (p q : ℕ) → IsChain mode t (front ++ p ∷ []) → Before mode t p q → event_is is_persist t q ≡ true → IsChain mode t ((front ++ p ∷ []) ++ q ∷ [])
  chain_more [] p q c before is = (c, before, is)
  chain_more (x ∷ []) p q c before is = (c.0, c.1, chain_more [] p q c.2 before is)
  chain_more (x ∷ y ∷ ys) p q c before is = (c.0, c.1, chain_more (y ∷ ys) p q c.2 before is)

  pub chain_last : (front : List ℕ) (p : ℕ) → IsChain mode t (front ++ p ∷ []) → event_is is_persist t p ≡ true
  chain_last [] p c = c
  chain_last (x ∷ []) p c = c.2
  chain_last (x ∷ y ∷ ys) p c = chain_last (y ∷ ys) p c.2

  module _ (levels : List ℕ) (a : AreLevels mode t levels) where
    before_lt : (p q : ℕ) → Before mode t p q → event_is is_persist t q ≡ true → slice_index levels p < slice_index levels q
    before_lt p q before is = let path = before_path mode t p q before in path_lt mode t levels a p path.0 q path.1 is

    rise_along : (x : ℕ) (front : List ℕ) (p : ℕ) → IsChain mode t (x ∷ (front ++ p ∷ [])) → slice_index levels x + suc (length front) ≤ slice_index levels p
    rise_along x [] p c = omega (arith, before_lt x p c.1 c.2)
    rise_along x (y ∷ ys) p c = omega (arith, before_lt x y c.1 (first y (ys ++ p ∷ []) c.2), rise_along y ys p c.2)
      where
        first : (y : ℕ) (ys : List ℕ) → IsChain mode t (y ∷ ys) → event_is is_persist t y ≡ true
        first y [] c = c
        first y (z ∷ zs) c = c.0

    chain_most : (front : List ℕ) (p : ℕ) → IsChain mode t (front ++ p ∷ []) → suc (length front) ≤ slice_index levels p
    chain_most [] p c = omega (arith, a.least p c)
    chain_most (x ∷ []) p c = omega (arith, a.least x c.0, rise_along x [] p c)
    chain_most (x ∷ y ∷ ys) p c = omega (arith, a.least x c.0, rise_along x (y ∷ ys) p c)

    module _ (s : AreSupported mode t levels) where
      chain_at : (n p : ℕ) → event_is is_persist t p ≡ true → slice_index levels p ≡ suc n → (front : List ℕ) × IsChain mode t (front ++ p ∷ []) × (length front ≡ n)
      chain_at zero p is at = ([], is, refl)
      chain_at (suc n) p is at =
          let support = s p is (omega (arith, at)) in
          let below = chain_at n support.from support.persist (omega (arith, support.level, at)) in
          let before = path_before mode t support.from p (access mode t support.from support.persist) (access mode t p is) support.path in
          (below.0 ++ support.from ∷ [], chain_more below.0 support.from p below.1 before is, (omega (arith, length-append below.0 (support.from ∷ []), below.2)))

      level_is : (p : ℕ) → event_is is_persist t p ≡ true → IsLevel mode t p (slice_index levels p)
      level_is p is =
          let n = slice_index levels p - 1 in
          let at : slice_index levels p ≡ suc n = omega (arith, a.least p is) in
          let chain = chain_at n p is at in
          record { front = chain.0; chain = chain.1; members = omega (arith, chain.2, at); most = λ other c. chain_most other p c }

      level_only : (p n : ℕ) → IsLevel mode t p n → (event_is is_persist t p ≡ true) × (slice_index levels p ≡ n)
      level_only p n l =
          let is = chain_last l.front p l.chain in
          let own = level_is p is in
          (is, (omega (arith, chain_most l.front p l.chain, l.members, l.most own.front own.chain, own.members)))

      pub picked_chosen : (chain : List ℕ) → ArePicked mode t levels chain 0 → IsChosen mode t chain
      picked_chosen chain k = record {
        top = λ p n l. let own = level_only p n l in omega (arith, greatest_most t levels (length t) p (event_within is_persist t p own.0) own.0, own.1, k.long);
        level = λ m lt. subst (λ n. IsLevel mode t (slice_index chain m) n) (k.level m (omega arith) lt) (level_is (slice_index chain m) (k.persist m (omega arith) lt));
        last = λ m e p l. let own = level_only p (suc m) l in k.last m (omega arith) e p own.0 own.1;
        before = λ m lt. path_before mode t (slice_index chain m) (slice_index chain (suc m)) (access mode t (slice_index chain m) (k.persist m (omega arith) (omega (arith, lt)))) (access mode t (slice_index chain (suc m)) (k.persist (suc m) (omega arith) lt)) (k.pick m (omega arith) lt).path;
        first = λ m lt p l before. let own = level_only p (suc m) l in (k.pick m (omega arith) lt).first p own.0 own.1 (before_path mode t p (slice_index chain (suc m)) before);
      }

  -- persists by their numbers are themselves
  pub events_again : (chain : List ℕ) → ((k : ℕ) → k < length chain → event_is is_persist t (slice_index chain k) ≡ true) → events_of t (map (persist_number t) chain) ≡ chain
  events_again [] all = refl
  events_again (x ∷ xs) all = ap (λ y. y ∷ events_of t (map (persist_number t) xs)) (number_again mode t x (all 0 (omega arith))) ∙ ap (λ ys. x ∷ ys) (events_again xs (λ k lt. all (suc k) (omega (arith, lt))))
