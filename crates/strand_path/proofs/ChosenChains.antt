-- Serves chosen_chains_are_longest, each of its clauses.
-- A trace has at most one chosen chain; it is a chain, and no chain is longer.
use Rattle.std.proofs.Common.{◌≡◌, ℕ, zero, suc, ◌+◌, ◌-◌, ◌<◌, ◌≤◌, true, inl, inr, List, [], ◌∷◌, ◌++◌, length, refl, sym, ap, ◌∙◌, arith, subst}
use Rattle.std.specs.Prelude.{slice_index}
use Rattle.std.proofs.lemmas.Bool.{cases_lt}
use Rattle.std.proofs.lemmas.Grind.{same_number_lists}
use Rattle.std.proofs.lemmas.List.{length-map, length-append, get_or-map}
use Rattle.std.proofs.lemmas.Option.{slice_get-get_or}
use Rattle.strand_base.proofs.BelowBound.{list_get}
use Rattle.strand_inputs.specs.declared.mode.Mode.{Mode}
use Rattle.strand_events.specs.declared.event.Event.{Event}
use Rattle.strand_events.specs.Trace.{is_persist, event_is, persists_of, persist_number}
use Rattle.strand_events.specs.Order.{Before}
use Rattle.strand_events.proofs.PersistOrder.Laws.{before_forward}
use Rattle.strand_path.specs.Chains.{IsChain, events_of}
use Rattle.strand_path.specs.Chosen.{IsChosen, IsChosenChain}
use Rattle.strand_path.proofs.LongestPath.ChosenChain.{chain_last}

-- a list that isn't empty ends in a member
ends : (x : ℕ) (xs : List ℕ) → (front : List ℕ) × (p : ℕ) × (x ∷ xs ≡ front ++ p ∷ [])
ends x [] = ([], x, refl)
ends x (y ∷ ys) = let r = ends y ys in (x ∷ r.0, r.1, ap (λ zs. x ∷ zs) r.2)

module _ (mode : Mode) (t : List Event) where
  far_apart : (x : ℕ) (front : List ℕ) (p : ℕ) → IsChain mode t (x ∷ (front ++ p ∷ [])) → x + suc (length front) ≤ p
  far_apart x [] p c = omega (arith, before_forward mode t x p c.1)
  far_apart x (y ∷ ys) p c = omega (arith, before_forward mode t x y c.1, far_apart y ys p c.2)

  length_within : (front : List ℕ) (p : ℕ) → IsChain mode t (front ++ p ∷ []) → length front ≤ p
  length_within [] p c = omega arith
  length_within (x ∷ xs) p c = omega (arith, far_apart x xs p c)

  -- A chain that none with its last member is longer than shows that member's level; so where one is longer than the
  -- chosen chain, a still longer one is, too, but a chain has an end.
  no_longer : (chain : List ℕ) → IsChosen mode t chain → (fuel : ℕ) (front : List ℕ) (p : ℕ) → IsChain mode t (front ++ p ∷ []) → p ≤ length front + fuel → suc (length front) ≤ length chain
  no_longer chain k zero front p c enough = k.top p (suc (length front)) (record { front = front; chain = c; members = refl; most = λ other d. omega (arith, length_within other p d, enough) })
  no_longer chain k (suc fuel) front p c enough = elim (cases_lt (length chain) (suc (length front))) [
    | inr within ↦ within
    | inl past ↦ k.top p (suc (length front)) (record {
      front = front;
      chain = c;
      members = refl;
      most = λ other d. elim (cases_lt (length front) (length other)) [
        | inl longer ↦ absurd (omega (arith, past, longer, no_longer chain k fuel other p d (omega (arith, enough, longer))))
        | inr none ↦ omega (arith, none)
      ];
    })
  ]

  none_longer : (chain : List ℕ) → IsChosen mode t chain → (other : List ℕ) → IsChain mode t other → length other ≤ length chain
  none_longer chain k [] c = omega arith
  none_longer chain k (x ∷ xs) c =
      let parts = ends x xs in
      let bound = no_longer chain k parts.1 parts.0 parts.1 (subst (IsChain mode t) parts.2 c) (omega arith) in
      omega (arith, bound, ap length parts.2, length-append parts.0 (parts.1 ∷ []))

  no_more : (chain other : List ℕ) → IsChosen mode t chain → IsChosen mode t other → length chain ≤ length other
  no_more chain other k l = elim (cases_lt (length other) (length chain)) [
    | inr within ↦ within
    | inl past ↦ absurd (omega (arith, l.top (slice_index chain (length other)) (suc (length other)) (k.level (length other) past)))
  ]

  -- from the last member on, each is the same
  same_member : (chain other : List ℕ) → IsChosen mode t chain → IsChosen mode t other → length chain ≡ length other → (after n : ℕ) → n + suc after ≡ length chain → slice_index chain n ≡ slice_index other n
  same_member chain other k l long zero n e =
      let le = k.last n (omega (arith, e)) (slice_index other n) (l.level n (omega (arith, e, long))) in
      let ge = l.last n (omega (arith, e, long)) (slice_index chain n) (k.level n (omega (arith, e))) in
      omega (arith, le, ge)
  same_member chain other k l long (suc after) n e =
      let next = same_member chain other k l long after (suc n) (omega (arith, e)) in
      let le = k.first n (omega (arith, e)) (slice_index other n) (l.level n (omega (arith, e, long))) (subst (λ y. Before mode t (slice_index other n) y) (sym next) (l.before n (omega (arith, e, long)))) in
      let ge = l.first n (omega (arith, e, long)) (slice_index chain n) (k.level n (omega (arith, e))) (subst (λ y. Before mode t (slice_index chain n) y) next (k.before n (omega (arith, e)))) in
      omega (arith, le, ge)

  event_at : (chain : List ℕ) (k : ℕ) → k < length chain → slice_index (events_of t chain) k ≡ slice_index (persists_of t) (slice_index chain k)
  event_at chain k lt = get_or-map (slice_index (persists_of t)) chain k 0 0 lt

  number_at : (chain : List ℕ) (k : ℕ) → IsChosenChain mode t chain → k < length chain → persist_number t (slice_index (events_of t chain) k) ≡ slice_index chain k
  number_at chain k c lt =
      let p = slice_index chain k in
      ap (persist_number t) (event_at chain k lt) ∙ (list_get (length t) (event_is is_persist t) p (slice_index (persists_of t) p) (slice_get-get_or (persists_of t) p 0 (c.numbers k lt))).2

  pub chosen_one : (chain other : List ℕ) → IsChosenChain mode t chain → IsChosenChain mode t other → chain ≡ other
  chosen_one chain other c d =
      let size : (xs : List ℕ) → length (events_of t xs) ≡ length xs = λ xs. length-map xs (slice_index (persists_of t)) in
      let less = no_more (events_of t chain) (events_of t other) c.chosen d.chosen in
      let more = no_more (events_of t other) (events_of t chain) d.chosen c.chosen in
      let long : length (events_of t chain) ≡ length (events_of t other) = omega (arith, less, more) in
      let same : length chain ≡ length other = omega (arith, long, size chain, size other) in
      same_number_lists chain other same (λ k lt.
      let after : (n : ℕ) × (k + suc n ≡ length (events_of t chain)) = (length chain - suc k, omega (arith, lt, size chain)) in
      let event = same_member (events_of t chain) (events_of t other) c.chosen d.chosen long after.0 k after.1 in
      sym (number_at chain k c lt) ∙ ap (persist_number t) event ∙ number_at other k d (omega (arith, lt, same)))

  linked : (xs : List ℕ) → ((k : ℕ) → k < length xs → event_is is_persist t (slice_index xs k) ≡ true) → ((k : ℕ) → suc k < length xs → Before mode t (slice_index xs k) (slice_index xs (suc k))) → IsChain mode t xs
  linked [] is before = tt
  linked (x ∷ []) is before = is 0 (omega arith)
  linked (x ∷ y ∷ ys) is before = (is 0 (omega arith), before 0 (omega arith), linked (y ∷ ys) (λ k lt. is (suc k) (omega (arith, lt))) (λ k lt. before (suc k) (omega (arith, lt))))

  pub chosen_chain : (chain : List ℕ) → IsChosenChain mode t chain → IsChain mode t (events_of t chain)
  chosen_chain chain c = linked (events_of t chain) (λ k lt. let l = (c.chosen).level k lt in chain_last mode t l.front (slice_index (events_of t chain) k) l.chain) (c.chosen).before

  pub chosen_longest : (chain other : List ℕ) → IsChosenChain mode t chain → IsChain mode t other → length other ≤ length chain
  chosen_longest chain other c d = omega (arith, none_longer (events_of t chain) c.chosen other d, length-map chain (slice_index (persists_of t)))
