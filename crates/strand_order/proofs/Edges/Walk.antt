-- Serves clause edges of Graph::edges, the third step of build, by walk.
-- The links are followed back over the chain and the one event more, and the list has the edges.
use Rattle.std.proofs.Common.{◌≡◌, ℕ, zero, suc, ◌-◌, ◌<◌, ◌≤◌, Bool, true, inl, inr, List, [], ◌∷◌, ◌++◌, length, refl, sym, ap, ◌∙◌, arith, cond, append_assoc}
use Rattle.std.specs.Prelude.{reverse, max, nat_le, ◌==◌, slice_index}
use Rattle.std.proofs.lemmas.Bool.{cases_eq, cases_Bool, eq-eqb, ne_eqb, eqb-true}
use Rattle.std.proofs.lemmas.List.{reverse-append, append-nil}
use Rattle.strand_base.specs.Counting.{list_below}
use Rattle.strand_order.specs.Lasts.{since_below, cut, is_the_last, is_either}
use Rattle.strand_order.specs.declared.lasts.Sources.{Sources}
use Rattle.strand_order.specs.Walks.{AreSources}
use Rattle.strand_order.proofs.Edges.LastEvent.{since_most, since_passes, since_between, since_the_last, since_either, list_none, list_last}

-- the events from a bound on were walked
pub record WalkedTo (s : Sources) (n : ℕ) (chain : ℕ → Bool) (last single : ℕ) (list : List ℕ) : Type 0 where
  pub bound : ℕ
  pub within : bound ≤ n
  pub last_is : since_below bound chain ≡ last
  pub single_is : since_below bound (is_the_last s.single) ≡ single
  pub rest : list_below n (is_either chain s.single) ≡ list_below bound (is_either chain s.single) ++ reverse list

pub nothing_before : (i : ℕ) → since_below i (is_the_last (suc i)) ≡ 0
nothing_before i = go i (since_below i (is_the_last (suc i))) refl
  where
    go : (i k : ℕ) → since_below i (is_the_last (suc i)) ≡ k → since_below i (is_the_last (suc i)) ≡ 0
    go i zero e = e
    go i (suc k) e = absurd (omega (arith, since_most i (is_the_last (suc i)), e, eqb-true (suc k) (suc i) (since_passes i (is_the_last (suc i)) k e)))

module _ (links : List ℕ) (s : Sources) (n : ℕ) (chain : ℕ → Bool) (a : AreSources links s n chain) where
  pub walk_first : WalkedTo s n chain (cut s.floor s.last) s.single []
  walk_first = record {
    bound = n;
    within = omega arith;
    last_is = a.last;
    single_is = since_the_last n s.single a.single;
    rest = sym (append-nil (list_below n (is_either chain s.single)));
  }

  pub walk_step : (last single next last' single' : ℕ) (list : List ℕ) → WalkedTo s n chain last single list → next ≡ max last single → 1 ≤ next
      → last' ≡ cond (last == next) (cut s.floor (slice_index links (next - 1))) last → single' ≡ cond (single == next) 0 single
      → WalkedTo s n chain last' single' (list ++ (next - 1) ∷ [])
  walk_step last single next last' single' list w is one made_last made_single =
      let i = next - 1 in
      let both = is_either chain s.single in
      let at : since_below w.bound both ≡ suc i = since_either w.bound chain (is_the_last s.single) ∙ (omega (arith, w.last_is, w.single_is, is, one)) in
      let most = since_most w.bound both in
      record {
        bound = i;
        within = omega (arith, w.within, most, at);
        last_is = elim (cases_eq last next) [
          | inl e ↦
              let here : chain i ≡ true = since_passes w.bound chain i (w.last_is ∙ (omega (arith, e, one))) in
              let link = a.back i (omega (arith, w.within, most, at)) here in
              let made : last' ≡ cut s.floor (slice_index links i) = made_last ∙ ap (λ b. cond b (cut s.floor (slice_index links i)) last) (eq-eqb last next e) in
              sym link ∙ sym made
          | inr ne ↦
              let low : last ≤ i = omega (arith, is, ne, one) in
              let made : last' ≡ last = made_last ∙ ap (λ b. cond b (cut s.floor (slice_index links i)) last) (ne_eqb last next ne) in
              since_between w.bound i chain (omega (arith, most, at)) (omega (arith, w.last_is, low)) ∙ w.last_is ∙ sym made
        ];
        single_is = elim (cases_eq single next) [
          | inl e ↦
              let here : is_the_last s.single i ≡ true = since_passes w.bound (is_the_last s.single) i (w.single_is ∙ (omega (arith, e, one))) in
              let same : suc i ≡ s.single = eqb-true (suc i) s.single here in
              let made : single' ≡ 0 = made_single ∙ ap (λ b. cond b 0 single) (eq-eqb single next e) in
              ap (λ m. since_below i (is_the_last m)) (sym same) ∙ nothing_before i ∙ sym made
          | inr ne ↦
              let low : single ≤ i = omega (arith, is, ne, one) in
              let made : single' ≡ single = made_single ∙ ap (λ b. cond b 0 single) (ne_eqb single next ne) in
              since_between w.bound i (is_the_last s.single) (omega (arith, most, at)) (omega (arith, w.single_is, low)) ∙ w.single_is ∙ sym made
        ];
        rest = w.rest ∙ ap (λ xs. xs ++ reverse list) (list_last w.bound both i at) ∙ append_assoc (list_below i both) (i ∷ []) (reverse list) ∙ ap (λ xs. list_below i both ++ xs) (sym (reverse-append list (i ∷ [])));
      }

  pub walk_end : (last single : ℕ) (list : List ℕ) → WalkedTo s n chain last single list → last ≡ 0 → single ≡ 0 → list_below n (is_either chain s.single) ≡ reverse list
  walk_end last single list w l k =
      let both = is_either chain s.single in
      let none : since_below w.bound both ≡ 0 = since_either w.bound chain (is_the_last s.single) ∙ (omega (arith, w.last_is, w.single_is, l, k)) in
      w.rest ∙ ap (λ xs. xs ++ reverse list) (list_none w.bound both none)

pub cut_most : (floor last : ℕ) → cut floor last ≤ last
cut_most floor last = elim (cases_Bool (nat_le floor last)) [ inl y ↦ rw y (omega arith) | inr no_ ↦ rw no_ (omega arith) ]

-- the chain's last event stays among the links
pub last_within : (links : List ℕ) (floor last next last' : ℕ) → ((i : ℕ) → slice_index links i ≤ i) → last ≤ length links → 1 ≤ next → last' ≡ cond (last == next) (cut floor (slice_index links (next - 1))) last → (last' ≤ last) × ((last ≡ next) → last' < last)
last_within links floor last next last' back le one made = elim (cases_eq last next) [
  | inl e ↦
      let is : last' ≡ cut floor (slice_index links (next - 1)) = made ∙ ap (λ b. cond b (cut floor (slice_index links (next - 1))) last) (eq-eqb last next e) in
      let low : last' < last = omega (arith, is, cut_most floor (slice_index links (next - 1)), back (next - 1), e, one) in
      (omega (arith, low), λ _. low)
  | inr ne ↦
      let is : last' ≡ last = made ∙ ap (λ b. cond b (cut floor (slice_index links (next - 1))) last) (ne_eqb last next ne) in
      (omega (arith, is), λ e. absurd (ne e))
]
