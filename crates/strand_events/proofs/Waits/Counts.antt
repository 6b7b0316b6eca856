-- Serves clauses greatest, handed and counted of waits_cover_other_strands.
-- What a wait counts: what the waits of the accesses directly before it count, and what was made up to one of another strand.
use Rattle.std.proofs.Common.{◌≡◌, ℕ, zero, suc, ◌+◌, ◌<◌, ◌≤◌, true, false, ◌&&◌, ◌⊎◌, inl, inr, List, refl, sym, ap, arith}
use Rattle.std.specs.Prelude.{max, not, ◌==◌, if◌then◌else◌}
use Rattle.std.proofs.lemmas.Bool.{cases_lt, cases_Bool, and_parts, and_from, eq-eqb, eqb-true, not-true}
use Rattle.strand_base.proofs.BelowBound.{count_mono, count_strict}
use Rattle.strand_inputs.specs.declared.mode.Mode.{Mode}
use Rattle.strand_events.specs.declared.event.Event.{Event}
use Rattle.strand_events.specs.Trace.{is_persist, core_at, event_is, core_event_is, same_strand}
use Rattle.strand_events.specs.Order.{Set, directly_before}
use Rattle.strand_events.proofs.PersistOrder.Epochs.{direct_parts}
use Rattle.strand_events.specs.Greatest.{max_below}
use Rattle.strand_events.specs.Prefixes.{made_below}
use Rattle.strand_events.specs.Waits.{made_at, handed, wait_within, wait}
use Rattle.strand_events.proofs.Waits.Greatest.{max_at, max_most, max_found, max_agree}

-- the wait of access x counts persist p
abbrev pub Counts : Mode → List Event → ℕ → ℕ → Type 0
Counts mode t x p = made_below t (core_at t p) p < wait mode t (core_at t p) x

-- each persist that the wait of access x counts is durable
abbrev pub IsMet : Mode → List Event → Set → ℕ → Type 0
IsMet mode t durable x = (p : ℕ) → event_is is_persist t p ≡ true → Counts mode t x p → durable p ≡ true

-- persist p was made at or before access a, by a's core
pub record MadeUpTo (t : List Event) (a p : ℕ) : Type 0 where
  pub core : core_at t p ≡ core_at t a
  pub upto : p ≤ a

module _ (mode : Mode) (t : List Event) (core : ℕ) where
  -- enough is enough
  within_enough : (n m x : ℕ) → x ≤ n → x ≤ m → wait_within n mode t core x ≡ wait_within m mode t core x
  within_enough zero zero x le le' = refl
  within_enough zero (suc m) x le le' = let e : x ≡ 0 = omega arith in rw e refl
  within_enough (suc n) zero x le le' = let e : x ≡ 0 = omega arith in rw e refl
  within_enough (suc n) (suc m) x le le' =
      max_agree x (handed mode t (wait_within n mode t core) core x) (handed mode t (wait_within m mode t core) core x)
      (λ a lt. ap (λ w. if directly_before mode t a x then max w (made_at mode t core x a) else 0) (within_enough n m a (omega arith) (omega arith)))

  -- a wait is the greatest of what the accesses directly before hand on: their waits, and what was made up to those of another strand
  pub wait_is : (x : ℕ) → wait mode t core x ≡ max_below x (handed mode t (wait mode t core) core x)
  wait_is zero = refl
  wait_is (suc y) =
      max_agree (suc y) (handed mode t (wait_within y mode t core) core (suc y)) (handed mode t (wait mode t core) core (suc y))
      (λ a lt. ap (λ w. if directly_before mode t a (suc y) then max w (made_at mode t core (suc y) a) else 0) (within_enough y a a (omega arith) (omega arith)))

  handed_none : (waits : ℕ → ℕ) (x a : ℕ) → directly_before mode t a x ≡ false → handed mode t waits core x a ≡ 0
  handed_none waits x a off = rw off refl

  handed_some : (waits : ℕ → ℕ) (x a : ℕ) → directly_before mode t a x ≡ true → handed mode t waits core x a ≡ max (waits a) (made_at mode t core x a)
  handed_some waits x a on = rw on refl

  pub made_none : (x a : ℕ) → ((core_at t a == core) && not (same_strand mode t a x)) ≡ false → made_at mode t core x a ≡ 0
  made_none x a off = rw off refl

  pub made_some : (x a : ℕ) → ((core_at t a == core) && not (same_strand mode t a x)) ≡ true → made_at mode t core x a ≡ made_below t core (a + 1)
  made_some x a on = rw on refl

  -- an access hands on no more than its wait and what its core had made
  handed_most : (waits : ℕ → ℕ) (x a most : ℕ) → waits a ≤ most → made_below t core (a + 1) ≤ most → handed mode t waits core x a ≤ most
  handed_most waits x a most small few = elim (cases_Bool (directly_before mode t a x)) [
    | inr off ↦ omega (arith, handed_none waits x a off)
    | inl on ↦ elim (cases_Bool ((core_at t a == core) && not (same_strand mode t a x))) [
      | inl yes_ ↦ omega (arith, handed_some waits x a on, made_some x a yes_, small, few)
      | inr no_ ↦ omega (arith, handed_some waits x a on, made_none x a no_, small)
    ]
  ]

  within_most : (n x : ℕ) → wait_within n mode t core x ≤ made_below t core x
  within_most zero x = omega arith
  within_most (suc n) x = max_most x (handed mode t (wait_within n mode t core) core x) (made_below t core x) (λ a lt.
      let upto : made_below t core a ≤ made_below t core x = count_mono a x (core_event_is is_persist core t) (omega arith) in
      let here : made_below t core (a + 1) ≤ made_below t core x = count_mono (a + 1) x (core_event_is is_persist core t) (omega arith) in
      handed_most (wait_within n mode t core) x a (made_below t core x) (omega (arith, within_most n a, upto)) here)

  -- a wait is no more than what the core had made
  pub wait_most : (x : ℕ) → wait mode t core x ≤ made_below t core x
  wait_most x = within_most x x

  -- a wait is no less than that of an access directly before
  pub wait_rises : (a x : ℕ) → directly_before mode t a x ≡ true → wait mode t core a ≤ wait mode t core x
  wait_rises a x on =
      let lt : a < x = (direct_parts mode t a x on).0 in
      omega (arith, wait_is x, max_at x (handed mode t (wait mode t core) core x) a lt, handed_some (wait mode t core) x a on)

  wait_crosses : (a x : ℕ) → directly_before mode t a x ≡ true → core_at t a ≡ core → same_strand mode t a x ≡ false → made_below t core (a + 1) ≤ wait mode t core x
  wait_crosses a x on c apart =
      let lt : a < x = (direct_parts mode t a x on).0 in
      let yes_ : ((core_at t a == core) && not (same_strand mode t a x)) ≡ true = and_from (core_at t a == core) (not (same_strand mode t a x)) (eq-eqb (core_at t a) core c) (ap not apart) in
      omega (arith, wait_is x, max_at x (handed mode t (wait mode t core) core x) a lt, handed_some (wait mode t core) x a on, made_some x a yes_)

  -- where a number below the wait comes from
  wait_from : (x c : ℕ) → c < wait mode t core x → (a : ℕ) × (directly_before mode t a x ≡ true) × ((c < wait mode t core a) ⊎ ((core_at t a ≡ core) × (same_strand mode t a x ≡ false) × (c < made_below t core (a + 1))))
  wait_from x c lt =
      let under : c < max_below x (handed mode t (wait mode t core) core x) = omega (arith, lt, wait_is x) in
      let found = max_found x (handed mode t (wait mode t core) core x) c under in
      let a : ℕ = found.0 in
      elim (cases_Bool (directly_before mode t a x)) [
        | inr off ↦ absurd (omega (arith, found.2, handed_none (wait mode t core) x a off))
        | inl on ↦ (
          a,
          on,
          elim (cases_lt c (wait mode t core a)) [
            | inl low ↦ inl low
            | inr high ↦ elim (cases_Bool ((core_at t a == core) && not (same_strand mode t a x))) [
              | inr no_ ↦ absurd (omega (arith, found.2, handed_some (wait mode t core) x a on, made_none x a no_, high))
              | inl yes_ ↦
                  let parts = and_parts (core_at t a == core) (not (same_strand mode t a x)) yes_ in
                  let made : c < made_below t core (a + 1) = omega (arith, found.2, handed_some (wait mode t core) x a on, made_some x a yes_, high) in
                  inr (eqb-true (core_at t a) core parts.0, not-true (same_strand mode t a x) parts.1, made)
            ]
          ],
        )
      ]

module _ (mode : Mode) (t : List Event) where
  -- a persist of another strand than x, at or before an access directly before x, is counted
  pub counts_made : (a x : ℕ) → directly_before mode t a x ≡ true → same_strand mode t a x ≡ false → (p : ℕ) → event_is is_persist t p ≡ true → MadeUpTo t a p → Counts mode t x p
  counts_made a x on apart p is made =
      let core : ℕ = core_at t p in
      let at : core_event_is is_persist core t p ≡ true = and_from (event_is is_persist t p) (core_at t p == core) is (eq-eqb (core_at t p) core refl) in
      let le : p ≤ a = made.upto in
      let near : p < a + 1 = omega arith in
      let less : made_below t core p < made_below t core (a + 1) = count_strict p p (a + 1) (core_event_is is_persist core t) (omega arith) near at in
      omega (arith, less, wait_crosses mode t core a x on (sym made.core) apart)

  -- what the wait of an access directly before counts is counted
  pub counts_on : (a x : ℕ) → directly_before mode t a x ≡ true → (p : ℕ) → Counts mode t a p → Counts mode t x p
  counts_on a x on p counted = omega (arith, counted, wait_rises mode t (core_at t p) a x on)

  -- whatever a wait counts, an access directly before hands it on: its wait counts it, or it is of another strand and the persist was made up to there
  pub counted_why : (x p : ℕ) → Counts mode t x p → (a : ℕ) × (directly_before mode t a x ≡ true) × (Counts mode t a p ⊎ ((same_strand mode t a x ≡ false) × MadeUpTo t a p))
  counted_why x p counted =
      let core : ℕ = core_at t p in
      let from = wait_from mode t core x (made_below t core p) counted in
      let a : ℕ = from.0 in (
        a,
        from.1,
        elim from.2 [
          | inl low ↦ inl low
          | inr (c, apart, less) ↦ inr (
            apart,
            record {
              core = sym c;
              upto = elim (cases_lt a p) [
                | inl after_ ↦ let over : a + 1 ≤ p = omega arith in absurd (omega (arith, less, count_mono (a + 1) p (core_event_is is_persist core t) over))
                | inr ge ↦ ge
              ];
            },
          )
        ],
      )

  -- a wait counts only persists made before
  pub counted_earlier : (x p : ℕ) → Counts mode t x p → p < x
  counted_earlier x p counted = elim (cases_lt p x) [
    | inl lt ↦ lt
    | inr ge ↦ absurd (omega (arith, counted, wait_most mode t (core_at t p) x, count_mono x p (core_event_is is_persist (core_at t p) t) ge))
  ]
