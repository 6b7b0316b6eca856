-- Serves clause parts of Machine::step at a write: a core's first persists that are all durable, one by one.
use Rattle.std.proofs.Common.{◌≡◌, ℕ, zero, suc, ◌+◌, ◌≤◌, Bool, true, false, inl, inr, List, [], ◌∷◌, refl, arith}
use Rattle.std.specs.Prelude.{slice_get}
use Rattle.std.proofs.lemmas.Bool.{cases_Bool, false≢true}
use Rattle.strand_events.specs.Order.{set_of}
use Rattle.strand_machine.specs.Changed.{durable_first, is_marked}

-- a durable one after those that lead leads too
pub durable_next : (durable : List Bool) (numbers : List ℕ) (k : ℕ) → k ≤ durable_first durable numbers → is_marked durable (slice_get numbers k) ≡ true → k + 1 ≤ durable_first durable numbers
durable_next durable [] k le is = absurd (false≢true is)
durable_next durable (n ∷ numbers) zero le is = rw is (omega arith)
durable_next durable (n ∷ numbers) (suc k) le is = elim (cases_Bool (set_of durable n)) [
  | inl yes_ ↦
      let first : durable_first durable (n ∷ numbers) ≡ suc (durable_first durable numbers) = rw yes_ refl in
      let more = durable_next durable numbers k (omega (arith, first, le)) is in omega (arith, more, first)
  | inr no_ ↦ let first : durable_first durable (n ∷ numbers) ≡ 0 = rw no_ refl in absurd (omega (arith, first, le))
]

-- one that isn't, or the end, stops them
pub durable_here : (durable : List Bool) (numbers : List ℕ) (k : ℕ) → k ≤ durable_first durable numbers → is_marked durable (slice_get numbers k) ≡ false → k ≡ durable_first durable numbers
durable_here durable [] k le not_ = omega (arith, le)
durable_here durable (n ∷ numbers) zero le not_ = rw not_ refl
durable_here durable (n ∷ numbers) (suc k) le not_ = elim (cases_Bool (set_of durable n)) [
  | inl yes_ ↦
      let first : durable_first durable (n ∷ numbers) ≡ suc (durable_first durable numbers) = rw yes_ refl in
      let same = durable_here durable numbers k (omega (arith, first, le)) not_ in omega (arith, same, first)
  | inr no_ ↦ let first : durable_first durable (n ∷ numbers) ≡ 0 = rw no_ refl in absurd (omega (arith, first, le))
]
