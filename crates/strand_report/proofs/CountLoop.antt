-- Serves count_marked and write_trace: a loop that counts the numbers which pass a test.
use Rattle.std.proofs.Common.{◌≡◌, ℕ, suc, ◌+◌, ◌≤◌, Bool, true, false, arith, add-one}
use Rattle.strand_base.specs.Counting.{count_below}
use Rattle.strand_base.proofs.BelowBound.{count_yes, count_no}

-- how many numbers below i pass, and that is at most i
abbrev pub Counted : (ℕ → Bool) → ℕ → ℕ → Type 0
Counted test i count = (count ≡ count_below i test) × (count ≤ i)

pub count_more : (test : ℕ → Bool) (i count new : ℕ) → test i ≡ true → Counted test i count → new ≡ count + 1 → Counted test (i + 1) new
count_more test i count new e counted more =
    let next : count_below (i + 1) test ≡ suc (count_below i test) = rw add-one (count_yes i test e) in
    (omega (arith, more, counted.0, next), omega (arith, more, counted.1))

pub count_same : (test : ℕ → Bool) (i count new : ℕ) → test i ≡ false → Counted test i count → new ≡ count → Counted test (i + 1) new
count_same test i count new e counted same =
    let next : count_below (i + 1) test ≡ count_below i test = rw add-one (count_no i test e) in
    (omega (arith, same, counted.0, next), omega (arith, same, counted.1))
