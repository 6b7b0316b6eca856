use Rattle.std.proofs.Common.{rules, arith, ◌≡◌, ◌<◌, ℕ, length, nat_le, false}
use Rattle.std.proofs.lemmas.Bool.Decides.{nat_tests}
use Rattle.strand_base.proofs.LinesAndWords.{none_passes}
use Rattle.strand_image.proofs.SymbolBytes.{names_bound}
use Rattle.strand_image.proofs.image.kept_image.Goals as goal

below : (m n : ℕ) → nat_le m n ≡ false → n < m
below m n e = grind (arith, nat_tests)

pub invariant_of-result : goal.invariant_of-result
invariant_of-result c =
    let stand = c.count_before_fault-kept.ensures.stand (omega arith) in
    let bound = rw c.deref-2.ensures.value at (names_bound c.deref-2.result.now (λ k d lt. stand.labels k d lt)) in
    record {
      limits = c.requires;
      names = (omega arith, omega arith);
      entries = λ core here. below _ _ (none_passes (λ entry. nat_le (length c.args.code.items) entry) c.args.entries.items (search rules) core here);
      symbols = search rules;
      entry_numbers = λ k here. omega arith;
      code_numbers = λ k here. omega arith;
      volatile_numbers = λ k here. omega arith;
      persistent_numbers = λ k here. omega arith;
    }
