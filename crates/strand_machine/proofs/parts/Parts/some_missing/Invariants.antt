use Rattle.std.proofs.Common.{◌≡◌, false}
use Rattle.std.specs.Prelude.{nat_lt, slice_index}
use Rattle.strand_base.specs.Counting.{any_below}
use Rattle.strand_machine.specs.Stand.{tally_at}
use Rattle.strand_machine.proofs.parts.Parts.some_missing.Given as goal

abbrev pub invariant-loop-c : goal.invariant-loop-c
invariant-loop-c l = any_below l.c (λ c. nat_lt (tally_at l.self c).first (slice_index l.counts c)) ≡ false
