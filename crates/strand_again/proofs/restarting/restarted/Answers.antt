use Rattle.std.proofs.Common.{arith}
use Rattle.strand_again.proofs.Restarted.{restarted_is}
use Rattle.strand_again.proofs.restarting.restarted.Goals as goal

pub invariant_of-result : goal.invariant_of-result
invariant_of-result c =
    rw (c.in_ok-from_slice.ensures.items, c.entries.ensures.entries, c.in_ok-from_slice-2.ensures.items, c.code.ensures.code, c.in_ok-from_slice-3.ensures.items, c.volatile.ensures.volatile, c.in_ok-from_slice-4.ensures.items, c.new.ensures.items)
    (restarted_is c.args.image.now c.args.words.now c.entries.ensures.keeps c.requires (λ k within. omega (arith, c.type_inv.words k)))
