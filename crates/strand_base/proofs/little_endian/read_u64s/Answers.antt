use Rattle.std.proofs.Common.{refl, sym, ◌∙◌}
use Rattle.strand_base.specs.LittleEndian.{u64_of}
use Rattle.strand_base.proofs.LittleEndian.{numbers_more, no_numbers}
use Rattle.strand_base.proofs.little_endian.read_u64s.Goals as goal

pub loop-k-init : goal.loop-k-init
loop-k-init c = c.in_ok-numbers.ensures.items ∙ sym (no_numbers u64_of 8 c.args.bytes.now)

pub loop-k-preserved : goal.loop-k-preserved
loop-k-preserved c = rw (numbers_more u64_of 8 c.loop-k.k c.args.bytes.now, c.in_ok-push.ensures.items, c.loop-k.invariant, c.u64_at.ensures) refl
