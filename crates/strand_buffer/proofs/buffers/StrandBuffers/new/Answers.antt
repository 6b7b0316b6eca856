use Rattle.std.proofs.Common.{◌≡◌, ◌∙◌, ap, arith, map, replicate, None}
use Rattle.strand_buffer.specs.Buffers.{Buffers}
use Rattle.strand_buffer.specs.KeptBuffers.{empty_ring, entries_of}
use Rattle.strand_buffer.proofs.OneRing.{empty_lists, with_lists}
use Rattle.strand_buffer.proofs.buffers.StrandBuffers.new.Goals as goal

pub returns : goal.returns
returns c =
    let all : c.loop-b.b ≡ c.args.buffers = omega (arith, c.loop-b-test.false, c.loop-b.auto.b-end) in
    let bs : Buffers = record { ring = c.args.ring; strand = 0; lists = map entries_of c.loop-b.rings.items; number = None; epoch = None } in
    with_lists bs _ _ (ap (map entries_of) (c.loop-b.invariant.rings ∙ ap (λ n. replicate n (empty_ring c.args.ring)) all) ∙ empty_lists c.args.buffers c.args.ring)
