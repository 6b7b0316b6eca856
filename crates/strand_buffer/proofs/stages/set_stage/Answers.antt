use Rattle.std.proofs.Common.{◌<◌, length, ap, ◌∙◌, arith}
use Rattle.std.specs.Prelude.{slice_set}
use Rattle.std.proofs.lemmas.List.{length-set}
use Rattle.std.proofs.lemmas.List.Edits.{map_over_more}
use Rattle.strand_buffer.specs.Buffers.{with_stage}
use Rattle.strand_buffer.proofs.stages.set_stage.Goals as goal

pub loop-i-preserved : goal.loop-i-preserved
loop-i-preserved c =
    let f = with_stage c.args.stage c.args.number in
    let inside : c.loop-i.i < length c.args.entries.now.items = omega (arith, c.loop-i-test.true, c.len-i-end.ensures) in
    let more = map_over_more f c.args.entries.now.items c.loop-i.entries.items c.loop-i.i c.index.result.now inside c.loop-i.invariant.front c.index.ensures in
    record {
      front = ap (slice_set c.loop-i.entries.items c.loop-i.i) c.staged.ensures ∙ more;
      size = length-set c.loop-i.entries.items c.loop-i.i c.staged.result ∙ c.loop-i.invariant.size;
      room = c.loop-i.invariant.room;
    }
