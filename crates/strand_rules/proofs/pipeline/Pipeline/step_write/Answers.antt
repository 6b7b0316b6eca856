use Rattle.std.proofs.Common.{sym}
use Rattle.strand_rules.proofs.IsReached.{write_reached_with_some}
use Rattle.strand_rules.proofs.pipeline.Pipeline.step_write.Goals as goal

pub write-requires-clause-reached : goal.write-requires-clause-reached
write-requires-clause-reached g c =
    write_reached_with_some c.args.self.now c.args.j c.in-Some.p c.keeps.ensures.reached c.in-Some.ensures.request (sym c.if-older_waits.ensures)
