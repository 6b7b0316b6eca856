use Rattle.std.proofs.Common.{arith}
use Rattle.strand_rules.proofs.Front.{number_most}
use Rattle.strand_rules.proofs.Fields.{few_events}
use Rattle.strand_rules.proofs.pipeline.Pipeline.next_busy.Goals as goal

pub overflow_add-strand_of : goal.overflow_add-strand_of
overflow_add-strand_of c =
    let m = c.args.self.now in
    omega (arith, c.strand_of.ensures, number_most m.config.mode m.state.now.trace c.args.k, c.requires.within, few_events m c.keeps.ensures.kept)
