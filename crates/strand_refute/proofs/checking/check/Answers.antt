use Rattle.strand_judge.specs.Words.{crash_of}
use Rattle.strand_refute.proofs.Checks.Sound.{checks_refute}
use Rattle.strand_refute.proofs.checking.check.Goals as goal

pub returns-clause-accepted : goal.returns-clause-accepted
returns-clause-accepted c = checks_refute c.args.mode c.args.trace.now.events (crash_of c.args.initial.now c.args.crash.now) c.args.c.now c.check_lines.result c.check_lines.ensures
