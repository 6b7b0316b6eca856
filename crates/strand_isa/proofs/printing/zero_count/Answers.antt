use Rattle.std.specs.Prelude.{not, ◌==◌}
use Rattle.strand_base.proofs.LinesAndWords.{first_place}
use Rattle.strand_isa.proofs.ZeroCount.{no_place}
use Rattle.strand_isa.proofs.printing.zero_count.Goals as goal

pub returns-in-Some : goal.returns-in-Some
returns-in-Some c = first_place (λ d. not (d == 48)) c.args.digits.now _ c.in-Some.ensures

pub returns-in-None : goal.returns-in-None
returns-in-None c = no_place (λ d. not (d == 48)) c.args.digits.now c.in-None.ensures
