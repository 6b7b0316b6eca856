use Rattle.std.proofs.Common.{ap, sym, ◌∙◌}
use Rattle.strand_isa.specs.Decode.{instr_of}
use Rattle.strand_isa.proofs.DecodeEncode.{read_back}
use Rattle.strand_isa.proofs.decoding.decode.Goals as goal

pub returns-clause-every : goal.returns-clause-every
returns-clause-every c = λ i v e. c.read.ensures.value ∙ ap instr_of (sym e) ∙ read_back i v
