use Rattle.std.proofs.Common.{ap, ◌∙◌}
use Rattle.strand_isa.specs.Decode.{instr_of}
use Rattle.strand_isa.proofs.DecodeEncode.{read_back}
use Rattle.strand_isa.proofs.encoding.encode.Goals as goal

-- a word is read back as its instruction
pub returns-clause-back : goal.returns-clause-back
returns-clause-back c = ap instr_of c.placed.ensures ∙ read_back c.args.i.now c.requires
