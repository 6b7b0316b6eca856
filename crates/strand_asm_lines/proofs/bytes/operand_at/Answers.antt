use Rattle.std.proofs.Common.{add-one, sym, ◌∙◌}
use Rattle.strand_asm_lines.specs.Bytes.{pieces}
use Rattle.strand_asm_lines.proofs.Pieces.{get_past, drop_more}
use Rattle.strand_asm_lines.proofs.bytes.operand_at.Goals as goal

pub returns-in-None : goal.returns-in-None
returns-in-None c = sym (get_past (pieces 44 c.args.text.now) c.loop.counter c.args.place c.loop.rest.now (c.loop.invariant ∙ c.in-None.ensures.pieces) c.loop-test.true)

pub loop-preserved : goal.loop-preserved
loop-preserved c = rw add-one (drop_more (pieces 44 c.args.text.now) c.loop.counter _ _ (c.loop.invariant ∙ c.in-Some.ensures.pieces))
