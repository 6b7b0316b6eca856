use Rattle.std.proofs.lemmas.List.{append-nil}
use Rattle.strand_asm.proofs.ListText.{no_space, some_space}
use Rattle.strand_asm.proofs.data_lines.put_space.Goals as goal

pub returns-then-zeros-eq0 : goal.returns-then-zeros-eq0
returns-then-zeros-eq0 c = rw (no_space c.args.zeros c.if-zeros-eq0.true, append-nil c.args.into.now.items)

pub returns-else-zeros-eq0 : goal.returns-else-zeros-eq0
returns-else-zeros-eq0 c = rw (some_space c.args.zeros c.if-zeros-eq0.false) c.put_number_line.ensures
