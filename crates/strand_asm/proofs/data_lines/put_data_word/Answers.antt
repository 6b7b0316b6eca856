use Rattle.std.proofs.Common.{sym}
use Rattle.std.proofs.lemmas.List.{append-nil}
use Rattle.strand_asm.proofs.ListText.{no_word}
use Rattle.strand_asm.proofs.data_lines.put_data_word.Goals as goal

pub returns-then-word-eq0-clause-text : goal.returns-then-word-eq0-clause-text
returns-then-word-eq0-clause-text c = rw (no_word c.args.zeros c.args.word c.if-word-eq0.true) (sym (append-nil _))
