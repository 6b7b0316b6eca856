use Rattle.std.proofs.Common.{◌≡◌, ◌++◌}
use Rattle.strand_report.specs.Words.{word_line}
use Rattle.strand_report.proofs.NumberedLoop.{numbered_so_far}
use Rattle.strand_report.proofs.words.put_words.Given as goal

abbrev pub invariant-loop-place : goal.invariant-loop-place
invariant-loop-place l = l.into.items ≡ l.fn.into.items ++ numbered_so_far (word_line l.name l.base) l.place l.words
