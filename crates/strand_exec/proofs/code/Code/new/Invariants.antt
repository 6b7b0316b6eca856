use Rattle.std.proofs.Common.{take}
use Rattle.strand_exec.specs.Decoded.{AreDecoded}
use Rattle.strand_exec.proofs.code.Code.new.Given as goal

abbrev pub invariant-loop-word : goal.invariant-loop-word
invariant-loop-word l = AreDecoded (take l.word-index l.words) l.instrs.items
