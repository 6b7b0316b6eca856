use Rattle.std.proofs.Common.{◌≡◌, ◌++◌, map}
use Rattle.strand_isa.specs.Word.{instr_word}
use Rattle.strand_gen.specs.Draws.{draw_list}
use Rattle.strand_gen.specs.Program.{instruction}
use Rattle.strand_gen.proofs.program.push_drawn.Given as goal

abbrev pub invariant-loop : goal.invariant-loop
invariant-loop l =
    (l.code.items ≡ l.fn.code.items ++ map instr_word (draw_list l.counter instruction l.fn.draws.state).0) × (l.draws.state ≡ (draw_list l.counter instruction l.fn.draws.state).1)
