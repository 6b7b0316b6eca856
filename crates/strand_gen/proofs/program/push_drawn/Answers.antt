use Rattle.std.proofs.Common.{ℕ, List, [], ◌∷◌, ◌++◌, refl, sym, ap, ◌∙◌}
use Rattle.std.proofs.lemmas.List.{append-nil}
use Rattle.strand_isa.specs.declared.instr.Instr.{Instr}
use Rattle.strand_isa.specs.Word.{instr_word}
use Rattle.strand_gen.specs.Draws.{draw_list}
use Rattle.strand_gen.specs.Program.{instruction}
use Rattle.strand_gen.proofs.DrawList.{one_more, one_word_more}
use Rattle.strand_gen.proofs.program.push_drawn.Goals as goal

pub loop-init : goal.loop-init
unfolding draw_list
loop-init c = (sym (append-nil _), refl)

pub loop-preserved : goal.loop-preserved
loop-preserved c =
    let x = c.args.draws.now.state in
    let so_far = c.loop.invariant in
    let drawn = c.instruction.ensures.drawn in
    let state = c.loop.draws.state in
    let after = c.instruction.new.draws.state in
    let pushed = c.in_ok-push.ensures.items ∙ ap (λ (word : ℕ). c.loop.code.items ++ word ∷ []) c.encode.ensures.word in
    let more = one_more c.loop.counter instruction x state c.instruction.result after so_far.1 drawn in (
      pushed ∙ one_word_more instr_word c.args.code.now.items c.loop.code.items c.loop.counter instruction x state c.instruction.result after so_far.0 so_far.1 drawn,
      sym (ap (λ (list : List Instr × ℕ). list.1) more),
    )
