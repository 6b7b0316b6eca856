use Rattle.std.proofs.Common.{◌∙◌, ◌+◌, ◌++◌, ◌∷◌, [], List, sym, ap, arith}
use Rattle.strand_rules.specs.declared.turn.BubbleAt.{BubbleAt}
use Rattle.strand_run.proofs.BubbleLists.{bubble_next, no_bubbles, other_next}
use Rattle.strand_run.proofs.bubbles.bubbles_of.Goals as goal
use Rattle.strand_run.proofs.bubbles.bubbles_of.Goals.{in-Bubble+in_ok-push, in_default}

pub loop-i-init : goal.loop-i-init
loop-i-init c = c.new-bubbles.ensures.items ∙ sym no_bubbles

pub loop-i-preserved : goal.loop-i-preserved
loop-i-preserved c =
    elim c.match-turn.branch [
      | in-Bubble+in_ok-push w ↦
          rw w.bubbles-is (w.in_ok-push.ensures.items ∙ ap (λ (bs : List BubbleAt). bs ++ record { cycle = c.loop-i.i + 1; cause = w.in-Bubble.cause } ∷ []) c.loop-i.invariant
          ∙ sym (bubble_next c.args.turns.now c.loop-i.i _ w.in-Bubble.cause (omega arith) w.in-Bubble.is))
      | in_default w ↦ rw (w.bubbles-is, c.loop-i.invariant) (sym (other_next c.args.turns.now c.loop-i.i _ (omega arith) w.in_default.not-Bubble))
    ]
