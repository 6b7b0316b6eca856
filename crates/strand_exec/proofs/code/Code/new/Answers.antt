use Rattle.std.proofs.Common.{◌≡◌, ◌∙◌, arith, sym, take, subst}
use Rattle.std.specs.Prelude.{ℕ, List}
use Rattle.std.proofs.lemmas.List.{take_all}
use Rattle.strand_exec.specs.Decoded.{AreDecoded}
use Rattle.strand_exec.proofs.CodeInvariant.{decoded_none, decoded_more}
use Rattle.strand_exec.proofs.code.Code.new.Goals as goal

pub loop-word-init : goal.loop-word-init
loop-word-init c = rw c.in_ok-instrs.ensures.items decoded_none

pub loop-word-preserved : goal.loop-word-preserved
loop-word-preserved c =
    rw c.in_ok-push.ensures.items
    (decoded_more c.args.words.now c.loop-word.instrs.items c.loop-word.word-index _ c.decode.result (omega arith) c.decode.ensures.value c.decode.ensures.valid c.loop-word.invariant)

pub invariant_of-result : goal.invariant_of-result
invariant_of-result c =
    let all : take c.loop-word.word-index c.args.words.now ≡ c.args.words.now = take_all c.loop-word.word-index c.args.words.now (omega arith) in
    subst (λ (words : List ℕ). AreDecoded words c.loop-word.instrs.items) (all ∙ sym (c.in_ok-to_vec.ensures.items_if_clones_equal (λ x y e. e))) c.loop-word.invariant
