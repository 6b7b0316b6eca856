-- One more word is there.
use Rattle.std.proofs.Common.{◌+◌, ◌*◌, ◌++◌, ◌∷◌, [], sym, ap, ◌∙◌, arith}
use Rattle.std.specs.Prelude.{map}
use Rattle.std.specs.List.{range_with_len}
use Rattle.std.proofs.lemmas.List.FromFn.{map-range_with_len_more}
use Rattle.strand_exec.specs.Memory.{word_in}
use Rattle.strand_cache.proofs.hierarchy.Hierarchy.region.Goals as goal

pub word-requires : goal.word-requires
word-requires c = c.requires.words c.loop-i.i c.loop-i-test.true

pub loop-i-preserved : goal.loop-i-preserved
loop-i-preserved c =
    c.in_ok-push.ensures.items ∙ ap (λ xs. xs ++ c.word.result ∷ []) c.loop-i.invariant ∙
    ap (λ x. map (λ i. word_in c.args.self.now.memory (c.args.base + 8 * i)) (range_with_len 0 c.loop-i.i) ++ x ∷ []) c.word.ensures ∙
    sym (map-range_with_len_more (λ i. word_in c.args.self.now.memory (c.args.base + 8 * i)) 0 c.loop-i.i c.loop-i.i (omega arith))
