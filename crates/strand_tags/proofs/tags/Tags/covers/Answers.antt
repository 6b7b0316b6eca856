use Rattle.std.proofs.Common.{◌∙◌, ap, List, ℕ, refl, arith, rules}
use Rattle.std.specs.Prelude.{slice_index}
use Rattle.std.proofs.lemmas.List.{length-set}
use Rattle.strand_tags.specs.Access.{access}
use Rattle.strand_tags.proofs.StandFor.{one_answer}
use Rattle.strand_tags.proofs.tags.Tags.covers.Goals as goal

pub loop-c-init : goal.loop-c-init
loop-c-init c = record {
  size = search rules;
  below = λ k lt. absurd (omega (arith, lt));
  above = λ k le. ap (λ (w : List ℕ). slice_index w k) (c.conflicting_wait.ensures (access c.args.core c.args.strand c.args.word c.args.write) refl refl);
}

pub loop-c-preserved : goal.loop-c-preserved
loop-c-preserved c =
    let both = one_answer c.args.self.now (access c.args.core c.args.strand c.args.word c.args.write) c.loop-c.counts c.loop-c.c (omega (arith, c.loop-c-test.true, c.len-c-end.ensures, c.self.invariant.few, c.loop-c.invariant.size)) c.loop-c.invariant.below c.loop-c.invariant.above in
    rw (c.max.ensures, c.made_opposing.ensures) (record { size = length-set c.loop-c.counts c.loop-c.c _ ∙ c.loop-c.invariant.size; below = both.0; above = both.1 })
