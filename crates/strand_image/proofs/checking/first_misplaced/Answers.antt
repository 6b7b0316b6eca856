use Rattle.std.proofs.Common.{◌≡◌, rules, true, sym, ◌∙◌, get_or, IsTrue}
use borrow.Author.Count.{below_more}
use Rattle.strand_base.specs.Name.{is_label}
use Rattle.strand_image.specs.Checking.{stands_in_turn}
use Rattle.strand_image.proofs.checking.first_misplaced.Goals as goal

pub loop-k-preserved : goal.loop-k-preserved
loop-k-preserved c =
    let passed : c.stands_in_turn.result ≡ true = search rules in
    record {
      placed = λ j d lt. below_more (λ i. stands_in_turn c.args.sizes c.args.symbols.now i d ≡ true) c.loop-k.k (λ i h. c.loop-k.invariant.placed i d h) (sym (c.stands_in_turn.ensures.gives d) ∙ passed) j lt;
      labels = λ j d lt. below_more (λ i. IsTrue (is_label (get_or c.args.symbols.now i d).name)) c.loop-k.k (λ i h. c.loop-k.invariant.labels i d h) (c.stands_in_turn.ensures.label d) j lt;
    }
