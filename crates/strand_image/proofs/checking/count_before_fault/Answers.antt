use Rattle.strand_image.proofs.Rules.{first_broken, all_stand}
use Rattle.strand_image.proofs.checking.count_before_fault.Goals as goal

pub returns : goal.returns
returns c = record {
  gives = first_broken c.args.sizes c.args.symbols.now c.first_misplaced-placed.result c.first_repeated.result c.first_misplaced-placed.ensures c.first_repeated.ensures;
  stand = λ le. all_stand c.args.sizes c.args.symbols.now c.first_misplaced-placed.result c.first_repeated.result c.first_misplaced-placed.ensures c.first_repeated.ensures le;
}
