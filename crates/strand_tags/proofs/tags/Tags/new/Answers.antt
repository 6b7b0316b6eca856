use Rattle.strand_tags.specs.Kept.{seen}
use Rattle.strand_tags.proofs.StandFor.{stand_fresh}
use Rattle.strand_tags.proofs.tags.Tags.new.Goals as goal

pub returns-clause-stands : goal.returns-clause-stands
returns-clause-stands c = stand_fresh (seen record {
  sizes = c.args.sizes;
  strands = c.in_ok-zeros.field-0;
  made = c.in_ok-zeros-2.field-0;
  stores = c.in_ok-no_tags.field-0;
  accesses = c.in_ok-no_tags-2.field-0;
  store_waits = c.in_ok-no_waits.field-0;
  access_waits = c.in_ok-no_waits-2.field-0;
}) _ _ c.in_ok-no_tags.ensures c.in_ok-no_tags-2.ensures c.in_ok-no_waits.ensures c.in_ok-no_waits-2.ensures
