-- The tags of the fields.
use Rattle.strand_tags.specs.declared.tags.Tags.TheInside.{Inside}
use Rattle.strand_tags.specs.TagsSeen.{TagsSeen}

abbrev pub seen : Inside → TagsSeen
seen t = record {
  extents = t.sizes;
  strands = t.strands.items;
  made = t.made.items;
  stores = t.stores.items;
  accesses = t.accesses.items;
  store_waits = t.store_waits.items;
  access_waits = t.access_waits.items;
}
