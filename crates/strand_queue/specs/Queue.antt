-- A persist queue, as contracts see it.
use Rattle.std.specs.Prelude.{ℕ, List}
use Rattle.strand_queue.specs.declared.item.Item.{Item}

pub record Queue : Type 0 where
  -- the items that wait, the oldest first
  pub items : List Item
  -- how many may wait
  pub depth : ℕ

abbrev pub queue : List Item → ℕ → Queue
queue items depth = record { items = items; depth = depth }
