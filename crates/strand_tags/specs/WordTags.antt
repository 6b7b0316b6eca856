-- What is kept of the accesses of one core to one word: three numbers, however many they were.
use Rattle.std.specs.Prelude.{ℕ, max, ◌==◌, if◌then◌else◌}
use Rattle.strand_tags.specs.declared.word_tag.WordTag.{WordTag}

abbrev pub no_tag : WordTag
no_tag = record { strand = 0; latest = 0; earlier = 0 }

-- the greatest number of persists made at any of the accesses
abbrev pub whole : WordTag → ℕ
whole m = max m.latest m.earlier

-- the same without the accesses of a strand, which is none before the latest
abbrev pub without_strand : WordTag → ℕ → ℕ
without_strand m strand = if m.strand == strand then m.earlier else whole m

-- one access more, of a strand that is none before the latest
abbrev pub tag_after : WordTag → ℕ → ℕ → WordTag
tag_after m strand made = if m.strand == strand then record m { latest = max m.latest made } else record { strand = strand; latest = made; earlier = whole m }
