-- Where a persistent word stands among the persistent words, and the address of the word at a place.
use Rattle.std.specs.Prelude.{ℕ, ◌+◌, ◌-◌, ◌*◌, ◌/◌}
use Rattle.strand_base.specs.declared.regions.TheConstants.{PERSISTENT_BASE}

abbrev pub persistent_place : ℕ → ℕ
persistent_place word = (word - PERSISTENT_BASE) / 8

abbrev pub address_of : ℕ → ℕ
address_of place = PERSISTENT_BASE + 8 * place
