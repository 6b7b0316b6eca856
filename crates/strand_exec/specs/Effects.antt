-- What every effect keeps to: its register is one of the 32, and its access was tried.
use Rattle.std.specs.Prelude.{◌≡◌, ◌%◌, ◌<◌}
use Rattle.strand_exec.specs.declared.effect.Effect.{Effect}
use Rattle.strand_exec.specs.declared.effect.Effect.TheVariants.{Write, Jump, LoadFrom, StoreTo}
use Rattle.strand_exec.specs.Arith.{load_bytes, store_bytes}
use Rattle.strand_exec.specs.Core.{Extents}
use Rattle.strand_exec.specs.Plan.{IsData}

-- the register that an effect writes is one of the 32
abbrev pub HasRegister : Effect → Type 0
HasRegister (Write rd value) = rd < 32
HasRegister (Jump rd link target) = rd < 32
HasRegister (LoadFrom op rd address) = rd < 32
HasRegister _ = Unit {0}

-- the access of an effect is aligned to its size and inside the data words
abbrev pub IsAligned : Extents → Effect → Type 0
IsAligned extents (LoadFrom op rd address) = (address % load_bytes op ≡ 0) × IsData extents address
IsAligned extents (StoreTo op address value) = (address % store_bytes op ≡ 0) × IsData extents address
IsAligned extents _ = Unit {0}
