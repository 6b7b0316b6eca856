-- One instruction of a running core: the access, order, output, halt or trap that it makes, and the core after it.
use Rattle.std.specs.Prelude.{◌≡◌, ℕ, ◌+◌, ◌-◌, ◌*◌, ◌/◌, ◌%◌, ◌^◌, ◌<◌, ◌≤◌, ◌==◌, ◌&&◌, ◌||◌, ◌⊎◌, nat_le, nat_lt, Bool, List, slice_get, Option, Some, None, if◌then◌else◌}
use Rattle.strand_base.specs.declared.regions.TheConstants.{CODE_BASE, VOLATILE_BASE, PERSISTENT_BASE}
use Rattle.strand_isa.specs.declared.instr.Instr.{Instr}
use Rattle.strand_isa.specs.declared.ops.StoreOp.{StoreOp}
use Rattle.strand_isa.specs.Decode.{instr_of}
use Rattle.strand_exec.specs.declared.life.Life.TheVariants.{Halted}
use Rattle.strand_exec.specs.declared.life.Trap.TheVariants.{Fetch, Target, Illegal, Misaligned, Access, Call as CallTrap}
use Rattle.strand_exec.specs.declared.planned.Plan.{Plan}
use Rattle.strand_exec.specs.declared.planned.Plan.TheVariants.{Plain, Load, Store, Barrier as BarrierPlan, NewStrand, Join as JoinPlan, Out as OutPlan, Halt as HaltPlan, Trap as TrapPlan}
use Rattle.strand_exec.specs.declared.effect.Effect.{Effect}
use Rattle.strand_exec.specs.declared.effect.Effect.TheVariants.{Write, Jump, Goto, LoadFrom, StoreTo, Barrier, BeginStrand, Join, Call, Out, Halt, Traps}
use Rattle.strand_exec.specs.Arith.{load_bytes, load_value, merged, store_bytes, with_bits}
use Rattle.strand_exec.specs.Core.{Core, Extents, moved_to, next_pc, trapped, with_reg}
use Rattle.strand_exec.specs.Table.{row}

-- the code word at a pc
abbrev pub fetched : List ℕ → ℕ → Option ℕ
fetched code pc =
    if nat_le CODE_BASE pc && (pc % 4 == 0) then slice_get code ((pc - CODE_BASE) / 4) else None

-- an address inside `count` words of eight bytes from `base` on
abbrev pub is_in : ℕ → ℕ → ℕ → Bool
is_in base count address = nat_le base address && nat_lt address (base + 8 * count)

-- an address inside the volatile words or the persistent words
abbrev pub is_data : Extents → ℕ → Bool
is_data extents address = is_in VOLATILE_BASE extents.volatile address || is_in PERSISTENT_BASE extents.persistent address

-- an access of `size` bytes: first its alignment is tried, then its place
abbrev pub accessing : Extents → ℕ → ℕ → Effect → Effect
accessing extents size address effect =
    if address % size == 0 then
    if is_data extents address then effect else Traps (Access address) else Traps (Misaligned address)

-- a jump to a place, which is to be a multiple of 4
abbrev pub jumping : ℕ → Effect → Effect
jumping target effect = if target % 4 == 0 then effect else Traps (Target target)

-- an effect once the traps of its jump, its access or its call were tried
abbrev pub trapping : Extents → Effect → Effect
trapping extents (Jump rd link target) = jumping target (Jump rd link target)
trapping extents (Goto target) = jumping target (Goto target)
trapping extents (LoadFrom op rd address) = accessing extents (load_bytes op) address (LoadFrom op rd address)
trapping extents (StoreTo op address value) = accessing extents (store_bytes op) address (StoreTo op address value)
trapping extents (Call number value) =
    if number == 0 then Halt else if number == 1 then Out value else Traps (CallTrap number)
trapping extents effect = effect

abbrev pub effect_of_instr : Core → Extents → Option Instr → Effect
effect_of_instr core extents None = Traps Illegal
effect_of_instr core extents (Some i) = trapping extents (row core i)

abbrev pub effect_of_word : Core → Extents → Option ℕ → Effect
effect_of_word core extents None = Traps Fetch
effect_of_word core extents (Some word) = effect_of_instr core extents (instr_of word)

-- the effect of the instruction at pc, with all traps
unfoldable pub effect_of : Core → List ℕ → Extents → Effect
effect_of core code extents = effect_of_word core extents (fetched code core.pc)

-- the bits that a store replaces in the word that holds its bytes
abbrev pub store_mask : StoreOp → ℕ → ℕ
store_mask op address = (2 ^ (8 * store_bytes op) - 1) * 2 ^ (8 * (address % 8))

-- the low bytes of a value at the place of a store in its word
abbrev pub store_bits : StoreOp → ℕ → ℕ → ℕ
store_bits op address value = value % 2 ^ (8 * store_bytes op) * 2 ^ (8 * (address % 8))

-- what an effect asks of the world
abbrev pub asked : Effect → Plan
asked (LoadFrom op rd address) = Load (address / 8 * 8)
asked (StoreTo op address value) = Store (address / 8 * 8) (store_mask op address) (store_bits op address value)
asked Barrier = BarrierPlan
asked BeginStrand = NewStrand
asked Join = JoinPlan
asked (Out value) = OutPlan value
asked Halt = HaltPlan
asked (Traps trap) = TrapPlan trap
asked _ = Plain

-- the core after an effect, where `loaded` is the word at the access of a load
abbrev pub after : Core → ℕ → Effect → Core
after core loaded (Write rd value) = moved_to (next_pc core) (with_reg rd value core)
after core loaded (Jump rd link target) = moved_to target (with_reg rd link core)
after core loaded (Goto target) = moved_to target core
after core loaded (LoadFrom op rd address) =
    moved_to (next_pc core) (with_reg rd (load_value op loaded (address % 8)) core)
after core loaded Halt = record core { life = Halted }
after core loaded (Traps trap) = trapped trap core
after core loaded _ = moved_to (next_pc core) core

-- what the next instruction of a running core asks of the world
unfoldable pub plan_of : Core → List ℕ → Extents → Plan
plan_of core code extents = asked (effect_of core code extents)

-- the core after its next instruction, where `loaded` is the word at the access of a load
unfoldable pub finished : Core → List ℕ → Extents → ℕ → Core
finished core code extents loaded = after core loaded (effect_of core code extents)

-- an address inside the volatile words or the persistent words
abbrev pub IsData : Extents → ℕ → Type 0
IsData extents address =
    ((VOLATILE_BASE ≤ address) × (address < VOLATILE_BASE + 8 * extents.volatile)) ⊎ ((PERSISTENT_BASE ≤ address) × (address < PERSISTENT_BASE + 8 * extents.persistent))

-- the address of a data word
abbrev pub IsWord : Extents → ℕ → Type 0
IsWord extents word = (word % 8 ≡ 0) × IsData extents word

-- the word of an access is a data word, and what a store puts into it fits
abbrev pub IsPlaced : Extents → Plan → Type 0
IsPlaced extents (Load word) = IsWord extents word
IsPlaced extents (Store word mask bits) = IsWord extents word × (mask < 2 ^ 64) × (bits < 2 ^ 64)
IsPlaced extents _ = Unit {0}

-- a store leaves any word with the low bytes of its value at their place, and its other bytes as they were
abbrev pub IsStored : Effect → Plan → Type 0
IsStored (StoreTo op address value) (Store word mask bits) =
    (old : ℕ) → old < 2 ^ 64 → merged old mask bits ≡ with_bits (8 * store_bytes op) (8 * (address % 8)) value old
IsStored _ _ = Unit {0}
