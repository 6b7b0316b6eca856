-- A core: its pc, its 32 registers, and whether it runs.
use Rattle.std.specs.Prelude.{ℕ, ◌+◌, ◌*◌, ◌%◌, ◌^◌, ◌==◌, List, replicate, slice_index, slice_set, if◌then◌else◌}
use Rattle.strand_base.specs.declared.regions.TheConstants.{CODE_BASE}
use Rattle.strand_exec.specs.declared.life.Life.{Life}
use Rattle.strand_exec.specs.declared.life.Life.TheVariants.{Running, Trapped}
use Rattle.strand_exec.specs.declared.life.Trap.{Trap}

pub record Core : Type 0 where
  pub pc : ℕ
  pub regs : List ℕ
  pub life : Life

-- how many words the volatile and the persistent region have
pub record Extents : Type 0 where
  pub volatile : ℕ
  pub persistent : ℕ

-- a core that begins at a code word
unfoldable pub fresh : ℕ → Core
fresh entry = record { pc = CODE_BASE + 4 * entry; regs = replicate 32 0; life = Running }

-- the value of a register
abbrev pub reg : Core → ℕ → ℕ
reg core r = slice_index core.regs r

-- a write to a register; one to x0 is dropped
abbrev pub with_reg : ℕ → ℕ → Core → Core
with_reg rd value core = if rd == 0 then core else record core { regs = slice_set core.regs rd value }

-- the place after an instruction that does not jump
abbrev pub next_pc : Core → ℕ
next_pc core = (core.pc + 4) % 2 ^ 64

-- the core at another place
abbrev pub moved_to : ℕ → Core → Core
moved_to pc core = record core { pc = pc }

-- a core that a trap has ended, as it was before the instruction
abbrev pub trapped : Trap → Core → Core
trapped trap core = record core { life = Trapped trap }
