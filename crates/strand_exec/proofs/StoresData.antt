-- Serves clause placed of Pipeline::trace: an instruction stores in a data word alone.
use Rattle.std.proofs.Common.{◌≡◌, ℕ, ◌+◌, ◌*◌, ◌/◌, ◌<◌, ◌≤◌, Bool, true, false, inl, inr, List, arith}
use Rattle.std.specs.Prelude.{Some, None, Option, if◌then◌else◌, ◌==◌, ◌%◌}
use Rattle.std.proofs.lemmas.Bool.{and_parts, or_cases, cases_Bool, leb-true, ltb-true}
use Rattle.strand_base.specs.declared.regions.TheConstants.{VOLATILE_BASE, PERSISTENT_BASE}
use Rattle.strand_isa.specs.declared.instr.Instr.{Instr}
use Rattle.strand_isa.specs.Decode.{instr_of}
use Rattle.strand_exec.specs.Arith.{store_bytes, load_bytes}
use Rattle.strand_exec.specs.Core.{Core, Extents}
use Rattle.strand_exec.specs.Table.{row}
use Rattle.strand_exec.specs.Plan.{is_in, is_data, IsWord, trapping, effect_of_instr, effect_of_word, effect_of, fetched, asked, plan_of}
use Rattle.strand_exec.specs.declared.life.Trap.TheVariants as traps
use Rattle.strand_exec.specs.declared.effect.Effect.{Effect}
use Rattle.strand_exec.specs.declared.effect.Effect.TheVariants as effects
use Rattle.strand_exec.specs.declared.planned.Plan.{Plan}
use Rattle.strand_exec.specs.declared.planned.Plan.TheVariants as plans

-- the word of a store is a data word
abbrev pub StoresData : Extents → Plan → Type 0
StoresData x (plans.Store word mask bits) = IsWord x word
StoresData x _ = Unit {0}

in_region : (base count address : ℕ) → is_in base count address ≡ true → (base ≤ address) × (address < base + 8 * count)
in_region base count address h = let parts = and_parts _ _ h in (leb-true _ _ parts.0, ltb-true _ _ parts.1)

data_word : (x : Extents) (address : ℕ) → is_data x address ≡ true → IsWord x (address / 8 * 8)
data_word x address h = elim (or_cases (is_in VOLATILE_BASE x.volatile address) (is_in PERSISTENT_BASE x.persistent address) h) [
  | inl v ↦ let r = in_region VOLATILE_BASE x.volatile address v in (omega arith, inl (omega (arith, r.0), omega (arith, r.1)))
  | inr p ↦ let r = in_region PERSISTENT_BASE x.persistent address p in (omega arith, inr (omega (arith, r.0), omega (arith, r.1)))
]

either : (x : Extents) (b : Bool) (e other : Effect) → StoresData x (asked e) → StoresData x (asked other) → StoresData x (asked (if b then e else other))
either x true e other h h' = h
either x false e other h h' = h'

trapped_data : (x : Extents) (e : Effect) → StoresData x (asked (trapping x e))
trapped_data x (effects.StoreTo op address value) =
    either x (address % store_bytes op == 0) (if is_data x address then effects.StoreTo op address value else effects.Traps (traps.Access address)) (effects.Traps (traps.Misaligned address))
    (elim (cases_Bool (is_data x address)) [ inl yes_ ↦ rw yes_ (data_word x address yes_) | inr no_ ↦ rw no_ tt ]) tt
trapped_data x (effects.LoadFrom op rd address) =
    either x (address % load_bytes op == 0) (if is_data x address then effects.LoadFrom op rd address else effects.Traps (traps.Access address)) (effects.Traps (traps.Misaligned address))
    (either x (is_data x address) (effects.LoadFrom op rd address) (effects.Traps (traps.Access address)) tt tt) tt
trapped_data x (effects.Jump rd link target) = either x (target % 4 == 0) (effects.Jump rd link target) (effects.Traps (traps.Target target)) tt tt
trapped_data x (effects.Goto target) = either x (target % 4 == 0) (effects.Goto target) (effects.Traps (traps.Target target)) tt tt
trapped_data x (effects.Call number value) =
    either x (number == 0) effects.Halt (if number == 1 then effects.Out value else effects.Traps (traps.Call number)) tt
    (either x (number == 1) (effects.Out value) (effects.Traps (traps.Call number)) tt tt)
trapped_data x (effects.Write rd value) = tt
trapped_data x effects.Nothing = tt
trapped_data x effects.Barrier = tt
trapped_data x effects.BeginStrand = tt
trapped_data x effects.Join = tt
trapped_data x (effects.Out value) = tt
trapped_data x effects.Halt = tt
trapped_data x (effects.Traps trap) = tt

instr_data : (core : Core) (x : Extents) (i : Option Instr) → StoresData x (asked (effect_of_instr core x i))
instr_data core x None = tt
instr_data core x (Some i) = trapped_data x (row core i)

word_data : (core : Core) (x : Extents) (word : Option ℕ) → StoresData x (asked (effect_of_word core x word))
word_data core x None = tt
word_data core x (Some word) = instr_data core x (instr_of word)

pub plan_data : (core : Core) (code : List ℕ) (x : Extents) → StoresData x (plan_of core code x)
unfolding plan_of effect_of
plan_data core code x = word_data core x (fetched code core.pc)
