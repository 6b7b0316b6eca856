-- Serves Pipeline::retire: a machine after a core retired its instruction, with its memory and without.
use Rattle.std.proofs.Common.{◌≡◌, ℕ, get_or, refl, sym, ap, subst, ◌∙◌}
use Rattle.std.specs.Prelude.{Some, slice_get, slice_set}
use Rattle.std.specs.declared.option.Option.{Option}
use Rattle.std.proofs.lemmas.Option.{get_or_from_slice_get}
use Rattle.strand_exec.specs.Core.{Core}
use Rattle.strand_exec.specs.Memory.{Memory}
use Rattle.strand_exec.specs.Plan.{plan_of, finished, asked, after}
use Rattle.strand_exec.specs.declared.effect.Effect.{Effect}
use Rattle.strand_exec.specs.declared.planned.Plan.{Plan}
use Rattle.strand_exec.specs.declared.life.Life.TheVariants.{Running}
use Rattle.strand_events.specs.declared.event.Event.{Event}
use Rattle.strand_rules.specs.Visible.{Program, Visible, loaded, event_of, memory_after, acted, retire}
use Rattle.strand_rules.specs.Cycle.{core_after, IsReached}
use Rattle.strand_rules.specs.Machine.{Machine, NextEffect, made_to}
use Rattle.strand_rules.specs.Pipeline.{IsReachedWithSome, cores_after, retired_to, state_with, with_memory}

-- what a core that runs retires
retire_running : (p : Program) (v : Visible) (n : ℕ) (core : Core) → slice_get v.cores n ≡ Some core → core.life ≡ Running
    → retire p v n ≡ acted p v n core (plan_of core p.code p.sizes)
unfolding retire
retire_running p v n core there running = rw (there, running) refl

-- the core that runs takes the effect
pub core_moved : (m : Machine) (n : ℕ) (effect : Effect) (core : Core) (loaded : ℕ) → NextEffect m n effect → core ≡ get_or m.state.now.cores n core
    → slice_set m.state.now.cores n (after core loaded effect) ≡ cores_after m.state.now.cores n (slice_get m.state.now.cores n) loaded effect
core_moved m n effect core loaded runs found =
    let same : core ≡ runs.core = found ∙ get_or_from_slice_get m.state.now.cores n runs.core core runs.there in
    rw (runs.there, same) refl

-- beside the memory in which the instruction makes this event and loads this word, the machine goes on by the rules
pub retires : (memory : Memory) (m : Machine) (n : ℕ) (effect : Effect) (p : Plan) (e : Option Event) (word : ℕ) → NextEffect m n effect
    → p ≡ asked effect → e ≡ event_of n memory p → word ≡ loaded memory p
    → with_memory (memory_after memory p) (made_to m (retired_to m.state n effect e word))
    ≡ made_to (with_memory memory m) (core_after m.program (state_with memory m.state) n e)
unfolding plan_of finished
retires memory m n effect p e word runs planned made found =
    rw (retire_running m.program (state_with memory m.state).now n runs.core runs.there runs.running, runs.there, made, found, planned, runs.effect_is) refl

module _ (memory : Memory) (m : Machine) (n : ℕ) (effect : Effect) (p : Plan) (e : Option Event) (word : ℕ) (runs : NextEffect m n effect)
    (planned : p ≡ asked effect) (made : e ≡ event_of n memory p) (found : word ≡ loaded memory p) where
  -- so a run reaches the state after it, with some memory
  pub retired_reached : IsReached m.config m.program (core_after m.program (state_with memory m.state) n e) → IsReachedWithSome m.config m.program (retired_to m.state n effect e word)
  retired_reached reached =
      (memory_after memory p, subst (λ (new : Machine). IsReached m.config m.program new.state) (sym (retires memory m n effect p e word runs planned made found)) reached)

  -- and so do a machine and a memory that stand apart
  pub retired_with : (memory' : Memory) (m' : Machine) → memory' ≡ memory_after memory p → m' ≡ made_to m (retired_to m.state n effect e word)
      → with_memory memory' m' ≡ made_to (with_memory memory m) (core_after m.program (state_with memory m.state) n e)
  retired_with memory' m' acted same =
      ap (with_memory memory') same ∙ ap (λ memory. with_memory memory (made_to m (retired_to m.state n effect e word))) acted
      ∙ retires memory m n effect p e word runs planned made found
