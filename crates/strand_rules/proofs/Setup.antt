-- Serves clause setup of PlainMachine::step and Machine::step: what no step of a core changes.
use Rattle.std.proofs.Common.{◌≡◌, ℕ, length, refl, length-set}
use Rattle.std.specs.Prelude.{slice_get, Some, None}
use Rattle.std.specs.declared.option.Option.{Option}
use Rattle.strand_inputs.specs.declared.step.Step.TheVariants.{Core}
use Rattle.strand_exec.specs.Core as cores
use Rattle.strand_exec.specs.declared.planned.Plan.{Plan}
use Rattle.strand_rules.specs.declared.turn.Turn.{Turn}
use Rattle.strand_rules.specs.declared.turn.Turn.TheVariants.{Done, Bubble, Fault}
use Rattle.strand_rules.specs.Visible.{Program, Visible, plan_by, moved_by, moved_in, retire}
use Rattle.strand_modules.specs.Bank.{BankSeen}
use Rattle.strand_rules.specs.Cycle.{State, turn, done_after, after_turn}
use Rattle.strand_rules.specs.Machine.{Machine, stepped, SameSetup}

moved_cores : (p : Program) (v : Visible) (n : ℕ) (core : cores.Core) (plan : Option Plan) → length (moved_by p v n core plan).cores ≡ length v.cores
moved_cores p v n core None = refl
moved_cores p v n core (Some _) = length-set _ _ _

found_cores : (p : Program) (v : Visible) (n : ℕ) (core : Option cores.Core) → length (moved_in p v n core).cores ≡ length v.cores
found_cores p v n None = refl
found_cores p v n (Some core) = moved_cores p v n core (plan_by p core core.life)

pub retired_cores : (p : Program) (v : Visible) (n : ℕ) → length (retire p v n).cores ≡ length v.cores
unfolding retire
retired_cores p v n = found_cores p v n (slice_get v.cores n)

turned_cores : (t : Turn) (old new : State) → length new.now.cores ≡ length old.now.cores → length (after_turn t old new).now.cores ≡ length old.now.cores
turned_cores Done old new same = same
turned_cores (Bubble cause) old new same = refl
turned_cores (Fault m) old new same = refl

pub core_setup : (old new : Machine) (bank : BankSeen) (n : ℕ) → new ≡ stepped old (Core n) → SameSetup old new bank bank
core_setup old new bank n same = record {
  config = rw same refl;
  program = rw same refl;
  steps = rw same refl;
  cores = rw same (turned_cores (turn old.config old.program old.state (Core n)) old.state (done_after old.config old.program old.state (Core n)) (retired_cores old.program old.state.now n));
  size = refl;
}
