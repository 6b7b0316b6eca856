-- What a run on a bank comes to, by its course.
use Rattle.std.specs.Prelude.{◌≡◌, ◌⊎◌, ℕ, ◌+◌, ◌%◌, ◌<◌, ◌≤◌, List, length, take, Some, None, IfSome}
use Rattle.std.specs.declared.option.Option.{Option}
use Rattle.strand_inputs.specs.declared.step.Step.{Step}
use Rattle.strand_report.specs.Report.{View}
use Rattle.strand_rules.specs.declared.turn.StepFault.{StepFault}
use Rattle.strand_modules.specs.Bank.{BankSeen, Keeps, front_written}
use Rattle.strand_rules.specs.Bubbles.{bubbles_of}
use Rattle.strand_rules.specs.Machine.{durable_persists}
use Rattle.strand_again.specs.declared.running.Ran.{Ran}
use Rattle.strand_again.specs.Inputs.{Inputs, writes_after}
use Rattle.strand_again.specs.Outcome.{IsStoreOf}
use Rattle.strand_again.specs.Seen.{Accepts, AreHeld, StandsAfter, StandsAfterSome}
use Rattle.strand_again.specs.Stepping.{steps_made}
use Rattle.strand_run.specs.declared.running.RunEnd.{RunEnd}
use Rattle.strand_run.specs.declared.running.RunEnd.TheVariants.{FillRefused, ReadRefused, Told}
use Rattle.strand_run.specs.Fault.{Course, fill, ran, ShownByBank}
use Rattle.strand_run.specs.Seen.{shown, view_after}

-- the courses that a run may take on a bank of so many modules: the store that is refused is that of a step which would be done
abbrev pub Allows : ℕ → Inputs → Course → Type 0
Allows count u (fill m) = m < count
Allows count u (ran store read) = IsStoreOf u count store × IfSome read (λ n. n < count)

-- The first n words of the image were stored, but not all.
abbrev pub FilledTo : Inputs → ℕ → BankSeen → BankSeen → Type 0
FilledTo u n before after = (n < length u.image.persistent) × (after.told ≡ front_written (take n u.image.persistent) before.told)

-- The bank was filled and the steps were made, and then so many words were read.
abbrev pub RanAndRead : Inputs → List Step → ℕ → BankSeen → BankSeen → Type 0
RanAndRead u steps count before after = StandsAfter u steps before after × Accepts (length u.image.persistent + writes_after u steps) count before after

-- The next word to read, number n, is of module m.
abbrev pub RanToRefusal : Inputs → List Step → ℕ → BankSeen → BankSeen → Type 0
RanToRefusal u steps m before after = (n : ℕ) × (n < length u.image.persistent) × (m ≡ n % before.modules) × RanAndRead u steps n before after

-- all words were read, or those up to the refusal
abbrev pub RanTo : Inputs → List Step → Option ℕ → BankSeen → BankSeen → Type 0
RanTo u steps None before after = RanAndRead u steps (length u.image.persistent) before after
RanTo u steps (Some m) before after = RanToRefusal u steps m before after

-- what stands in the bank, and how many calls its modules accepted
abbrev pub Leaves : Inputs → Course → BankSeen → BankSeen → Type 0
Leaves u (fill m) before after = (n : ℕ) × (m ≡ n % before.modules) × FilledTo u n before after × Accepts n 0 before after
Leaves u (ran store read) before after = RanTo u (steps_made store u.steps) read before after

-- Some first words of the image were stored, but not all.
abbrev pub PartFilled : Inputs → BankSeen → BankSeen → Type 0
PartFilled u before after = (n : ℕ) × FilledTo u n before after

-- The modules accepted no more calls than those of the fill, of all steps and of the read.
pub record AcceptsFew (u : Inputs) (before after : BankSeen) : Type 0 where
  pub stores : ℕ
  pub reads : ℕ
  pub few_stores : stores ≤ length u.image.persistent + writes_after u u.steps
  pub few_reads : reads ≤ length u.image.persistent
  pub accepts : Accepts stores reads before after

-- What may stand where no memory was left: the bank as at entry, filled in part, or as after some first steps.
pub record MayLeave (u : Inputs) (before after : BankSeen) : Type 0 where
  pub stands : (after.told ≡ before.told) ⊎ (PartFilled u before after ⊎ StandsAfterSome u before after)
  pub accepted : AcceptsFew u before after

-- what a report shows of a run
abbrev pub view_of : Ran → View
view_of r = shown r.machine.machine.config r.machine.machine.made r.machine.machine.state.now (bubbles_of r.turns) r.held (durable_persists r.machine.machine.state) r.fault

-- What is told of a run: the steps that were made, and the words that were read.
pub record TellsRun (u : Inputs) (before : BankSeen) (r : Ran) : Type 0 where
  pub size : r.machine.machine.program.sizes.persistent ≡ length u.image.persistent
  pub view : view_of r ≡ view_after u (steps_made r.fault u.steps) r.held r.fault
  pub held : AreHeld u (steps_made r.fault u.steps) before r.held

abbrev pub IsEnd : Inputs → BankSeen → RunEnd → Course → Type 0
IsEnd u before (FillRefused m) fault = fault ≡ fill m
IsEnd u before (ReadRefused n) fault = (f : Option StepFault) × (fault ≡ ran f (Some n))
IsEnd u before (Told r) fault = (fault ≡ ran r.fault None) × TellsRun u before r

-- This was run on a bank, and so it ended, by one course that it may take.
pub record RunsTo (u : Inputs) (before after : BankSeen) (end : RunEnd) : Type 0 where
  pub fault : Course
  pub allowed : Allows before.modules u fault
  pub shown : ShownByBank before after fault
  pub kept : Keeps before after
  pub leaves : Leaves u fault before after
  pub is : IsEnd u before end fault
