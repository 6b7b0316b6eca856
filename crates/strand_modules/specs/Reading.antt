-- A read of the bank's first words.
use Rattle.std.specs.Prelude.{◌≡◌, ℕ, ◌+◌, ◌%◌, ◌<◌, ◌≤◌, List, length, take, slice_index, IfOk, IfErr, IfSome, OnOk}
use Rattle.std.specs.declared.result.Result.{Result}
use Rattle.strand_base.specs.Counts.{Rose}
use Rattle.strand_modules.specs.Bank.{BankSeen, Keeps, Refuses, object_of_word, read_refused, reads_accepted, with_calls}
use Rattle.strand_modules.specs.declared.faults.ReadAllFault.{ReadAllFault}
use Rattle.strand_modules.specs.declared.faults.ReadAllFault.TheVariants.{Module, OutOfMemory}

-- Word n was refused, by its module; or there was no memory for the words that were read.
abbrev pub ReadFails : BankSeen → BankSeen → ℕ → ReadAllFault → Type 0
ReadFails old new count (Module e) = (n : ℕ) × (n < count) × (e.«module» ≡ n % old.modules) × (new.accepted ≡ reads_accepted n old.accepted)
    × (new.calls ≡ with_calls (object_of_word old) (n + 1) old.calls) × Refuses read_refused old new e.«module»
    × Rose (slice_index old.faults (object_of_word old n)) (slice_index new.faults (object_of_word old n))
ReadFails old new count OutOfMemory = (new.refused ≡ old.refused) × (new.faults ≡ old.faults)
    × ((n : ℕ) × (n ≤ count) × (new.accepted ≡ reads_accepted n old.accepted) × (new.calls ≡ with_calls (object_of_word old) n old.calls))

-- loads of the first words, in order
pub record ReadsAll (old new : BankSeen) (count : ℕ) (result : Result (List ℕ) ReadAllFault) : Type 0 where
  pub kept : Keeps old new
  pub still : new.migration ≡ old.migration
  pub same : new.told ≡ old.told
  pub length_is : IfOk result (λ words. length words ≡ count)
  pub words_are : IfOk result (λ words. IfSome old.told (λ told. words ≡ take count told))
  pub accepted : OnOk result (new.refused ≡ old.refused)
  pub counted : OnOk result (new.accepted ≡ reads_accepted count old.accepted)
  pub called : OnOk result (new.calls ≡ with_calls (object_of_word old) count old.calls)
  pub quiet : OnOk result (new.faults ≡ old.faults)
  pub failed : IfErr result (ReadFails old new count)
