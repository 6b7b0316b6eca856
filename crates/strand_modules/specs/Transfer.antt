-- A copy of some words of a module, from one place on, to a spare object of its size.
use Rattle.std.specs.Prelude.{◌≡◌, ℕ, ◌+◌, ◌<◌, is_some, Ok, Err}
use Rattle.std.specs.declared.result.Result.{Result}
use Rattle.strand_base.specs.Counts.{counted}
use Rattle.strand_base.specs.ModuleSeen.{ModuleSeen, LoadsWord, StoresWord}
use Rattle.strand_base.specs.declared.module.ModuleFailed.{ModuleFailed}
use Rattle.strand_modules.specs.ModuleWords.{joined_words}
use Rattle.strand_modules.specs.declared.copying.CopyFault.{CopyFault}
use Rattle.strand_modules.specs.declared.copying.CopyFault.TheVariants.{Load, Store}
use Rattle.strand_modules.specs.declared.transfer.Missed.{Missed}

-- The n words from this place on were loaded from the one object and stored in the other, by one call of each for a word: the first `size`
-- words of a module that has its words in both are as before.
pub record MovesWords (size first n : ℕ) (from from' to to' : ModuleSeen) : Type 0 where
  pub size_from : from'.size ≡ from.size
  pub same : from'.told ≡ from.told
  pub quiet : from'.faults ≡ from.faults
  pub calls : from'.calls ≡ counted n from.calls
  pub size_to : to'.size ≡ to.size
  pub tells : is_some to'.told ≡ is_some to.told
  pub words : joined_words size (first + n) to'.told from'.told ≡ joined_words size first to.told from.told
  pub quiet_to : to'.faults ≡ to.faults
  pub calls_to : to'.calls ≡ counted n to.calls

-- Word n of those was not loaded, or not stored.
abbrev pub MoveFails : ℕ → ℕ → ℕ → ModuleSeen → ModuleSeen → ModuleSeen → ModuleSeen → CopyFault → Type 0
MoveFails size first n from from' to to' Load = (middle : ModuleSeen) × (e : ModuleFailed) × MovesWords size first n from middle to to' × LoadsWord middle from' (first + n) (Err e)
MoveFails size first n from from' to to' Store = (middle : ModuleSeen) × (middle' : ModuleSeen) × (value : ℕ) × (e : ModuleFailed) × MovesWords size first n from middle to middle'
    × LoadsWord {E = ModuleFailed} middle from' (first + n) (Ok value) × StoresWord {T = Unit {0}} middle' to' (first + n) value (Err e)

abbrev pub Moves : {T : Type 0} → ℕ → ℕ → ℕ → ModuleSeen → ModuleSeen → ModuleSeen → ModuleSeen → Result T Missed → Type 0
Moves size first count from from' to to' (Ok x) = MovesWords size first count from from' to to'
Moves size first count from from' to to' (Err missed) = (missed.copied < count) × MoveFails size first missed.copied from from' to to' missed.why
