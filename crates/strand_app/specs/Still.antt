-- The rule of a command that runs nothing on the bank and leaves it as it was.
use Rattle.std.specs.Prelude.{◌≡◌, ℕ, List, [], None}
use Rattle.std.specs.declared.option.Option.{Option}
use Rattle.strand_modules.specs.Bank.{BankSeen}
use Rattle.strand_run.specs.Fault.{Course}
use Rattle.strand_app.specs.declared.status.Status.TheVariants as status
use Rattle.strand_app.specs.Reads.{Contents, Reads}
use Rattle.strand_app.specs.Rule.{Rule, Text}

-- It puts a text of what its files say.
abbrev pub still_rule : (Found : Type 0) → List (List ℕ) → (Contents → Reads Found) → (Found → Text) → BankSeen → Rule
still_rule Found names opens text_of before = record {
  names = names;
  Found = Found;
  opens = opens;
  Way = Option Course;
  course_of = λ way. way;
  counted_from = λ way. before;
  Allows = λ found way. way ≡ None;
  Puts = λ found way after end text. (end ≡ status.Ok) × (text ≡ text_of found);
  heading = [];
  Leaves = λ found way after. after ≡ before;
  MayLeave = λ found after. after ≡ before;
  Holds = λ found way after. after ≡ before;
  MayHold = λ found after. after ≡ before;
  MeansNo = λ found text. ⊥;
}
