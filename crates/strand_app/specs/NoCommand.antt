-- Words that are no command.
use Rattle.std.specs.Prelude.{◌≡◌, [], None}
use Rattle.std.specs.declared.option.Option.{Option}
use Rattle.strand_modules.specs.Bank.{BankSeen}
use Rattle.strand_report.specs.FaultLines.{words_fault}
use Rattle.strand_run.specs.Fault.{Course}
use Rattle.strand_app.specs.declared.status.Status.TheVariants as status
use Rattle.strand_app.specs.Reads.{given}
use Rattle.strand_app.specs.Rule.{Rule}

-- No file is fetched, the bank isn't touched, and it takes no memory.
abbrev pub no_command : BankSeen → Rule
no_command before = record {
  names = [];
  Found = Unit {0};
  opens = λ contents. given tt;
  Way = Option Course;
  course_of = λ way. way;
  counted_from = λ way. before;
  Allows = λ found way. way ≡ None;
  Puts = λ found way after end text. (end ≡ status.Words) × (text ≡ words_fault);
  heading = [];
  Leaves = λ found way after. after ≡ before;
  MayLeave = λ found after. ⊥;
  Holds = λ found way after. after ≡ before;
  MayHold = λ found after. ⊥;
  MeansNo = λ found text. ⊥;
}
