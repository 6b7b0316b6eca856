use Rattle.std.proofs.Common.{◌≡◌, ap, Some, None, Result, Ok, Err}
use Rattle.std.specs.Prelude.{OnErr}
use Rattle.strand_base.specs.FilesSeen.{Held, FilesSeen}
use Rattle.strand_base.specs.FilesInMemory.{held_in, or_empty}
use Rattle.strand_base.proofs.never_files.NeverFiles.add.Goals as goal

on_err : {T E : Type 0} (P Q : Type 0) (r : Result T E) → (P → Q) → OnErr r P → OnErr r Q
on_err P Q (Ok x) f h = tt
on_err P Q (Err e) f h = f h

pub returns-clause-err : goal.returns-clause-err
returns-clause-err c =
    let seen = λ (held : Held). let seen : FilesSeen = record { told = Some (or_empty held); faults = 0; fetches = c.args.self.now.fetches; last_failed = None } in seen in
    on_err (held_in c.add.new.self ≡ held_in c.args.self.now.files) (seen (held_in c.add.new.self) ≡ seen (held_in c.args.self.now.files)) c.add.result (ap seen) c.add.ensures.err
