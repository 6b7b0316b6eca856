use Rattle.std.proofs.Common.{◌+◌, ◌≤◌, length, map}
use Rattle.std.specs.Prelude.{All, Ok, string_bytes}
use Rattle.strand_base.specs.FilesSeen.{FilesSeen}
use Rattle.strand_app.specs.AgainOnBank.{IsPart}
use Rattle.strand_app.specs.AgainOpening.{program_names, program_seen}
use Rattle.strand_app.specs.Commands.Again.{program_reads}
use Rattle.strand_app.specs.Files.{Opened}
use Rattle.strand_app.proofs.AgainReads.{Reading}
use Rattle.strand_app.proofs.commands.again.fetch_parts.Given as goal

-- so many files are left, and so it is wherever machine file and image were opened before
abbrev pub invariant-loop-rest : goal.invariant-loop-rest
invariant-loop-rest g l =
    (l.file + length l.rest ≤ 3 + length l.words.pairs.now) × All (IsPart l.config l.image) l.cut.parts.items
    × ((entry : FilesSeen) → Opened (program_names l.words) program_reads entry (g.F.Files.seen l.initial.files) (Ok (program_seen (l.config, l.image)))
    → Reading l.words l.config l.image entry (g.F.Files.seen l.files) (map string_bytes l.rest) l.file l.cut.parts.items l.cut.past)

abbrev pub decreases-loop-rest : goal.decreases-loop-rest
decreases-loop-rest g l = length l.rest
