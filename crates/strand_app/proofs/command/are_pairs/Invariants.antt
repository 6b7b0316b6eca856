use Rattle.std.proofs.Common.{◌≡◌, length, map}
use Rattle.std.specs.Prelude.{string_bytes}
use Rattle.std.specs.Option.{is_some}
use Rattle.strand_app.specs.Command.{pairs_of}
use Rattle.strand_app.proofs.command.are_pairs.Given as goal

abbrev pub invariant-loop-words : goal.invariant-loop-words
invariant-loop-words l = is_some (pairs_of (map string_bytes l.words)) ≡ is_some (pairs_of (map string_bytes l.initial.words))

abbrev pub decreases-loop-words : goal.decreases-loop-words
decreases-loop-words l = length l.words
