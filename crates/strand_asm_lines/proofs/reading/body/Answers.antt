use Rattle.std.proofs.Common.{◌<◌, length, arith}
use Rattle.std.proofs.lemmas.Bool.Decides.{nat_tests}
use Rattle.strand_asm_lines.proofs.LineParts.{body_some}
use Rattle.strand_asm_lines.proofs.reading.body.Goals as goal

pub returns-in-Some : goal.returns-in-Some
returns-in-Some c =
    let some : 0 < length c.split_at_blank.result.0.now = grind (arith, nat_tests) in
    rw (← c.after_blanks.ensures, ← c.split_at_blank.ensures.before, ← c.split_at_blank.ensures.rest, body_some c.split_at_blank.result.0.now c.split_at_blank.result.1.now some, ← c.in-Some.ensures) c.directive.ensures
