use Rattle.std.proofs.Common.{◌∙◌, sym, ap, arith}
use Rattle.strand_inputs.specs.Crash.{crash_bytes}
use Rattle.strand_inputs.proofs.CrashSpelling.{words_spelt}
use Rattle.strand_inputs.proofs.crash.read_crash.Goals as goal

pub returns-in-Ok-clause-spelling : goal.returns-in-Ok-clause-spelling
returns-in-Ok-clause-spelling c =
    let spelt = words_spelt c.args.words c.args.bytes.now (λ k. omega (arith, c.type_inv.bytes k)) (omega arith) in
    spelt ∙ ap crash_bytes (sym c.in-Ok.ensures)
