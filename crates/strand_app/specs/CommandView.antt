-- The code's command, as the definitions have it.
use Rattle.std.specs.Prelude.{ℕ, List, [], ◌∷◌, map, String, string_bytes}
use Rattle.std.specs.Option.{unwrap_or}
use Rattle.std.specs.declared.alloc.Global.{Global}
use Rattle.std.specs.declared.option.Option.{Option}
use Rattle.strand_inputs.specs.Stop.{stop_of}
use Rattle.strand_inputs.specs.declared.stop.Stop.TheVariants.{End}
use Rattle.strand_modules.specs.Bank.{BankSeen}
use Rattle.strand_app.specs.declared.command.Command.{Command as CodeCommand}
use Rattle.strand_app.specs.declared.command.Command.TheVariants as code
use Rattle.strand_app.specs.declared.command.RunWords.{RunWords}
use Rattle.strand_app.specs.declared.again_words.AgainWords.{AgainWords}
use Rattle.strand_app.specs.Command.{Command, Pair, command_of, asm, list, upgrade, run, judge, refute, check, trace, again, gen, gen_image, gen_schedule}
use Rattle.strand_app.specs.Commands.Again.{again_rule}
use Rattle.strand_app.specs.Commands.Check.{check_rule}
use Rattle.strand_app.specs.Commands.Judge.{judge_rule}
use Rattle.strand_app.specs.Commands.Refute.{refute_rule}
use Rattle.strand_app.specs.Commands.Run.{run_rule}
use Rattle.strand_app.specs.Commands.Trace.{trace_rule}
use Rattle.strand_app.specs.Rule.{Rule}
use Rattle.strand_app.specs.RuleOf.{rule_of}

-- the pairs that words are whose every second one is a stop
abbrev pub pairs_in : List (List ℕ) → List Pair
pairs_in (schedule ∷ stop ∷ words) = record { schedule = schedule; stop = unwrap_or (stop_of stop) End } ∷ pairs_in words
pairs_in _ = []

abbrev pub pairs_asked : List (String Global) → List Pair
pairs_asked words = pairs_in (map string_bytes words)

abbrev pub view : CodeCommand → Command
view (code.Asm text) = asm text.now
view (code.List image) = list image.now
view (code.Upgrade image) = upgrade image.now
view (code.Run words) = run words.machine.now words.image.now words.schedule.now words.stop
view (code.Judge words crash) = judge words.machine.now words.image.now words.schedule.now words.stop crash.now
view (code.Refute words crash) = refute words.machine.now words.image.now words.schedule.now words.stop crash.now
view (code.Check words crash certificate) = check words.machine.now words.image.now words.schedule.now words.stop crash.now certificate.now
view (code.Trace words) = trace words.machine.now words.image.now words.schedule.now words.stop
view (code.Again words) = again words.machine.now words.image.now (pairs_asked words.pairs.now)
view (code.Gen seed size) = gen seed size
view (code.GenImage seed size) = gen_image seed size
view (code.GenSchedule seed size) = gen_schedule seed size

-- the rules of those that step a machine
abbrev pub run_rule_in : RunWords → BankSeen → Rule
run_rule_in words = run_rule words.machine.now words.image.now words.schedule.now words.stop

abbrev pub judge_rule_in : RunWords → List ℕ → BankSeen → Rule
judge_rule_in words crash = judge_rule words.machine.now words.image.now words.schedule.now words.stop crash

abbrev pub refute_rule_in : RunWords → List ℕ → BankSeen → Rule
refute_rule_in words crash = refute_rule words.machine.now words.image.now words.schedule.now words.stop crash

abbrev pub check_rule_in : RunWords → (crash certificate : List ℕ) → BankSeen → Rule
check_rule_in words crash certificate = check_rule words.machine.now words.image.now words.schedule.now words.stop crash certificate

abbrev pub trace_rule_in : RunWords → BankSeen → Rule
trace_rule_in words = trace_rule words.machine.now words.image.now words.schedule.now words.stop

abbrev pub again_rule_in : AgainWords → BankSeen → Rule
again_rule_in words = again_rule words.machine.now words.image.now (pairs_asked words.pairs.now)

-- the command that the words are
abbrev pub command_asked : List (String Global) → Option Command
command_asked words = command_of (map string_bytes words)

-- and its rule
abbrev pub asked_rule : List (String Global) → BankSeen → Rule
asked_rule words bank = rule_of (command_asked words) bank
