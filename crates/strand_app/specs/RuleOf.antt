-- Which rule each command has.
use Rattle.std.specs.Prelude.{Some, None}
use Rattle.std.specs.declared.option.Option.{Option}
use Rattle.strand_modules.specs.Bank.{BankSeen}
use Rattle.strand_app.specs.Command.{Command, asm, list, upgrade, run, judge, refute, check, trace, again, gen, gen_image, gen_schedule}
use Rattle.strand_app.specs.Commands.Again.{again_rule}
use Rattle.strand_app.specs.Commands.Asm.{asm_rule}
use Rattle.strand_app.specs.Commands.Check.{check_rule}
use Rattle.strand_app.specs.Commands.Gen.{gen_rule}
use Rattle.strand_app.specs.Commands.GenImage.{gen_image_rule}
use Rattle.strand_app.specs.Commands.GenSchedule.{gen_schedule_rule}
use Rattle.strand_app.specs.Commands.Judge.{judge_rule}
use Rattle.strand_app.specs.Commands.List.{list_rule}
use Rattle.strand_app.specs.Commands.Refute.{refute_rule}
use Rattle.strand_app.specs.Commands.Run.{run_rule}
use Rattle.strand_app.specs.Commands.Trace.{trace_rule}
use Rattle.strand_app.specs.Commands.Upgrade.{upgrade_rule}
use Rattle.strand_app.specs.NoCommand.{no_command}
use Rattle.strand_app.specs.Rule.{Rule}

-- for a bank as it stands at entry
abbrev pub rule_of : Option Command → BankSeen → Rule
rule_of None bank = no_command bank
rule_of (Some (asm text)) bank = asm_rule text bank
rule_of (Some (list image)) bank = list_rule image bank
rule_of (Some (upgrade image)) bank = upgrade_rule image bank
rule_of (Some (run machine image schedule stop)) bank = run_rule machine image schedule stop bank
rule_of (Some (judge machine image schedule stop crash)) bank = judge_rule machine image schedule stop crash bank
rule_of (Some (refute machine image schedule stop crash)) bank = refute_rule machine image schedule stop crash bank
rule_of (Some (check machine image schedule stop crash certificate)) bank = check_rule machine image schedule stop crash certificate bank
rule_of (Some (trace machine image schedule stop)) bank = trace_rule machine image schedule stop bank
rule_of (Some (again machine image pairs)) bank = again_rule machine image pairs bank
rule_of (Some (gen seed size)) bank = gen_rule seed size bank
rule_of (Some (gen_image seed size)) bank = gen_image_rule seed size bank
rule_of (Some (gen_schedule seed size)) bank = gen_schedule_rule seed size bank
