-- Serves clauses runs, no_command and memory of strand_main: the whole call by its command.
use Rattle.std.proofs.Common.{◌≡◌, [], refl, ap, arith, inl, inr}
use Rattle.std.specs.Prelude.{Some, None, Ok, Err, IfOk, OnErr}
use Rattle.std.specs.declared.option.Option.{Option}
use Rattle.std.specs.declared.result.Result.{Result}
use Rattle.strand_base.specs.SinkSeen.{SinkSeen}
use Rattle.strand_base.specs.declared.out_of_memory.OutOfMemory.{OutOfMemory}
use Rattle.strand_modules.specs.Bank.{BankSeen}
use Rattle.strand_modules.proofs.FrontWords.{keeps_same}
use Rattle.strand_report.specs.FaultLines.{words_fault}
use Rattle.strand_app.specs.declared.status.Made.{Made}
use Rattle.strand_app.specs.declared.status.Status.{Status}
use Rattle.strand_app.specs.declared.status.Status.TheVariants as status
use Rattle.strand_app.specs.Causes.{MemoryCause}
use Rattle.strand_app.specs.Command.{Command}
use Rattle.strand_app.specs.Ends.{Ends}
use Rattle.strand_app.specs.NoCommand.{no_command}
use Rattle.strand_app.specs.Reads.{Reads}
use Rattle.strand_app.specs.Rule.{Rule}
use Rattle.strand_app.specs.RuleOf.{rule_of}
use Rattle.strand_app.specs.Runs.{Comes, ComesTo, GivesUp, Runs, Stops}
use Rattle.strand_app.specs.World.{World, Outside}
use Rattle.strand_app.proofs.OpensTo.{first_none}

-- the words are no command
pub no_command_runs : (before : World) (sink sink' : SinkSeen) (result : Status) → Ends status.Words words_fault sink sink' result
    → Runs (no_command before.bank) (record { world = before; sink = sink }) (record { world = before; sink = sink' }) result
no_command_runs before sink sink' result ends =
    inr (record {
      end = status.Words;
      text = words_fault;
      made = inl (record {
        found = tt;
        opened = record { contents = []; says = record { first = tt; is = λ others. refl }; fetched = first_none [] before.files; all = refl };
        way = None;
        allowed = refl;
        shown = refl;
        kept = keeps_same before.bank;
        leaves = refl;
        puts = (refl, refl);
      });
      put = ends;
    })

-- what a command made was put
pub command_runs : (r : Rule) (before after : Outside) (result : Status) (made : Result Made OutOfMemory) → Comes r before.world after.world made
    → IfOk made (λ m. Ends m.status m.text.items before.sink after.sink result) → OnErr made ((result ≡ status.Memory) × (after.sink ≡ before.sink)) → Runs r before after result
command_runs r before after result (Ok made) comes put memory = inr (record { end = made.status; text = made.text.items; made = comes; put = put })
command_runs r before after result (Err e) comes put memory = inl (record { status = memory.0; nothing = memory.1; stops = comes })

-- no memory is taken for words that are no command
no_stop : (bank : BankSeen) (before after : World) → Stops (no_command bank) before after → ⊥
no_stop bank before after (inl stops) = stops.leaves
no_stop bank before after (inr (inl stops)) = let is = ap (λ (x : Reads (Unit {0})). x.result) (stops.opened.says.is []) in cc
no_stop bank before after (inr (inr stops)) = let none = stops.unread.wanted [] in absurd (omega (arith, none))

pub no_command_of : (command : Option Command) (bank : BankSeen) (before after : Outside) (result : Status) → command ≡ None → Runs (rule_of command bank) before after result
    → Ends status.Words words_fault before.sink after.sink result
no_command_of (Some command) bank before after result e runs = cc
no_command_of None bank before after result e (inl up) = absurd (no_stop bank before.world after.world up.stops)
no_command_of None bank before after result e (inr ends) = go ends.made
  where
    go : ComesTo (rule_of None bank) before.world after.world ends.end ends.text → Ends status.Words words_fault before.sink after.sink result
    go (inl made) = rw (made.puts.0, made.puts.1) at ends.put
    go (inr (inl refuses)) = let is = ap (λ (x : Reads (Unit {0})). x.result) (refuses.opened.says.is []) in cc
    go (inr (inr misses)) = let none = misses.missed.wanted [] in absurd (omega (arith, none))

pub memory_of : (command : Option Command) (bank : BankSeen) (before after : Outside) → GivesUp (rule_of command bank) before after status.Memory → MemoryCause command before after
memory_of None bank before after up = absurd (no_stop bank before.world after.world up.stops)
memory_of (Some command) bank before after up = (refl, up.nothing)
