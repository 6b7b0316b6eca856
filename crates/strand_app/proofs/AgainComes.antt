-- Serves clause runs of strand_main, for again: what comes of it, by its files and its generations.
use Rattle.std.proofs.Common.{ℕ, List, ◌∷◌, map, inl}
use Rattle.std.specs.Prelude.{Ok, Err}
use Rattle.std.specs.declared.result.Result.{Result}
use Rattle.strand_base.specs.FilesSeen.{FilesSeen}
use Rattle.strand_base.specs.declared.out_of_memory.OutOfMemory.{OutOfMemory}
use Rattle.strand_modules.specs.Bank.{BankSeen, Keeps}
use Rattle.strand_app.specs.declared.status.Made.{Made}
use Rattle.strand_app.specs.AgainOnBank.{MakesGenerations}
use Rattle.strand_app.specs.Command.{Pair}
use Rattle.strand_app.specs.Commands.Again.{Parts, again_reads, again_rule}
use Rattle.strand_app.specs.Files.{Opened}
use Rattle.strand_app.specs.Runs.{Comes}
use Rattle.strand_app.specs.World.{world}

pub generations_come : (machine image : List ℕ) (pairs : List Pair) (before after : FilesSeen) (bank bank' : BankSeen) (found : Parts) (result : Result Made OutOfMemory)
    → Opened (machine ∷ image ∷ map (λ (p : Pair). p.schedule) pairs) (again_reads bank.size pairs) before after (Ok found) → Keeps bank bank' → MakesGenerations found bank bank' result
    → Comes (again_rule machine image pairs bank) (world before bank) (world after bank') result
generations_come machine image pairs before after bank bank' found (Ok made) opened kept makes =
    inl (record { found = found; opened = opened; way = makes.way; allowed = makes.allowed; shown = makes.shown; kept = kept; leaves = makes.leaves; puts = makes.puts })
generations_come machine image pairs before after bank bank' found (Err e) opened kept may = inl (record { found = found; opened = opened; kept = kept; leaves = may })
