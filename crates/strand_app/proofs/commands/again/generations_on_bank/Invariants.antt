use Rattle.std.specs.Prelude.{Ok}
use Rattle.strand_modules.specs.Bank.{BankSeen, Fills}
use Rattle.strand_modules.specs.Seen.{bank_seen}
use Rattle.strand_app.specs.AgainOnBank.{parts_of}
use Rattle.strand_app.proofs.Going.{Going}
use Rattle.strand_app.proofs.commands.again.generations_on_bank.Given as goal

-- of every bank that was filled to the one that the loop begins with
abbrev pub invariant-loop-i : goal.invariant-loop-i
invariant-loop-i g l = (entry : BankSeen) → Fills {T = Unit {0}} entry (bank_seen (λ z. (goal.PmModule-dyn g z).holds z.1) l.initial.bank) l.image.persistent (Ok tt)
    → Going (parts_of l.config l.image l.parts) entry (bank_seen (λ z. (goal.PmModule-dyn g z).holds z.1) l.bank) l.i l.held l.text.items
