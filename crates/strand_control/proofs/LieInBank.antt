-- Serves accept and write of the tests, and tools/counted-calls: the words of all requests lie in the bank.
use Rattle.std.proofs.Common.{◌≡◌, ℕ, zero, suc, ◌<◌, inl, inr, List, [], ◌∷◌, ◌++◌, length, sym, ap, subst, ◌∙◌, arith}
use Rattle.std.specs.Prelude.{remove, slice_get, Some}
use Rattle.std.proofs.lemmas.Bool.{cases_eq}
use Rattle.std.proofs.lemmas.List.{length-append}
use Rattle.std.proofs.lemmas.Option.{slice_get_within, none-some, same_Some}
use Rattle.strand_base.proofs.BelowBound.{get_more, get_last, at_or_below}
use Rattle.strand_modules.specs.Bank.{BankSeen}
use Rattle.strand_control.specs.declared.request.Request.{Request}
use Rattle.strand_control.specs.declared.request.WriteTurn.{WriteTurn}
use Rattle.strand_control.specs.declared.request.WriteTurn.TheVariants.{Written, NoEntry, OlderWaits, Fault}
use Rattle.strand_base.specs.Places.{persistent_place, address_of}
use Rattle.strand_control.specs.Flight.{Flight, LieInBank, Writes}

pub lies_more : (requests : List Request) (size : ℕ) (new : Request) → LieInBank requests size → (new.word ≡ address_of (persistent_place new.word)) × (persistent_place new.word < size) → LieInBank (requests ++ new ∷ []) size
lies_more requests size new old lies = λ i r at. elim (cases_eq i (length requests)) [
  | inl end ↦
      let same : new ≡ r = same_Some new r (sym (ap (slice_get (requests ++ new ∷ [])) end ∙ get_last requests new) ∙ at) in
      subst (λ (x : Request). (x.word ≡ address_of (persistent_place x.word)) × (persistent_place x.word < size)) same lies
  | inr ne ↦
      let below : i < length requests = at_or_below (omega (arith, slice_get_within (requests ++ new ∷ []) i r at, length-append requests (new ∷ []))) ne in
      old i r (sym (get_more requests new i below) ∙ at)
]

from_removed : (requests : List Request) (j i : ℕ) (r : Request) → slice_get (remove requests j) i ≡ Some r → (k : ℕ) × (slice_get requests k ≡ Some r)
from_removed [] zero i r at = absurd (none-some r at)
from_removed [] (suc j) i r at = absurd (none-some r at)
from_removed (x ∷ xs) zero i r at = (suc i, at)
from_removed (x ∷ xs) (suc j) zero r at = (0, at)
from_removed (x ∷ xs) (suc j) (suc i) r at = let found = from_removed xs j i r at in (suc found.0, found.1)

lies_removed : (requests : List Request) (size j : ℕ) → LieInBank requests size → LieInBank (remove requests j) size
lies_removed requests size j old = λ i r at. let found = from_removed requests j i r at in old found.0 r found.1

-- a write leaves none that doesn't lie in the bank
pub lies_after : (old new : Flight) (bank bank' : BankSeen) (size j : ℕ) (turn : WriteTurn) → Writes old new bank bank' j turn → LieInBank old.requests size → LieInBank new.requests size
lies_after old new bank bank' size j NoEntry left lies = subst (λ (f : Flight). LieInBank f.requests size) (sym left.1) lies
lies_after old new bank bank' size j OlderWaits left lies = subst (λ (f : Flight). LieInBank f.requests size) (sym left.2) lies
lies_after old new bank bank' size j (Written r) left lies = subst (λ (f : Flight). LieInBank f.requests size) (sym left.1) (lies_removed old.requests size j lies)
lies_after old new bank bank' size j (Fault m) left lies = subst (λ (f : Flight). LieInBank f.requests size) (sym left.2) lies

-- a write keeps the bank's size
pub size_after : (old new : Flight) (bank bank' : BankSeen) (j : ℕ) (turn : WriteTurn) → Writes old new bank bank' j turn → bank'.size ≡ bank.size
size_after old new bank bank' j NoEntry left = ap (λ (b : BankSeen). b.size) left.2
size_after old new bank bank' j OlderWaits left = ap (λ (b : BankSeen). b.size) left.3
size_after old new bank bank' j (Written r) left = left.2.kept.size
size_after old new bank bank' j (Fault m) left = left.3.kept.size
