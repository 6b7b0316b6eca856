-- Serves ModuleBank::fill: what it has stored, word by word.
use Rattle.std.proofs.Common.{◌≡◌, ℕ, ◌+◌, ◌%◌, ◌<◌, ◌≤◌, List, length, take, get_or, arith, refl, ap, subst, ◌∙◌, add-one}
use Rattle.std.proofs.lemmas.List.{take_all}
use Rattle.std.specs.Prelude.{Ok, Err}
use Rattle.strand_base.specs.Counts.{Rose}
use Rattle.strand_base.specs.ModuleSeen.{written}
use Rattle.strand_modules.specs.Bank.{BankSeen, Keeps, Writes, Fills, fill_refused, front_written, object_of_word, stores_accepted, with_calls}
use Rattle.strand_modules.specs.NextCopies.{with_call}
use Rattle.strand_modules.specs.declared.refusals.AtModule.{AtModule}
use Rattle.strand_modules.proofs.AcceptedCalls.{stores_none, stores_again}
use Rattle.strand_modules.proofs.FrontWords.{front_more, front_none, keeps_same, keeps_trans, refuses_after}
use Rattle.strand_modules.proofs.LoadsAndStores.{StoreRefused}

-- the first i words were stored
pub record Filled (old new : BankSeen) (words : List ℕ) (i : ℕ) : Type 0 where
  pub kept : Keeps old new
  pub still : new.migration ≡ old.migration
  pub refused : new.refused ≡ old.refused
  pub told : new.told ≡ front_written (take i words) old.told
  pub accepted : new.accepted ≡ stores_accepted i old.accepted
  pub calls : new.calls ≡ with_calls (object_of_word old) i old.calls
  pub quiet : new.faults ≡ old.faults

pub filled_none : (bank : BankSeen) (words : List ℕ) → Filled bank bank words 0
filled_none bank words = record { kept = keeps_same bank; still = refl; refused = refl; told = front_none bank.told; accepted = stores_none bank.accepted; calls = refl; quiet = refl }

-- which object has a word doesn't change while nothing is copied
pub object_of_word_same : (old middle : BankSeen) (i : ℕ) → middle.migration ≡ old.migration → middle.modules ≡ old.modules → object_of_word middle i ≡ object_of_word old i
object_of_word_same old middle i e f = rw (e, f) refl

-- so many calls, and one more
pub one_call_more : (old middle : BankSeen) (i : ℕ) (c : List ℕ) → middle.migration ≡ old.migration → middle.modules ≡ old.modules → middle.calls ≡ with_calls (object_of_word old) i old.calls
    → c ≡ with_call (object_of_word middle i) middle.calls → c ≡ with_calls (object_of_word old) (i + 1) old.calls
one_call_more old middle i c still same first more =
    rw add-one (more ∙ ap (λ (h : ℕ). with_call h middle.calls) (object_of_word_same old middle i still same) ∙ ap (with_call (object_of_word old i)) first)

-- the count that rose is that of the same object
pub rose_same : (old middle new : BankSeen) (i : ℕ) → middle.migration ≡ old.migration → middle.modules ≡ old.modules → middle.faults ≡ old.faults
    → Rose (get_or middle.faults (object_of_word middle i) 0) (get_or new.faults (object_of_word middle i) 0) → Rose (get_or old.faults (object_of_word old i) 0) (get_or new.faults (object_of_word old i) 0)
rose_same old middle new i still same quiet rose =
    subst (λ (h : ℕ). Rose (get_or old.faults h 0) (get_or new.faults h 0)) (object_of_word_same old middle i still same)
    (subst (λ (xs : List ℕ). Rose (get_or xs (object_of_word middle i) 0) (get_or new.faults (object_of_word middle i) 0)) quiet rose)

pub filled_more : (old middle new : BankSeen) (words : List ℕ) (i : ℕ) → i < length words → length words ≤ old.size → Filled old middle words i
    → Writes {T = Unit {0}} middle new i (get_or words i 0) (Ok tt) → Filled old new words (i + 1)
filled_more old middle new words i inside room filled writes = record {
  kept = keeps_trans old middle new filled.kept writes.kept;
  still = writes.still ∙ filled.still;
  refused = writes.accepted ∙ filled.refused;
  told = writes.done ∙ ap (λ t. written t i (get_or words i 0)) filled.told
      ∙ front_more old.told words i middle.size inside (omega (arith, inside, filled.kept.size, room)) (rw filled.told at writes.whole);
  accepted = stores_again old.accepted middle.accepted new.accepted i 1 filled.accepted writes.counted;
  calls = one_call_more old middle i new.calls filled.still filled.kept.modules filled.calls writes.called;
  quiet = writes.quiet ∙ filled.quiet;
}

pub filled_until : (old middle new : BankSeen) (words : List ℕ) (i : ℕ) (e : AtModule) → i < length words → Filled old middle words i
    → StoreRefused fill_refused middle new i e → Fills {T = Unit {0}} old new words (Err e)
filled_until old middle new words i e inside filled refused = record {
  kept = keeps_trans old middle new filled.kept refused.kept;
  still = refused.still ∙ filled.still;
  done = tt;
  called = tt;
  quiet = tt;
  accepted = tt;
  counted = tt;
  refused = (
    i,
    inside,
    refused.refused.0 ∙ ap (λ (n : ℕ). i % n) filled.kept.modules,
    refused.same ∙ filled.told,
    refused.uncounted ∙ filled.accepted,
    one_call_more old middle i new.calls filled.still filled.kept.modules filled.calls refused.called,
    refuses_after fill_refused old middle new e.«module» filled.kept filled.refused refused.refused.1,
    rose_same old middle new i filled.still filled.kept.modules filled.quiet refused.refused.2,
  );
}

pub filled_all : (old new : BankSeen) (words : List ℕ) (i : ℕ) → i ≡ length words → Filled old new words i → Fills {T = Unit {0}} old new words (Ok tt)
filled_all old new words i all filled = record {
  kept = filled.kept;
  still = filled.still;
  done = rw (take_all i words (omega (arith, all))) at filled.told;
  called = rw all at filled.calls;
  quiet = filled.quiet;
  accepted = filled.refused;
  counted = rw all at filled.accepted;
  refused = tt;
}
