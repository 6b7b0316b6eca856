-- Serves ModuleBank::read_all: the first words of the bank, word by word.
use Rattle.std.proofs.Common.{◌≡◌, ℕ, ◌+◌, ◌%◌, ◌<◌, List, [], ◌∷◌, ◌++◌, length, take, get_or, arith, refl, ap, subst, ◌∙◌, length-append}
use Rattle.std.specs.Prelude.{Ok, Err, None, Some, IfSome, slice_get}
use Rattle.std.specs.declared.option.Option.{Option}
use Rattle.std.proofs.lemmas.List.{take_more}
use Rattle.std.proofs.lemmas.Option.{get_or_from_slice_get, slice_get_within}
use Rattle.strand_modules.specs.Bank.{BankSeen, Keeps, Loads, object_of_word, read_refused, reads_accepted, with_calls}
use Rattle.strand_modules.specs.Reading.{ReadsAll}
use Rattle.strand_modules.specs.declared.faults.ReadAllFault.TheVariants.{Module, OutOfMemory}
use Rattle.strand_modules.specs.declared.refusals.AtModule.{AtModule}
use Rattle.strand_modules.proofs.AcceptedCalls.{reads_none, reads_again}
use Rattle.strand_modules.proofs.Fills.{one_call_more, rose_same}
use Rattle.strand_modules.proofs.FrontWords.{keeps_same, keeps_trans, refuses_after}

-- the first i words were loaded
pub record Gathered (old new : BankSeen) (i : ℕ) : Type 0 where
  pub kept : Keeps old new
  pub still : new.migration ≡ old.migration
  pub refused : new.refused ≡ old.refused
  pub same : new.told ≡ old.told
  pub accepted : new.accepted ≡ reads_accepted i old.accepted
  pub calls : new.calls ≡ with_calls (object_of_word old) i old.calls
  pub quiet : new.faults ≡ old.faults

-- these words are the first
pub record AreFirst (told : Option (List ℕ)) (words : List ℕ) (i : ℕ) : Type 0 where
  pub long : length words ≡ i
  pub items : IfSome told (λ told. words ≡ take i told)

pub gathered_none : (bank : BankSeen) → Gathered bank bank 0
gathered_none bank = record { kept = keeps_same bank; still = refl; refused = refl; same = refl; accepted = reads_none bank.accepted; calls = refl; quiet = refl }

pub none_first : (told : Option (List ℕ)) (words : List ℕ) → words ≡ [] → AreFirst told words 0
none_first None words none = record { long = ap length none; items = tt }
none_first (Some all) words none = record { long = ap length none; items = none }

pub gathered_more : (old middle new : BankSeen) (i word : ℕ) → Gathered old middle i → Loads middle new i (Ok word) → Gathered old new (i + 1)
gathered_more old middle new i word gathered loads = record {
  kept = keeps_trans old middle new gathered.kept loads.kept;
  still = loads.still ∙ gathered.still;
  refused = loads.accepted ∙ gathered.refused;
  same = loads.same ∙ gathered.same;
  accepted = reads_again old.accepted middle.accepted new.accepted i 1 gathered.accepted loads.counted;
  calls = one_call_more old middle i new.calls gathered.still gathered.kept.modules gathered.calls loads.called;
  quiet = loads.quiet ∙ gathered.quiet;
}

next_item : (told : Option (List ℕ)) (words : List ℕ) (i word : ℕ) → IfSome told (λ all. slice_get all i ≡ Some word) → IfSome told (λ all. words ≡ take i all)
    → IfSome told (λ all. words ++ word ∷ [] ≡ take (i + 1) all)
next_item None words i word here before = tt
next_item (Some all) words i word here before =
    let lt = slice_get_within all i word here in
    let value : get_or all i word ≡ word = get_or_from_slice_get all i word word here in
    rw (take_more all i word lt, value, before) refl

pub more_first : (old middle new : BankSeen) (words now : List ℕ) (i word : ℕ) → Gathered old middle i → AreFirst old.told words i → Loads middle new i (Ok word) → now ≡ words ++ word ∷ []
    → AreFirst old.told now (i + 1)
more_first old middle new words now i word gathered first loads push = rw push record {
  long = omega (arith, length-append words (word ∷ []), first.long);
  items = next_item old.told words i word (subst (λ (t : Option (List ℕ)). IfSome t (λ all. slice_get all i ≡ Some word)) gathered.same loads.value) first.items;
}

pub gathered_until : (old middle new : BankSeen) (count i : ℕ) (e : AtModule) → i < count → Gathered old middle i → Loads middle new i (Err e) → ReadsAll old new count (Err (Module e))
gathered_until old middle new count i e inside gathered loads = record {
  kept = keeps_trans old middle new gathered.kept loads.kept;
  still = loads.still ∙ gathered.still;
  same = loads.same ∙ gathered.same;
  length_is = tt;
  words_are = tt;
  accepted = tt;
  counted = tt;
  called = tt;
  quiet = tt;
  failed = (
    i,
    inside,
    loads.refused.0 ∙ ap (λ (n : ℕ). i % n) gathered.kept.modules,
    loads.uncounted ∙ gathered.accepted,
    one_call_more old middle i new.calls gathered.still gathered.kept.modules gathered.calls loads.called,
    refuses_after read_refused old middle new e.«module» gathered.kept gathered.refused loads.refused.1,
    rose_same old middle new i gathered.still gathered.kept.modules gathered.quiet loads.refused.2,
  );
}

pub gathered_no_memory : (old middle new : BankSeen) (count i word : ℕ) → i < count → Gathered old middle i → Loads middle new i (Ok word) → ReadsAll old new count (Err OutOfMemory)
gathered_no_memory old middle new count i word inside gathered loads =
    let more = gathered_more old middle new i word gathered loads in
    record {
      kept = more.kept;
      still = more.still;
      same = more.same;
      length_is = tt;
      words_are = tt;
      accepted = tt;
      counted = tt;
      called = tt;
      quiet = tt;
      failed = (more.refused, more.quiet, (i + 1, omega (arith, inside), more.accepted, more.calls));
    }

pub gathered_all : (old new : BankSeen) (words : List ℕ) (count i : ℕ) → i ≡ count → Gathered old new i → AreFirst old.told words i → ReadsAll old new count (Ok words)
gathered_all old new words count i all gathered first = record {
  kept = gathered.kept;
  still = gathered.still;
  same = gathered.same;
  length_is = first.long ∙ all;
  words_are = rw all at first.items;
  accepted = gathered.refused;
  counted = rw all at gathered.accepted;
  called = rw all at gathered.calls;
  quiet = gathered.quiet;
  failed = tt;
}
