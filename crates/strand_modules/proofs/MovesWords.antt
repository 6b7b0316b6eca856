-- Serves ModuleBank::copy_on, by move_words: words copied from one module to another, one by one.
use Rattle.std.proofs.Common.{◌≡◌, ℕ, ◌+◌, ◌<◌, List, length, arith, refl, ap, sym, ◌∙◌}
use Rattle.std.specs.Prelude.{Ok, None, Some, IfSome, is_some}
use Rattle.std.specs.declared.option.Option.{Option}
use Rattle.strand_base.specs.Counts.{next}
use Rattle.strand_base.proofs.Counts.{counted_again, counted_none}
use Rattle.strand_base.specs.ModuleSeen.{ModuleSeen, LoadsWord, StoresWord, written}
use Rattle.strand_base.specs.declared.module.ModuleFailed.{ModuleFailed}
use Rattle.strand_modules.specs.ModuleWords.{joined_words}
use Rattle.strand_modules.specs.Transfer.{MovesWords}
use Rattle.strand_modules.proofs.JoinedWords.{joined_copied}

pub moves_none : (size first : ℕ) (from to : ModuleSeen) → MovesWords size first 0 from from to to
moves_none size first from to = record {
  size_from = refl;
  same = refl;
  quiet = refl;
  calls = sym (counted_none from.calls);
  size_to = refl;
  tells = refl;
  words = (let none : first + 0 ≡ first = omega arith in ap (λ (n : ℕ). joined_words size n to.told from.told) none);
  quiet_to = refl;
  calls_to = sym (counted_none to.calls);
}

written_some : (told : Option (List ℕ)) (at v : ℕ) → is_some (written told at v) ≡ is_some told
written_some None at v = refl
written_some (Some ws) at v = refl

there : (told : Option (List ℕ)) (size at : ℕ) → at < size → IfSome told (λ ws. length ws ≡ size) → IfSome told (λ ws. at < length ws)
there None size at lt long = tt
there (Some ws) size at lt long = omega (arith, lt, long)

pub moves_more : (size first n v : ℕ) (from middle from' to middle' to' : ModuleSeen) → first + n < to.size → MovesWords size first n from middle to middle'
    → LoadsWord {E = ModuleFailed} middle from' (first + n) (Ok v) → StoresWord {T = Unit {0}} {E = ModuleFailed} middle' to' (first + n) v (Ok tt) → MovesWords size first (n + 1) from from' to to'
moves_more size first n v from middle from' to middle' to' inside moves loads stores = record {
  size_from = loads.size ∙ moves.size_from;
  same = loads.same ∙ moves.same;
  quiet = loads.cause.kept ∙ moves.quiet;
  calls = loads.called ∙ ap next moves.calls ∙ counted_again n 1 from.calls;
  size_to = stores.size ∙ moves.size_to;
  tells = ap is_some stores.ok ∙ written_some middle'.told (first + n) v ∙ moves.tells;
  words = (let more : first + (n + 1) ≡ first + n + 1 = omega arith in
      ap (λ (k : ℕ). joined_words size k to'.told from'.told) more
      ∙ ap (λ (t : Option (List ℕ)). joined_words size (first + n + 1) t from'.told) stores.ok
      ∙ ap (λ (t : Option (List ℕ)). joined_words size (first + n + 1) (written middle'.told (first + n) v) t) loads.same
      ∙ joined_copied size (first + n) v middle'.told middle.told (there middle'.told middle'.size (first + n) (omega (arith, inside, moves.size_to)) stores.told) loads.value
      ∙ moves.words);
  quiet_to = stores.cause.kept ∙ moves.quiet_to;
  calls_to = stores.called ∙ ap next moves.calls_to ∙ counted_again n 1 to.calls;
}
