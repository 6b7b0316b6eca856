-- Serves ModuleBank::fill, read_all and replace: words stored one after the other in front of others.
use Rattle.std.proofs.Common.{◌≡◌, ℕ, zero, suc, ◌+◌, ◌<◌, List, [], ◌∷◌, ◌++◌, length, take, drop, get_or, set, arith, refl, ap, sym, ◌∙◌, inl, inr, add-one, length-append, length-set}
use Rattle.std.proofs.lemmas.List.{length-take}
use Rattle.std.specs.Prelude.{None, Some, IfSome}
use Rattle.std.specs.declared.option.Option.{Option}
use Rattle.strand_base.specs.ModuleSeen.{written}
use Rattle.strand_modules.specs.declared.refusals.Refusals.{Refusals}
use Rattle.strand_modules.specs.Bank.{BankSeen, Keeps, Refuses, SumRose, front_written}
use Rattle.strand_modules.specs.Objects.{MigrationSeen}

front_set : (xs ws : List ℕ) (i : ℕ) → i < length xs → i < length (take i xs ++ drop (length (take i xs)) ws)
    → set (take i xs ++ drop (length (take i xs)) ws) i (get_or xs i 0) ≡ take (suc i) xs ++ drop (length (take (suc i) xs)) ws
front_set [] ws i h w = absurd (omega arith)
front_set (x ∷ xs) [] zero h w = absurd (omega arith)
front_set (x ∷ xs) (y ∷ ws) zero h w = refl
front_set (x ∷ xs) [] (suc i) h w = absurd (omega (arith, w, length-append (take (suc i) (x ∷ xs)) [], length-take (suc i) (x ∷ xs)))
front_set (x ∷ xs) (y ∷ ws) (suc i) h w =
    let inside : i < length xs = omega arith in
    ap (λ l. x ∷ l) (front_set xs ws i inside (omega arith))

-- one word more in front
pub front_more : (told : Option (List ℕ)) (xs : List ℕ) (i size : ℕ) → i < length xs → i < size → IfSome (front_written (take i xs) told) (λ words. length words ≡ size)
    → written (front_written (take i xs) told) i (get_or xs i 0) ≡ front_written (take (i + 1) xs) told
front_more None xs i size h room whole = refl
front_more (Some ws) xs i size h room whole = rw add-one (ap Some (front_set xs ws i h (omega (arith, whole))))

pub front_none : (told : Option (List ℕ)) → told ≡ front_written [] told
front_none None = refl
front_none (Some ws) = refl

-- one word of the front, stored
pub written_front : (xs : List ℕ) (base : Option (List ℕ)) (i v : ℕ) → i < length xs → written (front_written xs base) i v ≡ front_written (set xs i v) base
written_front xs None i v lt = refl
written_front xs (Some ws) i v lt = ap Some (rw (length-set xs i v) (set_front xs (drop (length xs) ws) i v lt))
  where
    set_front : (xs ys : List ℕ) (i v : ℕ) → i < length xs → set (xs ++ ys) i v ≡ set xs i v ++ ys
    set_front [] ys i v lt = absurd (omega arith)
    set_front (x ∷ xs) ys zero v lt = refl
    set_front (x ∷ xs) ys (suc i) v lt = ap (λ (l : List ℕ). x ∷ l) (set_front xs ys i v (omega arith))

pub keeps_same : (bank : BankSeen) → Keeps bank bank
keeps_same bank = record {
  size = refl;
  modules = refl;
  module_size = refl;
  objects = refl;
  one_size = λ all. all;
  later = omega arith;
  last = λ last. last;
  own = λ none k. omega arith;
  idle = λ none. refl;
  missed = omega arith;
}

pub keeps_trans : (a b c : BankSeen) → Keeps a b → Keeps b c → Keeps a c
keeps_trans a b c first second = record {
  size = second.size ∙ first.size;
  modules = second.modules ∙ first.modules;
  module_size = second.module_size ∙ first.module_size;
  objects = second.objects ∙ first.objects;
  one_size = λ all. second.one_size (first.one_size all);
  later = omega (arith, first.later, second.later);
  last = λ last. second.last (first.last last);
  own = λ none k. omega (arith, first.own none k, second.own (first.objects ∙ none ∙ sym first.modules) k);
  idle = λ none. second.idle (ap (λ (m : MigrationSeen). m.running) (first.idle none) ∙ none) ∙ first.idle none;
  missed = omega (arith, first.missed, second.missed);
}

-- The counts have risen over two calls where they have in the second, or in the first.
pub rose_before : (a b c : BankSeen) → Keeps a b → SumRose b.faults c.faults → SumRose a.faults c.faults
rose_before a b c kept (inl lt) = inl (omega (arith, kept.later, lt))
rose_before a b c kept (inr last) = inr last

pub rose_after : (a b c : BankSeen) → Keeps b c → SumRose a.faults b.faults → SumRose a.faults c.faults
rose_after a b c kept (inl lt) = inl (omega (arith, kept.later, lt))
rose_after a b c kept (inr last) = inr (kept.last last)

-- a refusal after other calls
pub refuses_after : (count : Refusals → Refusals) (a b c : BankSeen) (k : ℕ) → Keeps a b → b.refused ≡ a.refused → Refuses count b c k → Refuses count a c k
refuses_after count a b c k kept same refuses = record {
  exists = omega (arith, refuses.exists, kept.modules);
  counted = rw same at refuses.counted;
  rose = rose_before a b c kept refuses.rose;
  own = λ none. omega (arith, refuses.own (kept.objects ∙ none ∙ sym kept.modules), kept.own none k);
}
