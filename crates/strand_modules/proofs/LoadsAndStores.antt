-- Serves ModuleBank::load, store and fill: the bank's loads and stores, by those of its objects.
use Rattle.std.proofs.Common.{◌≡◌, ℕ, Bool, true, false, cond, ◌<◌, ◌≤◌, ◌*◌, ◌/◌, ◌%◌, List, arith, refl, length, get_or, set, ap, sym, ◌∙◌, subst}
use Rattle.std.specs.Option.{option_map}
use Rattle.std.specs.Prelude.{Ok, Err, None, Some, IfSome}
use Rattle.std.specs.declared.option.Option.{Option}
use Rattle.std.proofs.lemmas.List.{set-get_or}
use Rattle.std.proofs.Math.Nat.{div-lt_iff_lt-mul}
use Rattle.strand_base.specs.ModuleSeen.{ModuleSeen, LoadsWord, StoresWord}
use Rattle.strand_base.specs.declared.module.ModuleFailed.{ModuleFailed}
use Rattle.strand_modules.specs.Bank.{BankSeen, CopiesOn, Keeps, bank_of, Loads, Writes, Stores, RefusesWord, copying_of, object_of_word, read_refused, as_before, nothing_refused, reads_accepted, stores_accepted}
use Rattle.strand_modules.specs.Here.{running_of}
use Rattle.strand_modules.specs.ModuleWords.{module_size}
use Rattle.strand_modules.specs.NextCopies.{CopyingSeen, CopiesNext, with_call}
use Rattle.strand_modules.specs.Objects.{Objects, MigrationSeen, in_spare, serving, served}
use Rattle.strand_modules.specs.declared.accepted.Accepted.{Accepted}
use Rattle.strand_modules.specs.declared.refusals.AtModule.{AtModule}
use Rattle.strand_modules.specs.declared.refusals.Refusals.{Refusals}
use Rattle.strand_modules.specs.declared.migration.Migration.{Migration}
use Rattle.strand_modules.proofs.BankChange.{words_change, change_keeps, change_refuses, change_called, change_quiet, word_read, whole, was, index_below}
use Rattle.strand_modules.proofs.BankWords.{part_size-le}
use Rattle.strand_modules.proofs.FrontWords.{keeps_trans}
use Rattle.strand_modules.proofs.Places.{Placed, objects}

-- a module that is migrating has a spare
pub placed_of : {X : Type 0} (f : X → ModuleSeen) (spare : Option X) (m : Migration) (count : ℕ) → m.«module» < count → Placed (running_of spare m) (option_map f spare) count
placed_of f None m count lt = tt
placed_of f (Some s) m count lt = go m.running
  where
    go : (b : Bool) → Placed (cond b (Some m.«module») None) (Some (f s)) count
    go true = lt
    go false = tt

-- where word i stands in its module
pub place_below : (size i n count : ℕ) → n ≡ count → 0 < n → i < size * count → i / n < size
place_below size i n count many some h = rw many ((div-lt_iff_lt-mul (rw many at some)).1 h)

module _ (parts : List ModuleSeen) (spare : Option ModuleSeen) (m : MigrationSeen) (refused : List Refusals) (a : Accepted) (i n : ℕ) (many : n ≡ length parts)
    (some : 0 < n) (placed : Placed m.running spare (length parts)) (h : i < module_size (objects parts spare) * length parts) (o' : Objects) (m' : MigrationSeen) (still : m' ≡ m) where
  abbrev old : BankSeen
  old = bank_of (objects parts spare) m refused a

  abbrev spared : Bool
  spared = in_spare m (i % n) (i / n)

  abbrev ServedBy : (ModuleSeen → ModuleSeen → Type 0) → Type 0
  ServedBy R = (after : ModuleSeen) × (o' ≡ served spared (i % n) after (objects parts spare)) × R (serving spared (i % n) (objects parts spare) after) after

  pub load_returns : (b : Accepted) (value : ℕ) → b ≡ reads_accepted 1 a → ServedBy (λ before after. LoadsWord {E = ModuleFailed} before after (i / n) (Ok value))
      → Loads old (bank_of o' m' refused b) i (Ok value)
  load_returns b value counted (x, is, loads) = rw (is, still, counted, many) (go (rw many at some) (rw many at loads))
    where
      go : 0 < length parts → LoadsWord {E = ModuleFailed} (serving (in_spare m (i % length parts) (i / length parts)) (i % length parts) (objects parts spare) x) x (i / length parts) (Ok value)
          → Loads old (bank_of (served (in_spare m (i % length parts) (i / length parts)) (i % length parts) x (objects parts spare)) m refused (reads_accepted 1 a)) i (Ok value)
      go some loads = record {
        kept = change_keeps parts spare m i x some placed h loads.size loads.cause.later refused refused a (reads_accepted 1 a);
        same = words_change parts spare m i x some placed h loads.size None loads.same tt;
        value = word_read parts spare m i x some placed h value loads.value;
        called = change_called parts spare m i x some placed h loads.size loads.called;
        still = refl;
        quiet = change_quiet parts spare m i x some placed h loads.size loads.cause.kept;
        accepted = refl;
        counted = refl;
        refused = tt;
        uncounted = tt;
      }

  pub load_refused : (e : ModuleFailed) (now : List Refusals) → now ≡ set refused (i % n) (read_refused (get_or refused (i % n) nothing_refused))
      → ServedBy (λ before after. LoadsWord before after (i / n) (Err e)) → Loads old (bank_of o' m' now a) i (Err (record { «module» = i % n }))
  load_refused e now counted (x, is, loads) = rw (is, still, many) (go (rw many at some) (rw many at counted) (rw many at loads))
    where
      go : 0 < length parts → now ≡ set refused (i % length parts) (read_refused (get_or refused (i % length parts) nothing_refused))
          → LoadsWord (serving (in_spare m (i % length parts) (i / length parts)) (i % length parts) (objects parts spare) x) x (i / length parts) (Err e)
          → Loads old (bank_of (served (in_spare m (i % length parts) (i / length parts)) (i % length parts) x (objects parts spare)) m now a) i (Err (record { «module» = i % length parts }))
      go some counted loads = record {
        kept = change_keeps parts spare m i x some placed h loads.size loads.cause.later refused now a a;
        same = words_change parts spare m i x some placed h loads.size None loads.same tt;
        value = tt;
        called = change_called parts spare m i x some placed h loads.size loads.called;
        still = refl;
        quiet = tt;
        accepted = tt;
        counted = tt;
        refused = change_refuses parts spare m i x some placed h loads.size loads.cause.later read_refused refused now a counted loads.cause.failed;
        uncounted = refl;
      }

  -- what is told of an object that is stored in has at least as many words as a module
  long_enough : (size : ℕ) (before : ModuleSeen) → size ≤ before.size → IfSome before.told (λ ws. length ws ≡ before.size) → IfSome before.told (λ ws. size ≤ length ws)
  long_enough size before le told = go before.told told
    where
      go : (t : Option (List ℕ)) → IfSome t (λ ws. length ws ≡ before.size) → IfSome t (λ ws. size ≤ length ws)
      go None told = tt
      go (Some ws) told = omega (arith, le, told)

  pub store_returns : (b : Accepted) (value : ℕ) → b ≡ stores_accepted 1 a → ServedBy (λ before after. StoresWord {T = Unit {0}} {E = ModuleFailed} before after (i / n) value (Ok tt))
      → Writes {T = Unit {0}} old (bank_of o' m' refused b) i value (Ok tt)
  store_returns b value counted (x, is, stores) = rw (is, still, counted, many) (go (rw many at some) (rw many at stores))
    where
      go : 0 < length parts → StoresWord {T = Unit {0}} {E = ModuleFailed} (serving (in_spare m (i % length parts) (i / length parts)) (i % length parts) (objects parts spare) x) x (i / length parts) value (Ok tt)
          → Writes {T = Unit {0}} old (bank_of (served (in_spare m (i % length parts) (i / length parts)) (i % length parts) x (objects parts spare)) m refused (stores_accepted 1 a)) i value (Ok tt)
      go some stores = record {
        kept = change_keeps parts spare m i x some placed h stores.size stores.cause.later refused refused a (stores_accepted 1 a);
        whole = whole parts spare m i x some placed h;
        done = words_change parts spare m i x some placed h stores.size (Some value) stores.ok
            (long_enough (module_size (objects parts spare)) (serving (in_spare m (i % length parts) (i / length parts)) (i % length parts) (objects parts spare) x)
            (subst (λ (o : ModuleSeen). module_size (objects parts spare) ≤ o.size) (was parts spare m i x some placed h) (part_size-le _ _ x (index_below parts spare m i x some placed h))) stores.told);
        called = change_called parts spare m i x some placed h stores.size stores.called;
        still = refl;
        quiet = change_quiet parts spare m i x some placed h stores.size stores.cause.kept;
        accepted = refl;
        counted = refl;
        same = tt;
        refused = tt;
        uncounted = tt;
      }

  pub store_refuses : (value : ℕ) (e : ModuleFailed) → ServedBy (λ before after. StoresWord {T = Unit {0}} before after (i / n) value (Err e))
      → Writes {T = Unit {0}} old (bank_of o' m' refused a) i value (Err (record { «module» = i % n }))
  store_refuses value e (x, is, stores) = rw (is, still, many) (go (rw many at some) (rw many at stores))
    where
      go : 0 < length parts → StoresWord {T = Unit {0}} (serving (in_spare m (i % length parts) (i / length parts)) (i % length parts) (objects parts spare) x) x (i / length parts) value (Err e)
          → Writes {T = Unit {0}} old (bank_of (served (in_spare m (i % length parts) (i / length parts)) (i % length parts) x (objects parts spare)) m refused a) i value (Err (record { «module» = i % length parts }))
      go some stores = record {
        kept = change_keeps parts spare m i x some placed h stores.size stores.cause.later refused refused a a;
        whole = whole parts spare m i x some placed h;
        done = tt;
        called = change_called parts spare m i x some placed h stores.size stores.called;
        still = refl;
        quiet = tt;
        accepted = tt;
        counted = tt;
        same = words_change parts spare m i x some placed h stores.size None stores.err tt;
        refused = change_refuses parts spare m i x some placed h stores.size stores.cause.later as_before refused refused a (sym (set-get_or refused (i % length parts) nothing_refused)) stores.cause.failed;
        uncounted = refl;
      }

-- a store that its module refused
pub record StoreRefused (count : Refusals → Refusals) (old new : BankSeen) (i : ℕ) (e : AtModule) : Type 0 where
  pub kept : Keeps old new
  pub same : new.told ≡ old.told
  pub called : new.calls ≡ with_call (object_of_word old i) old.calls
  pub still : new.migration ≡ old.migration
  pub refused : RefusesWord count old new i e
  pub uncounted : new.accepted ≡ old.accepted

-- the refusal of a store, counted
pub refusal_counted : (count : Refusals → Refusals) (old : BankSeen) (o : Objects) (m : MigrationSeen) (refused now : List Refusals) (a : Accepted) (i value : ℕ) (e : AtModule)
    → now ≡ set refused e.«module» (count (get_or refused e.«module» nothing_refused)) → Writes {T = Unit {0}} old (bank_of o m refused a) i value (Err e)
    → StoreRefused count old (bank_of o m now a) i e
refusal_counted count old o m refused now a i value e more s =
    let same : refused ≡ old.refused = s.refused.1.counted ∙ set-get_or old.refused e.«module» nothing_refused in
    record {
      kept = record {
        size = s.kept.size;
        modules = s.kept.modules;
        module_size = s.kept.module_size;
        objects = s.kept.objects;
        one_size = s.kept.one_size;
        later = s.kept.later;
        last = s.kept.last;
        own = s.kept.own;
        idle = s.kept.idle;
        missed = s.kept.missed;
      };
      same = s.same;
      called = s.called;
      still = s.still;
      refused = (s.refused.0, record { exists = s.refused.1.exists; counted = rw same at more; rose = s.refused.1.rose; own = s.refused.1.own }, s.refused.2);
      uncounted = s.uncounted;
    }

pub store_refused_returns : (count : Refusals → Refusals) (old new : BankSeen) (i value : ℕ) (e : AtModule) → IfSome old.told (λ words. length words ≡ old.size) → StoreRefused count old new i e
    → Stores {T = Unit {0}} count old new i value (Err e)
store_refused_returns count _ _ i value e whole refused = record {
  kept = refused.kept;
  whole = whole;
  done = tt;
  copies = tt;
  quiet = tt;
  accepted = tt;
  counted = tt;
  same = refused.same;
  called = refused.called;
  still = refused.still;
  refused = refused.refused;
  uncounted = refused.uncounted;
}

-- a store that was accepted, and then what it copies
pub store_copies : (count : Refusals → Refusals) (before middle now : BankSeen) (i value : ℕ) → Writes {T = Unit {0}} before middle i value (Ok tt) → CopiesOn middle now → Stores {T = Unit {0}} count before now i value (Ok tt)
store_copies count before middle now i value writes copies = record {
  kept = keeps_trans before middle now writes.kept copies.kept;
  whole = writes.whole;
  done = copies.same ∙ writes.done;
  copies = subst (λ (c : CopyingSeen). CopiesNext c (copying_of now)) begun copies.copies;
  quiet = record {
    own = λ none. copies.quiet.own (ap (λ (m : MigrationSeen). m.running) writes.still ∙ none) ∙ writes.quiet;
    sum = rw (writes.still, writes.quiet) at copies.quiet.sum;
  };
  accepted = copies.refused ∙ writes.accepted;
  counted = copies.accepted ∙ writes.counted;
  same = tt;
  called = tt;
  still = tt;
  refused = tt;
  uncounted = tt;
}
  where
    begun : copying_of middle ≡ record (copying_of before) { calls = with_call (object_of_word before i) before.calls }
    begun = rw (writes.kept.module_size, writes.kept.modules, writes.still, writes.quiet, writes.called) refl
