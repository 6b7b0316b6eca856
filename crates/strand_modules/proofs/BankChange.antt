-- Serves ModuleBank::load, store and fill: the bank where the object that serves a word becomes another.
use Rattle.std.proofs.Common.{◌≡◌, ℕ, Bool, true, false, cond, ◌<◌, ◌≤◌, ◌*◌, ◌/◌, ◌%◌, List, [], ◌∷◌, ◌++◌, arith, refl, length, get_or, set, map, ap, sym, subst, ◌∙◌}
use Rattle.std.proofs.Math.Nat.{div-lt_iff_lt-mul}
use Rattle.std.proofs.lemmas.List.{length-map, length-append, get_or_default}
use Rattle.std.specs.Prelude.{None, Some, IfSome, is_some, nat_lt, slice_get}
use Rattle.std.specs.declared.option.Option.{Option}
use Rattle.strand_base.specs.Counts.{Rose, next}
use Rattle.strand_base.specs.ModuleSeen.{ModuleSeen}
use Rattle.strand_modules.specs.Bank.{Keeps, RefusesWord, bank_of, nothing_refused}
use Rattle.strand_modules.specs.NextCopies.{with_call}
use Rattle.strand_modules.specs.ModuleWords.{part_size, module_size, word_count, in_places, beside, told_words, bank_words}
use Rattle.strand_modules.specs.Objects.{Objects, MigrationSeen, all_objects, in_spare, serving, served}
use Rattle.strand_modules.specs.declared.accepted.Accepted.{Accepted}
use Rattle.strand_modules.specs.declared.refusals.Refusals.{Refusals}
use Rattle.strand_modules.proofs.BankWords.{part_size-set, told_words-same, told_words-written, told_words-value, length-told_words}
use Rattle.strand_modules.proofs.FaultCounts.{NoneLower, sum_later, last_later, sum_rose}
use Rattle.strand_modules.proofs.ModuleChange.{changed_sizes, changed_later, changed_count, changed_quiet, changed_rose, changed_calls}
use Rattle.strand_modules.proofs.Places.{Placed, IsThere, IsLong, objects, changed, place_changes, place_reads, place_long, length_in_places, is_there, all_served, serving_is, inside_all, served_length}

-- whether the spare tells its words
abbrev Alike : Option ModuleSeen → Option ModuleSeen → Type 0
Alike None None = Unit {0}
Alike None (Some t) = ⊥
Alike (Some s) None = ⊥
Alike (Some s) (Some t) = is_some t.told ≡ is_some s.told

by_told : (s t r : Option (List ℕ)) → is_some t ≡ is_some s → (elim t as (λ _. Option (List ℕ)) [ None ↦ None | Some words ↦ r ]) ≡ (elim s as (λ _. Option (List ℕ)) [ None ↦ None | Some words ↦ r ])
by_told None None r e = refl
by_told None (Some ws) r e = absurd (cc)
by_told (Some ws) None r e = absurd (cc)
by_told (Some ws) (Some vs) r e = refl

pub beside_alike : (s t : Option ModuleSeen) (told : Option (List ℕ)) → Alike s t → beside t told ≡ beside s told
beside_alike None None told e = refl
beside_alike None (Some t) told e = absurd e
beside_alike (Some s) None told e = absurd e
beside_alike (Some s) (Some t) told e = by_told s.told t.told told e

pub beside_changed : (s : Option ModuleSeen) (c : Option ℕ) (i : ℕ) (told : Option (List ℕ)) → beside s (changed c i told) ≡ changed c i (beside s told)
beside_changed None c i told = refl
beside_changed (Some s) c i told = go s.told
  where
    nothing : (c : Option ℕ) → None ≡ changed c i None
    nothing None = refl
    nothing (Some v) = refl

    go : (t : Option (List ℕ)) → (elim t as (λ _. Option (List ℕ)) [ None ↦ None | Some words ↦ changed c i told ]) ≡ changed c i (elim t as (λ _. Option (List ℕ)) [ None ↦ None | Some words ↦ told ])
    go None = nothing c
    go (Some ws) = refl

pub beside_if : (P : List ℕ → Type 0) (s : Option ModuleSeen) (told : Option (List ℕ)) → IfSome told P → IfSome (beside s told) P
beside_if P None told holds = holds
beside_if P (Some s) told holds = go s.told
  where
    go : (t : Option (List ℕ)) → IfSome (elim t as (λ _. Option (List ℕ)) [ None ↦ None | Some words ↦ told ]) P
    go None = tt
    go (Some ws) = holds

changed_some : (c : Option ℕ) (at : ℕ) (told : Option (List ℕ)) → is_some (changed c at told) ≡ is_some told
changed_some None at told = refl
changed_some (Some v) at None = refl
changed_some (Some v) at (Some ws) = refl

same_alike : (s : Option ModuleSeen) → Alike s s
same_alike None = tt
same_alike (Some s) = refl

served_alike : (parts : List ModuleSeen) (j at : ℕ) (x : ModuleSeen) (c : Option ℕ) (spared : Bool) (spare : Option ModuleSeen) → IsThere spared spare
    → x.told ≡ changed c at (serving spared j (objects parts spare) x).told → Alike spare (served spared j x (objects parts spare)).spare
served_alike parts j at x c true None there told = absurd there
served_alike parts j at x c true (Some s) there told = ap is_some told ∙ changed_some c at s.told
served_alike parts j at x c false spare there told = same_alike spare

-- a change of a module, by the number of modules
told_changes : (size : ℕ) (ms : List ModuleSeen) (n i : ℕ) (y : ModuleSeen) (c : Option ℕ) → n ≡ length ms → 0 < n → i < size * n → IsLong size c (get_or ms (i % n) y).told
    → y.told ≡ changed c (i / n) (get_or ms (i % n) y).told → told_words size (set ms (i % n) y) ≡ changed c i (told_words size ms)
told_changes size ms n i y None e some h long told = told_words-same size ms (i % n) y (omega (arith, e, some)) told
told_changes size ms n i y (Some v) e some h long told = rw e (told_words-written size ms i v y (rw e at some) (rw e at h) (rw e at long) (rw e at told))

told_value : (size : ℕ) (ms : List ModuleSeen) (n i v : ℕ) (d : ModuleSeen) → n ≡ length ms → 0 < n → i < size * n → IfSome (get_or ms (i % n) d).told (λ ws. slice_get ws (i / n) ≡ Some v)
    → IfSome (told_words size ms) (λ ws. slice_get ws i ≡ Some v)
told_value size ms n i v d e some h reads = told_words-value size ms i v d (rw e at some) (rw e at h) (rw e at reads)

-- Word i is at a place of module i mod m, and the object that serves it becomes x.
module _ (parts : List ModuleSeen) (spare : Option ModuleSeen) (m : MigrationSeen) (i : ℕ) (x : ModuleSeen)
    (some : 0 < length parts) (placed : Placed m.running spare (length parts)) (h : i < module_size (objects parts spare) * length parts) where
  abbrev spared : Bool
  spared = in_spare m (i % length parts) (i / length parts)

  abbrev now : Objects
  now = served spared (i % length parts) x (objects parts spare)

  abbrev before : ModuleSeen
  before = serving spared (i % length parts) (objects parts spare) x

  abbrev index : ℕ
  index = cond spared (length parts) (i % length parts)

  module_below : i % length parts < length parts
  module_below = omega arith

  place_below : i / length parts < module_size (objects parts spare)
  place_below = (div-lt_iff_lt-mul some).1 h

  there : IsThere spared spare
  there = is_there m.running spare (length parts) (i % length parts) (nat_lt (i / length parts) m.copied) placed

  all : all_objects now ≡ set (all_objects (objects parts spare)) index x
  all = all_served parts (i % length parts) module_below spared spare x there

  pub was : get_or (all_objects (objects parts spare)) index x ≡ before
  was = serving_is parts (i % length parts) module_below spared spare x there

  pub index_below : index < length (all_objects (objects parts spare))
  index_below = inside_all parts (i % length parts) module_below spared spare there

  count : length now.parts ≡ length parts
  count = served_length parts (i % length parts) module_below spared spare x

  abbrev places : List ModuleSeen
  places = in_places (module_size (objects parts spare)) m.running m.copied spare parts

  places_count : length places ≡ length parts
  places_count = length_in_places (module_size (objects parts spare)) m.running m.copied spare parts

  long_places : (c : Option ℕ) (d : ModuleSeen) → IsLong (module_size (objects parts spare)) c before.told → IsLong (module_size (objects parts spare)) c (get_or places (i % length parts) d).told
  long_places None d long = tt
  long_places (Some v) d long =
      subst (λ (o : ModuleSeen). IfSome o.told (λ ws. module_size (objects parts spare) ≤ length ws)) (get_or_default places (i % length parts) x d (rw places_count module_below))
      (place_long (module_size (objects parts spare)) m.copied parts (i % length parts) (i / length parts) x module_below m.running spare placed long)

  module _ (size : x.size ≡ before.size) where
    same_size : x.size ≡ (get_or (all_objects (objects parts spare)) index x).size
    same_size = size ∙ ap (λ (o : ModuleSeen). o.size) (sym was)

    module_same : module_size now ≡ module_size (objects parts spare)
    module_same = ap part_size all ∙ part_size-set (all_objects (objects parts spare)) index x index_below same_size

    pub words_change : (c : Option ℕ) → x.told ≡ changed c (i / length parts) before.told → IsLong (module_size (objects parts spare)) c before.told → bank_words now m ≡ changed c i (bank_words (objects parts spare) m)
    words_change c told long =
        let size_ : ℕ = module_size (objects parts spare) in
        let change = place_changes size_ m.copied parts (i % length parts) (i / length parts) x c module_below place_below m.running spare placed (told, long) in
        ap (λ (n : ℕ). beside now.spare (told_words n (in_places n m.running m.copied now.spare now.parts))) module_same
        ∙ ap (λ (ps : List ModuleSeen). beside now.spare (told_words size_ ps)) change.1
        ∙ beside_alike spare now.spare _ (served_alike parts (i % length parts) (i / length parts) x c spared spare there told)
        ∙ ap (beside spare) (told_changes size_ places (length parts) i change.0 c (sym places_count) some h (long_places c change.0 long) change.2)
        ∙ beside_changed spare c i (told_words size_ places)

    sizes_same : map (λ o. o.size) (all_objects now) ≡ map (λ o. o.size) (all_objects (objects parts spare))
    sizes_same = ap (map (λ (o : ModuleSeen). o.size)) all ∙ changed_sizes (all_objects (objects parts spare)) index x index_below same_size

    module _ (later : before.faults ≤ x.faults) where
      none_lower : NoneLower (map (λ o. o.faults) (all_objects (objects parts spare))) (map (λ o. o.faults) (all_objects now))
      none_lower = subst (λ (os : List ModuleSeen). NoneLower (map (λ o. o.faults) (all_objects (objects parts spare))) (map (λ o. o.faults) os)) (sym all)
          (changed_later (all_objects (objects parts spare)) index x index_below (rw was later))

      as_many : length (map (λ (o : ModuleSeen). o.faults) (all_objects (objects parts spare))) ≡ length (map (λ (o : ModuleSeen). o.faults) (all_objects now))
      as_many = changed_count (all_objects (objects parts spare)) index x index_below ∙ ap (λ (os : List ModuleSeen). length (map (λ (o : ModuleSeen). o.faults) os)) (sym all)

      pub change_keeps : (r r' : List Refusals) (a a' : Accepted) → Keeps (bank_of (objects parts spare) m r a) (bank_of now m r' a')
      change_keeps r r' a a' = record {
        size = ap (λ (n : ℕ). n * length now.parts) module_same ∙ ap (λ (n : ℕ). module_size (objects parts spare) * n) count;
        modules = count;
        module_size = module_same;
        objects = ap (λ (xs : List ℕ). length xs) sizes_same;
        one_size = λ all_one k lt. ap (λ (xs : List ℕ). get_or xs k 0) sizes_same ∙ all_one k (subst (λ (xs : List ℕ). k < length xs) sizes_same lt) ∙ sym module_same;
        later = sum_later _ _ as_many none_lower;
        last = last_later _ _ none_lower;
        own = λ none k. none_lower k;
        idle = λ none. refl;
        missed = omega arith;
      }

      -- without a spare it is a module's own object
      own_index : (b : Bool) (s : Option ModuleSeen) → IsThere b s → length (map (λ (o : ModuleSeen). o.size) (all_objects (objects parts s))) ≡ length parts → cond b (length parts) (i % length parts) ≡ i % length parts
      own_index true None is none = absurd is
      own_index true (Some s) is none = absurd (omega (arith, none, length-map (parts ++ s ∷ []) (λ (o : ModuleSeen). o.size), length-append parts (s ∷ [])))
      own_index false s is none = refl

      -- the object that serves the word failed
      rose_here : Rose before.faults x.faults → Rose (get_or (map (λ o. o.faults) (all_objects (objects parts spare))) index 0) (get_or (map (λ o. o.faults) (all_objects now)) index 0)
      rose_here rose = subst (λ (os : List ModuleSeen). Rose (get_or (map (λ o. o.faults) (all_objects (objects parts spare))) index 0) (get_or (map (λ o. o.faults) os) index 0)) (sym all)
          (changed_rose (all_objects (objects parts spare)) index x index_below (rw was rose))

      pub change_refuses : (count_ : Refusals → Refusals) (r r' : List Refusals) (a : Accepted) → r' ≡ set r (i % length parts) (count_ (get_or r (i % length parts) nothing_refused)) → Rose before.faults x.faults
          → RefusesWord count_ (bank_of (objects parts spare) m r a) (bank_of now m r' a) i (record { «module» = i % length parts })
      change_refuses count_ r r' a counted rose = (
        refl,
        record {
          exists = module_below;
          counted = counted;
          rose = sum_rose _ _ index as_many none_lower (rose_here rose);
          own = λ none. subst (λ (k : ℕ). Rose (get_or (map (λ o. o.faults) (all_objects (objects parts spare))) k 0) (get_or (map (λ o. o.faults) (all_objects now)) k 0)) (own_index spared spare there none) (rose_here rose);
        },
        rose_here rose,
      )

    pub change_called : x.calls ≡ next before.calls → map (λ o. o.calls) (all_objects now) ≡ with_call index (map (λ o. o.calls) (all_objects (objects parts spare)))
    change_called more = ap (map (λ (o : ModuleSeen). o.calls)) all ∙ changed_calls (all_objects (objects parts spare)) index x index_below next (more ∙ ap (λ (o : ModuleSeen). next o.calls) (sym was))

    pub change_quiet : x.faults ≡ before.faults → map (λ o. o.faults) (all_objects now) ≡ map (λ o. o.faults) (all_objects (objects parts spare))
    change_quiet same = ap (map (λ (o : ModuleSeen). o.faults)) all ∙ changed_quiet (all_objects (objects parts spare)) index x index_below (same ∙ ap (λ (o : ModuleSeen). o.faults) (sym was))

  -- what a word is
  pub word_read : (v : ℕ) → IfSome before.told (λ ws. slice_get ws (i / length parts) ≡ Some v) → IfSome (bank_words (objects parts spare) m) (λ ws. slice_get ws i ≡ Some v)
  word_read v reads = beside_if (λ ws. slice_get ws i ≡ Some v) spare (told_words (module_size (objects parts spare)) places)
      (told_value (module_size (objects parts spare)) places (length parts) i v x (sym places_count) some h
      (place_reads (module_size (objects parts spare)) m.copied parts (i % length parts) (i / length parts) v x module_below place_below m.running spare placed reads))

  pub whole : IfSome (bank_words (objects parts spare) m) (λ ws. length ws ≡ word_count (objects parts spare))
  whole = beside_if (λ ws. length ws ≡ word_count (objects parts spare)) spare (told_words (module_size (objects parts spare)) places)
      (subst (λ (n : ℕ). IfSome (told_words (module_size (objects parts spare)) places) (λ ws. length ws ≡ module_size (objects parts spare) * n)) places_count (length-told_words (module_size (objects parts spare)) places))
