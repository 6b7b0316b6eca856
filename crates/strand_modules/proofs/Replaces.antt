-- Serves clauses ok and err of ModuleBank::replace: a module is replaced by the copy of its words.
use Rattle.std.proofs.Common.{◌≡◌, ◌≢◌, ℕ, ◌+◌, ◌*◌, ◌<◌, ◌≤◌, List, [], length, take, drop, get_or, set, map, arith, refl, ap, sym, ◌∙◌, subst, append-nil, length-set, get_or-set_same}
use Rattle.std.proofs.lemmas.List.{take_all, drop_all, length-append, length-map, map-set, get_or-map, get_or_append_left, set-append_left, set-get_or}
use Rattle.std.proofs.Math.Seq.{map-set_same}
use Rattle.std.specs.Prelude.{◌↔◌, Bool, false, Ok, Err, None, Some, IfSome, IsTrue, MatchOption}
use Rattle.std.proofs.Common.{true≢false}
use Rattle.std.specs.declared.option.Option.{Option}
use Rattle.strand_base.specs.ModuleSeen.{ModuleSeen}
use Rattle.strand_base.specs.Counts.{Rose, counted, next}
use Rattle.strand_base.proofs.Counts.{counted_again}
use Rattle.strand_modules.specs.Bank.{BankSeen, Keeps, bank_of}
use Rattle.strand_modules.specs.Copying.{Copies, CopiesTold, CopiesFirst}
use Rattle.strand_modules.specs.ModuleWords.{part_size, module_size, in_places, beside, told_words}
use Rattle.strand_modules.specs.Objects.{MigrationSeen, all_objects, if_any}
use Rattle.strand_modules.specs.Replacing.{Replaces, KeepsModule, Fits, AskedOf}
use Rattle.strand_modules.specs.declared.accepted.Accepted.{Accepted}
use Rattle.strand_modules.specs.declared.refusals.Refusals.{Refusals}
use Rattle.strand_modules.specs.declared.faults.ReplaceFault.TheVariants as why
use Rattle.strand_modules.specs.declared.copying.CopyFault.TheVariants.{Load, Store}
use Rattle.strand_modules.proofs.FaultCounts.{NoneLower, last_later, sum_later}
use Rattle.strand_modules.proofs.ModuleChange.{never_lower}
use Rattle.strand_modules.proofs.Places.{length_in_places, objects, place_other, set_again}
use Rattle.strand_modules.proofs.FrontWords.{keeps_same}
use Rattle.strand_modules.proofs.TwoObjects.{beside_none}
use Rattle.strand_modules.proofs.PartSize.{get_or-seen}
use Rattle.strand_modules.proofs.BankWords.{part_size-set, told_words-same, told_words-none}

-- what the object tells once all words are copied
copied_told : (n : ℕ) (from to to' : Option (List ℕ)) → CopiesTold n from to to' → IfSome from (λ words. length words ≡ n) → IfSome to (λ words. length words ≡ n)
    → MatchOption to (to' ≡ None) (λ _. IfSome from (λ words. to' ≡ Some words))
copied_told n from None to' copies long short = copies
copied_told n None (Some words) to' copies long short = tt
copied_told n (Some source) (Some words) to' copies long short =
    let whole : take n source ≡ source = take_all n source (omega (arith, long)) in
    let none : drop (length source) words ≡ [] = drop_all (length source) words (omega (arith, long, short)) in
    copies ∙ rw (whole, none, append-nil source) refl

self : (before now : Option (List ℕ)) → now ≡ before → IfSome before (λ words. now ≡ Some words)
self None now e = tt
self (Some words) now e = e

-- Module i is this part, which is not migrating, and the object has as many words.
module _ (parts : List ModuleSeen) (spare : Option ModuleSeen) (m : MigrationSeen) (refused : List Refusals) (a : Accepted) (i : ℕ) (part object : ModuleSeen) (inside : i < length parts)
    (is : (d : ModuleSeen) → get_or parts i d ≡ part) (same_size : object.size ≡ part.size) (other : m.running ≢ Some i) where
  abbrev all : List ModuleSeen
  all = all_objects (objects parts spare)

  abbrev old : BankSeen
  old = bank_of (objects parts spare) m refused a

  abbrev with_part : ModuleSeen → BankSeen
  with_part now = bank_of (objects (set parts i now) spare) m refused a

  inside_all : i < length all
  inside_all = omega (arith, inside, length-append parts (if_any spare))

  is_all : (d : ModuleSeen) → get_or all i d ≡ part
  is_all d = get_or_append_left parts (if_any spare) d i inside ∙ is d

  all_is : (now : ModuleSeen) → all_objects (objects (set parts i now) spare) ≡ set all i now
  all_is now = sym (set-append_left parts (if_any spare) i now inside)

  measured : (f : ModuleSeen → ℕ) → get_or (map f all) i 0 ≡ f part
  measured f = get_or-map f all i part 0 inside_all ∙ ap f (is_all part)

  measure_is : (f : ModuleSeen → ℕ) (now : ModuleSeen) → map f (all_objects (objects (set parts i now) spare)) ≡ set (map f all) i (f now)
  measure_is f now = ap (map f) (all_is now) ∙ map-set f all i now

  fits : Fits old i object
  fits = (inside, other, same_size ∙ sym (measured (λ o. o.size)))

  module _ (now : ModuleSeen) (size : now.size ≡ part.size) where
    same_part : module_size (objects (set parts i now) spare) ≡ module_size (objects parts spare)
    same_part = ap part_size (all_is now) ∙ part_size-set all i now inside_all (size ∙ ap (λ (o : ModuleSeen). o.size) (sym (is_all now)))

    same_sizes : map (λ o. o.size) (all_objects (objects (set parts i now) spare)) ≡ map (λ o. o.size) all
    same_sizes = ap (map (λ (o : ModuleSeen). o.size)) (all_is now) ∙ map-set_same (λ (o : ModuleSeen). o.size) all i now part (size ∙ ap (λ (o : ModuleSeen). o.size) (sym (is_all part)))

    same_count : (with_part now).size ≡ old.size
    same_count = ap (λ (n : ℕ). n * length (set parts i now)) same_part ∙ ap (λ (n : ℕ). module_size (objects parts spare) * n) (length-set parts i now)

    -- the words of all modules, of which one is this
    words_are : (with_part now).told ≡ beside spare (told_words (module_size (objects parts spare)) (set (in_places (module_size (objects parts spare)) m.running m.copied spare parts) i now))
    words_are =
        ap (λ (n : ℕ). beside spare (told_words n (in_places n m.running m.copied spare (set parts i now)))) same_part
        ∙ ap (λ (ps : List ModuleSeen). beside spare (told_words (module_size (objects parts spare)) ps)) (place_other (module_size (objects parts spare)) m.copied parts i now m.running spare other).0

    abbrev size_ : ℕ
    size_ = module_size (objects parts spare)

    abbrev ps : List ModuleSeen
    ps = in_places (module_size (objects parts spare)) m.running m.copied spare parts

    in_ps : i < length ps
    in_ps = rw (length_in_places (module_size (objects parts spare)) m.running m.copied spare parts) inside

    at_ps : (d : ModuleSeen) → get_or ps i d ≡ part
    at_ps d = (place_other (module_size (objects parts spare)) m.copied parts i now m.running spare other).1 d ∙ is d

    pub words_same : now.told ≡ part.told → (with_part now).told ≡ old.told
    words_same told = words_are ∙ ap (beside spare) (told_words-same size_ ps i now in_ps (told ∙ ap (λ (o : ModuleSeen). o.told) (sym (at_ps now))))

    pub bank_told : (t : Option (List ℕ)) → MatchOption t (now.told ≡ None) (λ _. IfSome part.told (λ words. now.told ≡ Some words))
        → MatchOption t ((with_part now).told ≡ None) (λ _. IfSome old.told (λ words. (with_part now).told ≡ Some words))
    bank_told None e = words_are ∙ ap (beside spare) (told_words-none size_ ps i now in_ps e) ∙ nothing spare
      where
        nothing : (s : Option ModuleSeen) → beside s None ≡ None
        nothing None = refl
        nothing (Some s) = beside_none s
    bank_told (Some words) e = go part.told refl e
      where
        go : (t : Option (List ℕ)) → part.told ≡ t → IfSome t (λ words. now.told ≡ Some words) → IfSome old.told (λ words. (with_part now).told ≡ Some words)
        go None none e =
            let unchanged : set ps i part ≡ ps = ap (set ps i) (sym (at_ps part)) ∙ set-get_or ps i part in
            let nothing : old.told ≡ None = ap (λ (l : List ModuleSeen). beside spare (told_words size_ l)) (sym unchanged) ∙ ap (beside spare) (told_words-none size_ ps i part in_ps none) ∙ still spare in
            rw nothing tt
          where
            still : (s : Option ModuleSeen) → beside s None ≡ None
            still None = refl
            still (Some s) = beside_none s
        go (Some source) told e = self old.told (with_part now).told (words_same (e ∙ sym told))

    pub keeps : part.faults ≤ now.faults → Keeps old (with_part now)
    keeps later =
        let lower : NoneLower (map (λ o. o.faults) all) (map (λ o. o.faults) (all_objects (objects (set parts i now) spare))) =
        subst (λ (l : List ℕ). NoneLower (map (λ o. o.faults) all) l) (sym (measure_is (λ o. o.faults) now))
        (never_lower (map (λ o. o.faults) all) i now.faults (rw (length-map all (λ o. o.faults)) inside_all) (omega (arith, later, measured (λ o. o.faults)))) in
        let as_many : length (map (λ (o : ModuleSeen). o.faults) all) ≡ length (map (λ (o : ModuleSeen). o.faults) (all_objects (objects (set parts i now) spare))) =
        sym (ap (λ (l : List ℕ). length l) (measure_is (λ o. o.faults) now) ∙ length-set (map (λ o. o.faults) all) i now.faults) in
        record {
          size = same_count;
          modules = length-set parts i now;
          module_size = same_part;
          objects = ap (λ (l : List ℕ). length l) same_sizes;
          one_size = λ one n lt. ap (λ (l : List ℕ). get_or l n 0) same_sizes ∙ one n (subst (λ (l : List ℕ). n < length l) same_sizes lt) ∙ sym same_part;
          later = sum_later _ _ as_many lower;
          last = last_later _ _ lower;
          own = λ none k. lower k;
          idle = λ none. refl;
          missed = omega arith;
        }

  pub replaced : (from' to' : ModuleSeen) → IfSome part.told (λ words. length words ≡ part.size) → IfSome object.told (λ words. length words ≡ part.size)
      → CopiesFirst part.size part from' object to' → Replaces old (with_part to') i object
  replaced from' to' long short copies =
      let size : to'.size ≡ part.size = copies.size_to ∙ same_size in
      record {
        fits = fits;
        size = same_count to' size;
        modules = length-set parts i to';
        module_size = same_part to' size;
        sizes = same_sizes to' size;
        told = bank_told to' size object.told (copied_told part.size part.told object.told to'.told copies.told_to long short);
        faults = measure_is (λ o. o.faults) to' ∙ ap (set (map (λ o. o.faults) all) i) copies.quiet_to;
        calls = measure_is (λ o. o.calls) to' ∙ ap (set (map (λ o. o.calls) all) i) (rw same_size copies.calls_to);
        still = refl;
        refused = refl;
        accepted = refl;
      }

  asked_of : (from' : ModuleSeen) (n : ℕ) → from'.calls ≡ counted (n + 1) part.calls → AskedOf old (with_part from') i (n + 1)
  asked_of from' n calls = measure_is (λ o. o.calls) from' ∙ ap (set (map (λ o. o.calls) all) i) (calls ∙ ap (counted (n + 1)) (sym (measured (λ o. o.calls))))

  pub not_loaded : (from' to' : ModuleSeen) → Copies {T = Unit {0}} part from' object to' (Err Load) → KeepsModule old (with_part from') i object to' (why.Load i)
  not_loaded from' to' (n, below, (middle, e, copies, loads)) =
      let size : from'.size ≡ part.size = loads.size ∙ copies.size in
      let later : part.faults ≤ from'.faults = omega (arith, loads.cause.later, copies.quiet) in
      let now : get_or (map (λ o. o.faults) (all_objects (objects (set parts i from') spare))) i 0 ≡ from'.faults =
      ap (λ (l : List ℕ). get_or l i 0) (measure_is (λ o. o.faults) from') ∙ get_or-set_same (map (λ o. o.faults) all) i from'.faults 0 (rw (length-map all (λ o. o.faults)) inside_all) in
      record {
        kept = keeps from' size later;
        told = words_same from' size (loads.same ∙ copies.same);
        still = refl;
        refused = refl;
        accepted = refl;
        size = copies.size_to;
        fails = (
          fits,
          refl,
          subst (λ (v : ℕ). Rose v (get_or (map (λ o. o.faults) (all_objects (objects (set parts i from') spare))) i 0)) (copies.quiet ∙ sym (measured (λ o. o.faults)))
              (subst (λ (v : ℕ). Rose middle.faults v) (sym now) loads.cause.failed),
          (n, omega (arith, below, same_size), asked_of from' n (loads.called ∙ ap next copies.calls ∙ counted_again n 1 part.calls), copies.calls_to),
          copies.quiet_to,
        );
      }

  pub not_stored : (from' to' : ModuleSeen) → Copies {T = Unit {0}} part from' object to' (Err Store) → KeepsModule old (with_part from') i object to' why.Store
  not_stored from' to' (n, below, (middle, middle', value, e, copies, loads, stores)) =
      let size : from'.size ≡ part.size = loads.size ∙ copies.size in
      let quiet : from'.faults ≡ part.faults = loads.cause.kept ∙ copies.quiet in
      record {
        kept = keeps from' size (omega (arith, quiet));
        told = words_same from' size (loads.same ∙ copies.same);
        still = refl;
        refused = refl;
        accepted = refl;
        size = stores.size ∙ copies.size_to;
        fails = (
          fits,
          rw copies.quiet_to at stores.cause.failed,
          (
            n,
            omega (arith, below, same_size),
            asked_of from' n (loads.called ∙ ap next copies.calls ∙ counted_again n 1 part.calls),
            stores.called ∙ ap next copies.calls_to ∙ counted_again n 1 object.calls,
          ),
          ap (map (λ (o : ModuleSeen). o.faults)) (all_is from') ∙ map-set_same (λ (o : ModuleSeen). o.faults) all i from' part (quiet ∙ ap (λ (o : ModuleSeen). o.faults) (sym (is_all part))),
        );
      }

-- The same, as the call has it: the objects of the modules, and what is seen of each.
module _ {X : Type 0} (f : X → ModuleSeen) (xs : List X) (spare : Option ModuleSeen) (m : MigrationSeen) (refused : List Refusals) (a : Accepted) (i : ℕ) (x : X) (object : ModuleSeen) (inside : i < length xs)
    (item : x ≡ get_or xs i x) (same_size : object.size ≡ (f x).size) (other : m.running ≢ Some i) where
  is_part : (d : ModuleSeen) → get_or (map f xs) i d ≡ f x
  is_part d = get_or-seen f xs i x d inside item

  within : i < length (map f xs)
  within = rw (length-map xs f) inside

  abbrev was : BankSeen
  was = bank_of (objects (map f xs) spare) m refused a

  pub replace_ok : (ms ms' : List ModuleSeen) (to' : ModuleSeen) → IfSome (f x).told (λ words. length words ≡ (f x).size) → IfSome object.told (λ words. length words ≡ object.size)
      → ((after : ModuleSeen) × (ms ≡ set (map f xs) i after) × Copies {T = Unit {0}} (get_or (map f xs) i after) after object to' (Ok tt)) → ms' ≡ set ms i to'
      → Replaces was (bank_of (objects ms' spare) m refused a) i object
  replace_ok ms ms' to' long short (after, changed, copies) put =
      subst (λ (l : List ModuleSeen). Replaces was (bank_of (objects l spare) m refused a) i object) (sym (put ∙ ap (λ (l : List ModuleSeen). set l i to') changed ∙ set_again (map f xs) i after to'))
      (replaced (map f xs) spare m refused a i (f x) object within is_part same_size other after to' long (rw same_size at short) (rw (is_part after) at copies))

  pub load_failed : (ms : List ModuleSeen) (to' : ModuleSeen) → ((after : ModuleSeen) × (ms ≡ set (map f xs) i after) × Copies {T = Unit {0}} (get_or (map f xs) i after) after object to' (Err Load))
      → KeepsModule was (bank_of (objects ms spare) m refused a) i object to' (why.Load i)
  load_failed ms to' (after, changed, copies) =
      subst (λ (l : List ModuleSeen). KeepsModule was (bank_of (objects l spare) m refused a) i object to' (why.Load i)) (sym changed)
      (not_loaded (map f xs) spare m refused a i (f x) object within is_part same_size other after to' (rw (is_part after) at copies))

  pub store_failed : (ms : List ModuleSeen) (to' : ModuleSeen) → ((after : ModuleSeen) × (ms ≡ set (map f xs) i after) × Copies {T = Unit {0}} (get_or (map f xs) i after) after object to' (Err Store))
      → KeepsModule was (bank_of (objects ms spare) m refused a) i object to' why.Store
  store_failed ms to' (after, changed, copies) =
      subst (λ (l : List ModuleSeen). KeepsModule was (bank_of (objects l spare) m refused a) i object to' why.Store) (sym changed)
      (not_stored (map f xs) spare m refused a i (f x) object within is_part same_size other after to' (rw (is_part after) at copies))

-- a test that failed
pub not_true : {P : Type 0} (b : Bool) → (IsTrue b ↔ P) → b ≡ false → P → ⊥
not_true b told e p = absurd (true≢false (sym (told.1 p) ∙ e))

-- The object is of another size than the module.
pub size_refused : {X : Type 0} (f : X → ModuleSeen) (xs : List X) (spare : Option ModuleSeen) (m : MigrationSeen) (refused : List Refusals) (a : Accepted) (i : ℕ) (x : X) (object : ModuleSeen) → i < length xs
    → x ≡ get_or xs i x → (need have : ℕ) → need ≡ (f x).size → have ≡ object.size → (need ≡ have → ⊥) → (m.running ≡ Some i → ⊥)
    → KeepsModule (bank_of (objects (map f xs) spare) m refused a) (bank_of (objects (map f xs) spare) m refused a) i object object (why.Size need have)
size_refused f xs spare m refused a i x object inside item need have is_need is_have unequal other =
    let within : i < length (map f xs) = rw (length-map xs f) inside in
    let room : i < length (all_objects (objects (map f xs) spare)) = omega (arith, within, length-append (map f xs) (if_any spare)) in
    record {
      kept = keeps_same (bank_of (objects (map f xs) spare) m refused a);
      told = refl;
      still = refl;
      refused = refl;
      accepted = refl;
      size = refl;
      fails = (
        within,
        other,
        is_need ∙ sym (get_or-map (λ (o : ModuleSeen). o.size) (all_objects (objects (map f xs) spare)) i object 0 room
            ∙ ap (λ (o : ModuleSeen). o.size) (get_or_append_left (map f xs) (if_any spare) object i within ∙ get_or-seen f xs i x object inside item)),
        is_have,
        unequal,
        refl,
        refl,
      );
    }
