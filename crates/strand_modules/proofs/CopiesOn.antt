-- Serves ModuleBank::copy_on: the next words of the module that is migrating are copied, or fewer.
use Rattle.std.proofs.Common.{◌≡◌, ◌≢◌, ℕ, Bool, true, false, cond, ◌+◌, ◌-◌, ◌*◌, ◌<◌, ◌≤◌, List, [], ◌∷◌, ◌++◌, length, get_or, set, map, min, arith, refl, ap, sym, subst, ◌∙◌, inl, inr, length-set, get_or-set_same, get_or-set_other}
use Rattle.std.proofs.lemmas.Bool.Decides.{leb_tells}
use Rattle.std.proofs.lemmas.List.{set-get_or}
use Rattle.std.specs.Prelude.{None, Some, Ok, Err, is_some, nat_le, sum}
use Rattle.std.specs.declared.option.Option.{Option}
use Rattle.strand_base.specs.Counts.{Rose, next}
use Rattle.strand_base.proofs.Counts.{counted_again}
use Rattle.strand_base.specs.ModuleSeen.{ModuleSeen, LoadsWord, StoresWord}
use Rattle.strand_base.specs.declared.module.ModuleFailed.{ModuleFailed}
use Rattle.strand_modules.specs.Bank.{AtLast, BankSeen, CopiesOn, Keeps, bank_of, copying_of}
use Rattle.strand_modules.specs.ModuleWords.{module_size, joined_words, in_places, beside, told_words}
use Rattle.std.specs.declared.result.Result.{Result}
use Rattle.strand_modules.specs.Transfer.{Moves, MovesWords, MoveFails}
use Rattle.strand_modules.specs.declared.transfer.Missed.{Missed}
use Rattle.strand_modules.specs.NextCopies.{copying_calls, moved_on, swapped}
use Rattle.strand_modules.specs.Objects.{MigrationSeen, all_objects}
use Rattle.strand_modules.specs.declared.accepted.Accepted.{Accepted}
use Rattle.strand_modules.specs.declared.copying.CopyFault.{CopyFault}
use Rattle.strand_modules.specs.declared.copying.CopyFault.TheVariants.{Load, Store}
use Rattle.strand_modules.specs.declared.refusals.Refusals.{Refusals}
use Rattle.strand_modules.proofs.Exchange.{all_swapped, last_swapped, length_swapped, sum_swapped}
use Rattle.strand_modules.proofs.FaultCounts.{NoneLower, last_later, sum_later}
use Rattle.strand_modules.proofs.FrontWords.{keeps_same}
use Rattle.strand_modules.proofs.Places.{objects, set_again}
use Rattle.strand_modules.proofs.TwoObjects.{apart, after_is, as_many, at_module, at_spare, calls_between, kept_between, lower_between, measure_is, measured, places_between, size_after, size_between, sizes_between, told_after, told_between}

-- nothing is migrating
pub copies_none : (bank : BankSeen) → bank.migration.running ≡ None → CopiesOn bank bank
copies_none bank none = record {
  kept = keeps_same bank;
  same = refl;
  copies = rw none refl;
  quiet = record { own = λ _. refl; sum = inl refl };
  refused = refl;
  accepted = refl;
}

is_le : (n m : ℕ) → n ≤ m → nat_le n m ≡ true
is_le n m le = elim (leb_tells n m) [ inl t ↦ t.0 | inr t ↦ absurd (omega (arith, t.1, le)) ]

not_le : (n m : ℕ) → m < n → nat_le n m ≡ false
not_le n m lt = elim (leb_tells n m) [ inl t ↦ absurd (omega (arith, t.1, lt)) | inr t ↦ t.0 ]

module _ (parts : List ModuleSeen) (k q mi : ℕ) (s : ModuleSeen) (r : List Refusals) (a : Accepted) (x y : ModuleSeen) (inside : k < length parts) where
  abbrev size : ℕ
  size = module_size (objects parts (Some s))

  abbrev begun : MigrationSeen
  begun = record { running = Some k; copied = q; missed = mi }

  abbrev old : BankSeen
  old = bank_of (objects parts (Some s)) begun r a

  abbrev between : MigrationSeen → BankSeen
  between m = bank_of (objects (set parts k x) (Some y)) m r a

  abbrev after : MigrationSeen → BankSeen
  after m = bank_of (objects (set parts k y) (Some x)) m r a

  -- What the calls of both objects leave.
  record Leaves : Type 0 where
    pub size_x : x.size ≡ (get_or parts k x).size
    pub size_y : y.size ≡ s.size
    pub later_x : (get_or parts k x).faults ≤ x.faults
    pub later_y : s.faults ≤ y.faults

  module _ (leaves : Leaves) where
    lower : NoneLower old.faults (map (λ o. o.faults) (all_objects (objects (set parts k x) (Some y))))
    lower = lower_between parts k s x y inside leaves.later_x leaves.later_y

    keeps_between : (m : MigrationSeen) → mi ≤ m.missed → Keeps old (between m)
    keeps_between m missed = record {
      size = ap (λ (n : ℕ). n * length (set parts k x)) (size_between parts k s x y inside leaves.size_x leaves.size_y) ∙ ap (λ (n : ℕ). size * n) (length-set parts k x);
      modules = length-set parts k x;
      module_size = size_between parts k s x y inside leaves.size_x leaves.size_y;
      objects = ap (λ (l : List ℕ). length l) (sizes_between parts k s x y inside leaves.size_x leaves.size_y);
      one_size = λ all n lt.
          let sizes = sizes_between parts k s x y inside leaves.size_x leaves.size_y in
          ap (λ (l : List ℕ). get_or l n 0) sizes ∙ all n (subst (λ (l : List ℕ). n < length l) sizes lt) ∙ sym (size_between parts k s x y inside leaves.size_x leaves.size_y);
      later = sum_later _ _ (as_many parts k s x y inside (λ o. o.faults)) lower;
      last = last_later _ _ lower;
      own = λ none. absurd (omega (arith, none, measured parts k s x y inside (λ o. o.size)));
      idle = λ none. absurd (cc);
      missed = missed;
    }

    keeps_after : (m : MigrationSeen) → mi ≤ m.missed → Keeps old (after m)
    keeps_after m missed =
        let f : ModuleSeen → ℕ = λ o. o.faults in
        let sizes = sizes_between parts k s x y inside leaves.size_x leaves.size_y in
        let long : (f : ModuleSeen → ℕ) → length (map f (set parts k x ++ y ∷ [])) ≡ length parts + 1 = λ f. sym (as_many parts k s x y inside f) ∙ measured parts k s x y inside f in
        record {
          size = ap (λ (n : ℕ). n * length (set parts k y)) (size_after parts k s x y inside leaves.size_x leaves.size_y) ∙ ap (λ (n : ℕ). size * n) (length-set parts k y);
          modules = length-set parts k y;
          module_size = size_after parts k s x y inside leaves.size_x leaves.size_y;
          objects = ap (λ (l : List ℕ). length l) (after_is parts k s x y inside (λ o. o.size))
              ∙ length_swapped (map (λ o. o.size) (set parts k x ++ y ∷ [])) k (length parts) (omega (arith, inside, long (λ o. o.size))) (omega (arith, long (λ o. o.size))) (apart parts k s x y inside)
              ∙ ap (λ (l : List ℕ). length l) sizes;
          one_size = λ all n lt.
              let swap = after_is parts k s x y inside (λ o. o.size) ∙ ap (swapped k (length parts)) sizes in
              let count : length (map (λ (o : ModuleSeen). o.size) (parts ++ s ∷ [])) ≡ length parts + 1 = measured parts k s x y inside (λ o. o.size) in
              let first : k < length (map (λ (o : ModuleSeen). o.size) (parts ++ s ∷ [])) = omega (arith, inside, count) in
              let second : length parts < length (map (λ (o : ModuleSeen). o.size) (parts ++ s ∷ [])) = omega (arith, count) in
              ap (λ (l : List ℕ). get_or l n 0) swap
              ∙ all_swapped (map (λ o. o.size) (parts ++ s ∷ [])) k (length parts) first second (apart parts k s x y inside) size all n
              (omega (arith, subst (λ (l : List ℕ). n < length l) swap lt, length_swapped (map (λ o. o.size) (parts ++ s ∷ [])) k (length parts) first second (apart parts k s x y inside)))
              ∙ sym (size_after parts k s x y inside leaves.size_x leaves.size_y);
          later = omega (
            arith,
            sum_later _ _ (as_many parts k s x y inside f) lower,
            ap sum (after_is parts k s x y inside f),
            sum_swapped (map f (set parts k x ++ y ∷ [])) k (length parts) (omega (arith, inside, long f)) (omega (arith, long f)) (apart parts k s x y inside),
          );
          last = λ at_last. subst AtLast (sym (after_is parts k s x y inside f))
              (last_swapped (map f (set parts k x ++ y ∷ [])) k (length parts) (omega (arith, inside, long f)) (omega (arith, long f)) (apart parts k s x y inside) (last_later _ _ lower at_last));
          own = λ none. absurd (omega (arith, none, measured parts k s x y inside (λ o. o.size)));
          idle = λ none. absurd (cc);
          missed = missed;
        }

    words_between : (m : MigrationSeen) (n : ℕ) → m.running ≡ Some k → m.copied ≡ n → joined_words size n y.told x.told ≡ joined_words size q s.told (get_or parts k x).told → is_some y.told ≡ is_some s.told
        → (between m).told ≡ old.told
    words_between m n running copied words tells =
        ap (λ (t : ℕ). beside (Some y) (told_words t (in_places t m.running m.copied (Some y) (set parts k x)))) (size_between parts k s x y inside leaves.size_x leaves.size_y)
        ∙ ap (λ (o : Option ℕ). beside (Some y) (told_words size (in_places size o m.copied (Some y) (set parts k x)))) running
        ∙ ap (λ (t : ℕ). beside (Some y) (told_words size (in_places size (Some k) t (Some y) (set parts k x)))) copied
        ∙ told_between parts k s x y inside size q n words tells

    words_after : (m : MigrationSeen) (n : ℕ) → m.running ≡ None → size ≤ n → x.told ≡ (get_or parts k x).told → joined_words size n y.told x.told ≡ joined_words size q s.told (get_or parts k x).told
        → is_some y.told ≡ is_some s.told → (after m).told ≡ old.told
    words_after m n running all same words tells =
        ap (λ (t : ℕ). beside (Some x) (told_words t (in_places t m.running m.copied (Some x) (set parts k y)))) (size_after parts k s x y inside leaves.size_x leaves.size_y)
        ∙ ap (λ (o : Option ℕ). beside (Some x) (told_words size (in_places size o m.copied (Some x) (set parts k y)))) running
        ∙ told_after parts k s x y inside size n all same
        ∙ sym (ap (λ (ps : List ModuleSeen). beside (Some y) (told_words size ps)) (places_between parts k s x y inside size q n words tells))
        ∙ told_between parts k s x y inside size q n words tells

  -- All of the next words were copied.
  module _ (n : ℕ) (count : n ≡ min 8 (size - q)) (moves : MovesWords size q n (get_or parts k x) x s y) where
    leaves : Leaves
    leaves = record { size_x = moves.size_from; size_y = moves.size_to; later_x = omega (arith, moves.quiet); later_y = omega (arith, moves.quiet_to) }

    faults_same : map (λ o. o.faults) (set parts k x ++ y ∷ []) ≡ old.faults
    faults_same = kept_between parts k s x y inside (λ o. o.faults) moves.quiet moves.quiet_to

    calls_are : map (λ o. o.calls) (set parts k x ++ y ∷ []) ≡ copying_calls (copying_of old) k n n
    calls_are = calls_between parts k s x y inside n n moves.calls moves.calls_to

    goes_on : (b : Bool) → nat_le size (q + n) ≡ b → record { running = cond b None (Some k); copied = q + n; missed = mi } ≡ moved_on (copying_of old) k
    goes_on b test =
        ap (λ (t : Bool). record { running = cond t None (Some k); copied = q + n; missed = mi }) (sym test)
        ∙ ap (λ (j : ℕ). record { running = cond (nat_le size (q + j)) None (Some k); copied = q + j; missed = mi }) count

    places : (b : Bool) → nat_le size (q + n) ≡ b → (counts : List ℕ) → cond b (swapped k (length parts) counts) counts ≡ cond (nat_le size (q + min 8 (size - q))) (swapped k (length parts) counts) counts
    places b test counts =
        ap (λ (t : Bool). cond t (swapped k (length parts) counts) counts) (sym test)
        ∙ ap (λ (j : ℕ). cond (nat_le size (q + j)) (swapped k (length parts) counts) counts) count

    abbrev some_left : MigrationSeen
    some_left = record { running = Some k; copied = q + n; missed = mi }

    abbrev none_left : MigrationSeen
    none_left = record { running = None; copied = q + n; missed = mi }

    pub copies_some : q + n < size → CopiesOn old (between some_left)
    copies_some less =
        let test : nat_le size (q + n) ≡ false = not_le size (q + n) less in
        record {
          kept = keeps_between leaves some_left (omega arith);
          same = words_between leaves some_left (q + n) refl refl moves.words moves.tells;
          copies = inl (record {
            migration = goes_on false test;
            calls = calls_are ∙ ap (λ (j : ℕ). copying_calls (copying_of old) k j j) count ∙ places false test (copying_calls (copying_of old) k (min 8 (size - q)) (min 8 (size - q)));
            faults = faults_same ∙ places false test old.faults;
          });
          quiet = record { own = λ none. absurd (cc); sum = inl (ap sum faults_same) };
          refused = refl;
          accepted = refl;
        }

    pub copies_last : size ≤ q + n → CopiesOn old (after none_left)
    copies_last all =
        let test : nat_le size (q + n) ≡ true = is_le size (q + n) all in
        let f : ModuleSeen → ℕ = λ o. o.faults in
        let swap = after_is parts k s x y inside in
        let faults : map f (set parts k y ++ x ∷ []) ≡ swapped k (length parts) old.faults = swap f ∙ ap (swapped k (length parts)) faults_same in
        record {
          kept = keeps_after leaves none_left (omega arith);
          same = words_after leaves none_left (q + n) refl all moves.same moves.words moves.tells;
          copies = inl (record {
            migration = goes_on true test;
            calls = swap (λ o. o.calls) ∙ ap (swapped k (length parts)) (calls_are ∙ ap (λ (j : ℕ). copying_calls (copying_of old) k j j) count)
                ∙ places true test (copying_calls (copying_of old) k (min 8 (size - q)) (min 8 (size - q)));
            faults = faults ∙ places true test old.faults;
          });
          quiet = record {
            own = λ none. absurd (cc);
            sum = inl (ap sum faults ∙ sum_swapped old.faults k (length parts) (omega (arith, inside, measured parts k s x y inside f)) (omega (arith, measured parts k s x y inside f)) (apart parts k s x y inside));
          };
          refused = refl;
          accepted = refl;
        }

  -- Fewer were copied.
  module _ (n : ℕ) (few : n < min 8 (size - q)) where
    abbrev missed_left : MigrationSeen
    missed_left = record { running = Some k; copied = q + n; missed = next mi }

    there : k < length old.faults
    there = omega (arith, inside, measured parts k s x y inside (λ o. o.faults))

    end : length parts < length old.faults
    end = omega (arith, measured parts k s x y inside (λ o. o.faults))

    -- the load failed, or the store
    module_faults : y.faults ≡ s.faults → map (λ o. o.faults) (set parts k x ++ y ∷ []) ≡ set old.faults k x.faults
    module_faults same =
        let other : length parts ≢ k = λ e. apart parts k s x y inside (sym e) in
        let here : y.faults ≡ get_or (set old.faults k x.faults) (length parts) 0 =
        same ∙ sym (get_or-set_other old.faults k (length parts) x.faults 0 other ∙ at_spare parts k s x y inside (λ o. o.faults)) in
        measure_is parts k s x y inside (λ o. o.faults) ∙ ap (set (set old.faults k x.faults) (length parts)) here ∙ set-get_or (set old.faults k x.faults) (length parts) 0

    spare_faults : x.faults ≡ (get_or parts k x).faults → map (λ o. o.faults) (set parts k x ++ y ∷ []) ≡ set old.faults (length parts) y.faults
    spare_faults same =
        let here : x.faults ≡ get_or old.faults k 0 = same ∙ sym (at_module parts k s x y inside (λ o. o.faults)) in
        measure_is parts k s x y inside (λ o. o.faults) ∙ ap (λ (l : List ℕ). set l (length parts) y.faults) (ap (set old.faults k) here ∙ set-get_or old.faults k 0)

    rises : (now : List ℕ) (h v : ℕ) → h < length old.faults → now ≡ set old.faults h v → Rose (get_or old.faults h 0) v
        → Rose (get_or old.faults h 0) (get_or now h 0) × (now ≡ set old.faults h (get_or now h 0))
    rises now h v lt is rose =
        let here : get_or now h 0 ≡ v = ap (λ (l : List ℕ). get_or l h 0) is ∙ get_or-set_same old.faults h v 0 lt in
        (subst (λ (w : ℕ). Rose (get_or old.faults h 0) w) (sym here) rose, is ∙ ap (set old.faults h) (sym here))

    load_missed : (middle : ModuleSeen) (e : ModuleFailed) → MovesWords size q n (get_or parts k x) middle s y → LoadsWord middle x (q + n) (Err e) → CopiesOn old (between missed_left)
    load_missed middle e moves loads =
        let leaves : Leaves = record { size_x = loads.size ∙ moves.size_from; size_y = moves.size_to; later_x = omega (arith, loads.cause.later, moves.quiet); later_y = omega (arith, moves.quiet_to) } in
        let rose : Rose (get_or old.faults k 0) x.faults = subst (λ (v : ℕ). Rose v x.faults) (moves.quiet ∙ sym (at_module parts k s x y inside (λ o. o.faults))) loads.cause.failed in
        let risen = rises (map (λ o. o.faults) (set parts k x ++ y ∷ [])) k x.faults there (module_faults moves.quiet_to) rose in
        record {
          kept = keeps_between leaves missed_left (omega arith);
          same = words_between leaves missed_left (q + n) refl refl (ap (joined_words size (q + n) y.told) loads.same ∙ moves.words) moves.tells;
          copies = inr (record {
            n = n;
            few = few;
            migration = refl;
            cause = inl (record {
              rose = risen.0;
              others = risen.1;
              calls = calls_between parts k s x y inside (n + 1) n (loads.called ∙ ap next moves.calls ∙ counted_again n 1 (get_or parts k x).calls) moves.calls_to;
            });
          });
          quiet = record { own = λ none. absurd (cc); sum = inr (omega arith) };
          refused = refl;
          accepted = refl;
        }

    store_missed : (middle middle' : ModuleSeen) (value : ℕ) (e : ModuleFailed) → MovesWords size q n (get_or parts k x) middle s middle' → LoadsWord {E = ModuleFailed} middle x (q + n) (Ok value)
        → StoresWord {T = Unit {0}} middle' y (q + n) value (Err e) → CopiesOn old (between missed_left)
    store_missed middle middle' value e moves loads stores =
        let same : x.faults ≡ (get_or parts k x).faults = loads.cause.kept ∙ moves.quiet in
        let leaves : Leaves = record {
          size_x = loads.size ∙ moves.size_from;
          size_y = stores.size ∙ moves.size_to;
          later_x = omega (arith, same);
          later_y = omega (arith, stores.cause.later, moves.quiet_to);
        } in
        let rose : Rose (get_or old.faults (length parts) 0) y.faults = subst (λ (v : ℕ). Rose v y.faults) (moves.quiet_to ∙ sym (at_spare parts k s x y inside (λ o. o.faults))) stores.cause.failed in
        let risen = rises (map (λ o. o.faults) (set parts k x ++ y ∷ [])) (length parts) y.faults end (spare_faults same) rose in
        record {
          kept = keeps_between leaves missed_left (omega arith);
          same = words_between leaves missed_left (q + n) refl refl
              (ap (λ (t : Option (List ℕ)). joined_words size (q + n) t x.told) stores.err ∙ ap (joined_words size (q + n) middle'.told) loads.same ∙ moves.words) (ap is_some stores.err ∙ moves.tells);
          copies = inr (record {
            n = n;
            few = few;
            migration = refl;
            cause = inr (record {
              rose = risen.0;
              others = risen.1;
              calls = calls_between parts k s x y inside (n + 1) (n + 1) (loads.called ∙ ap next moves.calls ∙ counted_again n 1 (get_or parts k x).calls)
                  (stores.called ∙ ap next moves.calls_to ∙ counted_again n 1 s.calls);
            });
          });
          quiet = record { own = λ none. absurd (cc); sum = inr (omega arith) };
          refused = refl;
          accepted = refl;
        }

    pub copies_missed : (why : CopyFault) → MoveFails size q n (get_or parts k x) x s y why → CopiesOn old (between missed_left)
    copies_missed Load (middle, e, moves, loads) = load_missed middle e moves loads
    copies_missed Store (middle, middle', value, e, moves, loads, stores) = store_missed middle middle' value e moves loads stores

-- The same, as the call has it: what the calls of both objects leave of the modules and of the spare.
module _ (parts parts1 : List ModuleSeen) (k q mi n size : ℕ) (s y : ModuleSeen) (r : List Refusals) (a : Accepted) (inside : k < length parts) (is_size : size ≡ module_size (objects parts (Some s))) (count : n ≡ min 8 (size - q)) where
  abbrev was : BankSeen
  was = bank_of (objects parts (Some s)) (record { running = Some k; copied = q; missed = mi }) r a

  abbrev Moved : Result (Unit {0}) Missed → Type 0
  Moved result = (x : ModuleSeen) × (parts1 ≡ set parts k x) × ((z : ℕ) → Moves z q n (get_or parts k x) x s y result)

  next_count : n ≡ min 8 (module_size (objects parts (Some s)) - q)
  next_count = omega (arith, count, is_size)

  pub copied_some : q + n < size → Moved (Ok tt) → CopiesOn was (bank_of (objects parts1 (Some y)) (record { running = Some k; copied = q + n; missed = mi }) r a)
  copied_some less (x, is, moves) = subst (λ (ps : List ModuleSeen). CopiesOn was (bank_of (objects ps (Some y)) (record { running = Some k; copied = q + n; missed = mi }) r a)) (sym is)
      (copies_some parts k q mi s r a x y inside n next_count (moves (module_size (objects parts (Some s)))) (omega (arith, less, is_size)))

  pub copied_last : (parts2 : List ModuleSeen) (o : ModuleSeen) → size ≤ q + n → Moved (Ok tt) → ((b : ModuleSeen) × (b ≡ get_or parts1 k b) × (parts2 ≡ set parts1 k y) × (o ≡ b))
      → CopiesOn was (bank_of (objects parts2 (Some o)) (record { running = None; copied = q + n; missed = mi }) r a)
  copied_last parts2 o all (x, is, moves) (b, at, put, same) =
      let first : parts2 ≡ set parts k y = put ∙ ap (λ (ps : List ModuleSeen). set ps k y) is ∙ set_again parts k x y in
      let second : o ≡ x = same ∙ at ∙ ap (λ (ps : List ModuleSeen). get_or ps k b) is ∙ get_or-set_same parts k x b inside in
      subst (λ (ps : List ModuleSeen). CopiesOn was (bank_of (objects ps (Some o)) (record { running = None; copied = q + n; missed = mi }) r a)) (sym first)
      (subst (λ (z : ModuleSeen). CopiesOn was (bank_of (objects (set parts k y) (Some z)) (record { running = None; copied = q + n; missed = mi }) r a)) (sym second)
      (copies_last parts k q mi s r a x y inside n next_count (moves (module_size (objects parts (Some s)))) (omega (arith, all, is_size))))

  pub copied_less : (missed : Missed) → Moved (Err missed) → CopiesOn was (bank_of (objects parts1 (Some y)) (record { running = Some k; copied = q + missed.copied; missed = next mi }) r a)
  copied_less missed (x, is, moves) =
      let all = moves (module_size (objects parts (Some s))) in
      subst (λ (ps : List ModuleSeen). CopiesOn was (bank_of (objects ps (Some y)) (record { running = Some k; copied = q + missed.copied; missed = next mi }) r a)) (sym is)
      (copies_missed parts k q mi s r a x y inside missed.copied (omega (arith, all.0, next_count)) missed.why all.1)
