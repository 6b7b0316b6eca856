-- Serves ModuleBank::add_spare and take_spare: the bank with one object more.
use Rattle.std.proofs.Common.{◌≡◌, ℕ, ◌+◌, ◌*◌, ◌<◌, List, [], ◌∷◌, ◌++◌, length, get_or, map, arith, refl, ap, sym, subst, ◌∙◌, inl, inr, append-nil}
use Rattle.std.proofs.Math.Nat.{mul-le-mul_right}
use Rattle.std.proofs.Math.Seq.{get_or-append_seam}
use Rattle.std.proofs.lemmas.List.{length-map, length-append, map-append, get_or-map, get_or_append_left}
use Rattle.std.specs.Option.{option_map}
use Rattle.std.specs.Prelude.{None, Some, IfSome, MatchOption, is_some, Bool, cond, false, true}
use Rattle.std.specs.declared.option.Option.{Option}
use Rattle.strand_base.specs.ModuleSeen.{ModuleSeen}
use Rattle.strand_modules.specs.Bank.{BankSeen, IsOfOneSize, bank_of}
use Rattle.strand_modules.specs.Here.{migration_of}
use Rattle.strand_modules.specs.Spare.{AddsSpare, Takes, TakesSpare}
use Rattle.strand_modules.specs.ModuleWords.{part_size, module_size, beside, told_words}
use Rattle.strand_modules.specs.Objects.{MigrationSeen}
use Rattle.strand_modules.specs.declared.accepted.Accepted.{Accepted}
use Rattle.strand_modules.specs.declared.migration.Migration.{Migration}
use Rattle.strand_modules.specs.declared.refusals.Refusals.{Refusals}
use Rattle.strand_modules.proofs.BankWords.{part_size-last, part_size-le}
use Rattle.strand_modules.proofs.Places.{objects}

count_alone : (parts : List ModuleSeen) → length (map (λ (o : ModuleSeen). o.size) (parts ++ [])) ≡ length parts
count_alone parts = length-map (parts ++ []) (λ o. o.size) ∙ ap (λ (ps : List ModuleSeen). length ps) (append-nil parts)

module _ (parts : List ModuleSeen) (s : ModuleSeen) where
  one_more : (f : ModuleSeen → ℕ) → map f (parts ++ s ∷ []) ≡ map f (parts ++ []) ++ f s ∷ []
  one_more f = map-append f parts (s ∷ []) ∙ ap (λ (ps : List ModuleSeen). map f ps ++ f s ∷ []) (sym (append-nil parts))

  alone : part_size (parts ++ []) ≡ part_size parts
  alone = ap part_size (append-nil parts)

  count_more : length (map (λ (o : ModuleSeen). o.size) (parts ++ s ∷ [])) ≡ length parts + 1
  count_more = length-map (parts ++ s ∷ []) (λ o. o.size) ∙ length-append parts (s ∷ [])

  module _ (q mi : ℕ) (r : List Refusals) (a : Accepted) where
    abbrev m : MigrationSeen
    m = record { running = None; copied = q; missed = mi }

    pub adds_spare : s.size ≡ part_size (parts ++ []) → AddsSpare (bank_of (objects parts None) m r a) (bank_of (objects parts (Some s)) m r a) s
    adds_spare fits =
        let part : part_size (parts ++ s ∷ []) ≡ part_size (parts ++ []) = omega (arith, part_size-last parts s, alone, fits) in
        record {
          none = count_alone parts;
          fits = fits;
          size = ap (λ (n : ℕ). n * length parts) part;
          modules = refl;
          module_size = part;
          sizes = one_more (λ o. o.size);
          told = told part s.told refl;
          faults = one_more (λ o. o.faults);
          calls = one_more (λ o. o.calls);
          still = refl;
          refused = refl;
          accepted = refl;
        }
      where
        told : part_size (parts ++ s ∷ []) ≡ part_size (parts ++ []) → (t : Option (List ℕ)) → s.told ≡ t
            → MatchOption t (beside (Some s) (told_words (part_size (parts ++ s ∷ [])) parts) ≡ None) (λ _. beside (Some s) (told_words (part_size (parts ++ s ∷ [])) parts) ≡ told_words (part_size (parts ++ [])) parts)
        told part None e = ap (λ (t : Option (List ℕ)). elim t as (λ _. Option (List ℕ)) [ None ↦ None | Some words ↦ told_words (part_size (parts ++ s ∷ [])) parts ]) e
        told part (Some ws) e =
            ap (λ (t : Option (List ℕ)). elim t as (λ _. Option (List ℕ)) [ None ↦ None | Some words ↦ told_words (part_size (parts ++ s ∷ [])) parts ]) e
            ∙ ap (λ (n : ℕ). told_words n parts) part

    pub takes_spare : 0 < length parts → TakesSpare (bank_of (objects parts (Some s)) m r a) (bank_of (objects parts None) m r a) s
    takes_spare some = record {
      there = count_more;
      idle = refl;
      sizes = one_more (λ o. o.size);
      modules = refl;
      module_size = same_part;
      size = λ all. ap (λ (n : ℕ). n * length parts) (same_part all);
      larger = mul-le-mul_right (length parts) (omega (arith, part_size-last parts s, alone));
      told = λ all. (told (same_part all) s.told (told_words (part_size (parts ++ s ∷ [])) parts) refl);
      faults = one_more (λ o. o.faults);
      calls = one_more (λ o. o.calls);
      still = refl;
      refused = refl;
      accepted = refl;
    }
      where
        same_part : IsOfOneSize (bank_of (objects parts (Some s)) m r a) → part_size (parts ++ []) ≡ part_size (parts ++ s ∷ [])
        same_part all =
            let room : length parts < length (parts ++ s ∷ []) = omega (arith, length-append parts (s ∷ [])) in
            let first : 0 < length (parts ++ s ∷ []) = omega (arith, length-append parts (s ∷ [])) in
            let of_spare : s.size ≡ part_size (parts ++ s ∷ []) =
            ap (λ (o : ModuleSeen). o.size) (sym (get_or-append_seam parts s [] s)) ∙ sym (get_or-map (λ (o : ModuleSeen). o.size) (parts ++ s ∷ []) (length parts) s 0 room) ∙ all (length parts) (omega (arith, count_more)) in
            let of_first : (get_or parts 0 s).size ≡ part_size (parts ++ s ∷ []) =
            ap (λ (o : ModuleSeen). o.size) (sym (get_or_append_left parts (s ∷ []) s 0 some)) ∙ sym (get_or-map (λ (o : ModuleSeen). o.size) (parts ++ s ∷ []) 0 s 0 first) ∙ all 0 (omega (arith, count_more)) in
            omega (arith, alone, part_size-last parts s, of_spare, of_first, part_size-le parts 0 s some)

        told : part_size (parts ++ []) ≡ part_size (parts ++ s ∷ []) → (t w : Option (List ℕ)) → told_words (part_size (parts ++ s ∷ [])) parts ≡ w
            → IfSome (elim t as (λ _. Option (List ℕ)) [ None ↦ None | Some words ↦ w ]) (λ words. told_words (part_size (parts ++ [])) parts ≡ Some words)
        told part None w e = tt
        told part (Some ws) None e = tt
        told part (Some ws) (Some words) e = ap (λ (n : ℕ). told_words n parts) part ∙ e

-- The same, as the calls have it.
module _ {X : Type 0} (seen : X → ModuleSeen) (parts : List ModuleSeen) (m : Migration) (r : List Refusals) (a : Accepted) where
  abbrev bank : Option X → Migration → BankSeen
  bank spare m = bank_of (objects parts (option_map seen spare)) (migration_of spare m) r a

  pub spare_added : (spare : Option X) (object : X) → is_some spare ≡ false → (seen object).size ≡ module_size (objects parts (option_map seen spare))
      → AddsSpare (bank spare m) (bank (Some object) (record m { running = false })) (seen object)
  spare_added (Some s) object none fits = absurd (cc)
  spare_added None object none fits = adds_spare parts (seen object) m.copied m.missed r a fits

  -- None is handed out where a module is migrating or there is no spare.
  pub none_taken : (spare : Option X) → m.running ≡ true → Takes seen (bank spare m) (bank spare m) None
  none_taken None runs = (inl (count_alone parts), refl)
  none_taken (Some s) runs = (inr (rw runs refl), refl)

  pub spare_taken : (spare : Option X) → m.running ≡ false → 0 < length parts → Takes seen (bank spare m) (bank None m) spare
  spare_taken None rests some = (inl (count_alone parts), refl)
  spare_taken (Some s) rests some =
      subst (λ (b : Bool). TakesSpare (bank_of (objects parts (Some (seen s))) (record { running = cond b (Some m.«module») None; copied = m.copied; missed = m.missed }) r a) (bank None m) (seen s))
      (sym rests) (takes_spare parts (seen s) m.copied m.missed r a some)
