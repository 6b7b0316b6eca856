-- Serves ModuleBank::begin: nothing of a module that begins to migrate is copied yet, and one of no words has migrated at once.
use Rattle.std.proofs.Common.{◌≡◌, ◌≢◌, ℕ, Bool, false, cond, ◌*◌, ◌<◌, List, [], ◌∷◌, ◌++◌, length, get_or, set, map, arith, refl, ap, sym, subst, ◌∙◌, inl, inr, length-set}
use Rattle.std.proofs.lemmas.Bool.Decides.{eqb_tells}
use Rattle.std.proofs.lemmas.List.{set-get_or, get_or_default}
use Rattle.std.proofs.lemmas.List.FromFn.{get_or-map-range_with_len}
use Rattle.std.specs.List.{range_with_len}
use Rattle.std.specs.Prelude.{None, Some, nat_eq}
use Rattle.std.specs.declared.option.Option.{Option}
use Rattle.strand_base.specs.ModuleSeen.{ModuleSeen}
use Rattle.strand_modules.specs.Bank.{BankSeen, bank_of}
use Rattle.strand_modules.specs.Spare.{Begins}
use Rattle.strand_modules.specs.ModuleWords.{part_size, joined, joined_word, joined_words, beside, told_words}
use Rattle.strand_modules.specs.NextCopies.{swapped}
use Rattle.strand_modules.specs.declared.accepted.Accepted.{Accepted}
use Rattle.strand_modules.specs.declared.refusals.Refusals.{Refusals}
use Rattle.strand_modules.proofs.BankWords.{told_words-none, told_words-agree}
use Rattle.strand_modules.proofs.JoinedWords.{word_of_old}
use Rattle.strand_modules.proofs.Places.{objects}
use Rattle.strand_modules.proofs.TwoObjects.{after_is, beside_untold, kept_between, measured, size_after, told_after}

module _ (parts : List ModuleSeen) (k : ℕ) (s : ModuleSeen) (inside : k < length parts) where
  abbrev part : ModuleSeen
  part = get_or parts k s

  same_parts : set parts k part ≡ parts
  same_parts = set-get_or parts k s

  -- nothing is copied yet
  told_begun : (size : ℕ) → beside (Some s) (told_words size (set parts k (joined size 0 s part))) ≡ beside (Some s) (told_words size parts)
  told_begun size = go part.told s.told refl refl
    where
      both : (wx wy : List ℕ) → part.told ≡ Some wx → s.told ≡ Some wy → joined_words size 0 s.told part.told ≡ Some (map (joined_word 0 wy wx) (range_with_len 0 size))
      both wx wy ex ey = ap (λ (t : Option (List ℕ)). joined_words size 0 t part.told) ey ∙ ap (joined_words size 0 (Some wy)) ex

      go : (tx ty : Option (List ℕ)) → part.told ≡ tx → s.told ≡ ty → beside (Some s) (told_words size (set parts k (joined size 0 s part))) ≡ beside (Some s) (told_words size parts)
      go tx None ex ey = beside_untold s _ ey ∙ sym (beside_untold s _ ey)
      go None (Some wy) ex ey =
          let nothing : joined_words size 0 s.told part.told ≡ None = ap (λ (t : Option (List ℕ)). joined_words size 0 t part.told) ey ∙ ap (joined_words size 0 (Some wy)) ex in
          let old : told_words size parts ≡ None = ap (told_words size) (sym same_parts) ∙ told_words-none size parts k part inside ex in
          ap (beside (Some s)) (told_words-none size parts k (joined size 0 s part) inside nothing ∙ sym old)
      go (Some wx) (Some wy) ex ey =
          ap (beside (Some s)) (
          told_words-agree size parts k (joined size 0 s part) part (map (joined_word 0 wy wx) (range_with_len 0 size)) wx wx inside (both wx wy ex ey) ex
          (λ d. ap (λ (o : ModuleSeen). o.told) (get_or_default parts k d s inside) ∙ ex)
          (λ p lt. get_or-map-range_with_len (joined_word 0 wy wx) 0 size p p 0 lt (omega arith) ∙ word_of_old 0 wy wx p (omega arith))
          ∙ ap (told_words size) same_parts
          )

  module _ (q mi : ℕ) (r : List Refusals) (a : Accepted) where
    abbrev old : BankSeen
    old = bank_of (objects parts (Some s)) (record { running = None; copied = q; missed = mi }) r a

    test : (n : ℕ) → n ≢ 0 → nat_eq n 0 ≡ false
    test n ne = elim (eqb_tells n 0) [ inl t ↦ absurd (ne t.1) | inr t ↦ t.0 ]

    pub begins : part_size (parts ++ s ∷ []) ≢ 0 → Begins old (bank_of (objects parts (Some s)) (record { running = Some k; copied = 0; missed = 0 }) r a) k
    begins some =
        let no : nat_eq (part_size (parts ++ s ∷ [])) 0 ≡ false = test (part_size (parts ++ s ∷ [])) some in
        let stays : (counts : List ℕ) → counts ≡ cond (nat_eq (part_size (parts ++ s ∷ [])) 0) (swapped k (length parts) counts) counts =
        λ counts. ap (λ (b : Bool). cond b (swapped k (length parts) counts) counts) (sym no) in
        record {
          there = measured parts k s s s inside (λ o. o.size);
          exists = inside;
          idle = refl;
          size = refl;
          modules = refl;
          module_size = refl;
          sizes = stays old.sizes;
          told = told_begun (part_size (parts ++ s ∷ []));
          faults = stays old.faults;
          calls = stays old.calls;
          migration = ap (λ (b : Bool). record { running = cond b None (Some k); copied = 0; missed = 0 }) (sym no);
          refused = refl;
          accepted = refl;
        }

    -- a module of no words
    module _ (none : part_size (parts ++ s ∷ []) ≡ 0) where
      swaps : (f : ModuleSeen → ℕ) → map f (set parts k s ++ part ∷ []) ≡ swapped k (length parts) (map f (parts ++ s ∷ []))
      swaps f = after_is parts k s part s inside f ∙ ap (swapped k (length parts)) (kept_between parts k s part s inside f (ap f (get_or_default parts k s part inside)) refl)

      moves : (counts : List ℕ) → swapped k (length parts) counts ≡ cond (nat_eq (part_size (parts ++ s ∷ [])) 0) (swapped k (length parts) counts) counts
      moves counts = ap (λ (n : ℕ). cond (nat_eq n 0) (swapped k (length parts) counts) counts) (sym none)

      same_size : part_size (set parts k s ++ part ∷ []) ≡ part_size (parts ++ s ∷ [])
      same_size = size_after parts k s part s inside (ap (λ (o : ModuleSeen). o.size) (get_or_default parts k s part inside)) refl

      pub begins_at_once : Begins old (bank_of (objects (set parts k s) (Some part)) (record { running = None; copied = 0; missed = 0 }) r a) k
      begins_at_once = record {
        there = measured parts k s s s inside (λ o. o.size);
        exists = inside;
        idle = refl;
        size = ap (λ (n : ℕ). n * length (set parts k s)) same_size ∙ ap (λ (n : ℕ). part_size (parts ++ s ∷ []) * n) (length-set parts k s);
        modules = length-set parts k s;
        module_size = same_size;
        sizes = swaps (λ o. o.size) ∙ moves old.sizes;
        told = ap (λ (n : ℕ). beside (Some part) (told_words n (set parts k s))) (same_size ∙ none)
            ∙ told_after parts k s part s inside 0 0 (omega arith) (ap (λ (o : ModuleSeen). o.told) (get_or_default parts k s part inside))
            ∙ told_begun 0 ∙ ap (λ (n : ℕ). beside (Some s) (told_words n parts)) (sym none);
        faults = swaps (λ o. o.faults) ∙ moves old.faults;
        calls = swaps (λ o. o.calls) ∙ moves old.calls;
        migration = ap (λ (n : ℕ). record { running = cond (nat_eq n 0) None (Some k); copied = 0; missed = 0 }) (sym none);
        refused = refl;
        accepted = refl;
      }

      -- as the call has it
      pub begun_at_once : (parts2 : List ModuleSeen) (o : ModuleSeen) → ((b : ModuleSeen) × (b ≡ get_or parts k b) × (parts2 ≡ set parts k s) × (o ≡ b))
          → Begins old (bank_of (objects parts2 (Some o)) (record { running = None; copied = 0; missed = 0 }) r a) k
      begun_at_once parts2 o (b, at, put, same) =
          subst (λ (ps : List ModuleSeen). Begins old (bank_of (objects ps (Some o)) (record { running = None; copied = 0; missed = 0 }) r a) k) (sym put)
          (subst (λ (z : ModuleSeen). Begins old (bank_of (objects (set parts k s) (Some z)) (record { running = None; copied = 0; missed = 0 }) r a) k) (sym (same ∙ at ∙ get_or_default parts k b s inside)) begins_at_once)
