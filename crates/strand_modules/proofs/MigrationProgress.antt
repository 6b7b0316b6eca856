-- Serves clause ran of run_image: how far a migration comes, store by store.
use Rattle.std.proofs.Common.{◌≡◌, ℕ, Bool, true, false, cond, suc, ◌+◌, ◌-◌, ◌<◌, ◌≤◌, min, arith, refl, ap, sym, subst, ◌∙◌, inl, inr}
use Rattle.std.proofs.lemmas.Bool.Decides.{leb_tells}
use Rattle.std.specs.Prelude.{◌⊎◌, None, Some, Ok, MatchOption, nat_le, nat_lt}
use Rattle.std.specs.declared.option.Option.{Option}
use Rattle.strand_base.specs.Counts.{next}
use Rattle.strand_base.proofs.Counts.{counted_again, counted_none}
use Rattle.strand_modules.specs.MigrationProgress.{MigrationProgress, ModuleProgress}
use Rattle.strand_modules.specs.Bank.{BankSeen, Keeps, Stores, copying_of, object_of_word, store_refused}
use Rattle.strand_modules.specs.NextCopies.{CopiesAll, CopyMisses, CopyingSeen, with_call}
use Rattle.strand_modules.specs.Objects.{MigrationSeen}

left_true : (n m : ℕ) → n < m → nat_lt n m ≡ true
left_true n m lt = elim (leb_tells (suc n) m) [ inl t ↦ t.0 | inr t ↦ absurd (omega (arith, t.1, lt)) ]

left_false : (n m : ℕ) → m ≤ n → nat_lt n m ≡ false
left_false n m le = elim (leb_tells (suc n) m) [ inl t ↦ absurd (omega (arith, t.1, le)) | inr t ↦ t.0 ]

-- by which a migration is running or not
by_running : (old new : BankSeen) (stores : ℕ) → (old.migration.running ≡ None → new.migration ≡ old.migration) → ((k : ℕ) → old.migration.running ≡ Some k → old.migration.copied < old.module_size → ModuleProgress stores old new k)
    → MigrationProgress stores old new
by_running old new stores idle moving = go old.migration.running refl
  where
    go : (o : Option ℕ) → old.migration.running ≡ o → MatchOption o (new.migration ≡ old.migration) (λ k. old.migration.copied < old.module_size → ModuleProgress stores old new k)
    go None e = idle e
    go (Some k) e = moving k e

pub progress_none : (bank : BankSeen) → MigrationProgress 0 bank bank
progress_none bank = by_running bank bank 0 (λ none. refl) (λ k running lt. record {
  n = 0;
  few = omega arith;
  missed = sym (counted_none bank.migration.missed);
  most = omega (arith, lt);
  least = omega (arith, lt);
  ends = running ∙ ap (λ (b : Bool). cond b (Some k) None) (sym (left_true bank.migration.copied bank.module_size lt));
})

when_idle : (old new : BankSeen) (stores : ℕ) → old.migration.running ≡ None → MigrationProgress stores old new → new.migration ≡ old.migration
when_idle old new stores e so = subst (λ (o : Option ℕ). MatchOption o (new.migration ≡ old.migration) (λ k. old.migration.copied < old.module_size → ModuleProgress stores old new k)) e so

pub when_moving : (old new : BankSeen) (stores k : ℕ) → old.migration.running ≡ Some k → MigrationProgress stores old new → old.migration.copied < old.module_size → ModuleProgress stores old new k
when_moving old new stores k e so = subst (λ (o : Option ℕ). MatchOption o (new.migration ≡ old.migration) (λ k. old.migration.copied < old.module_size → ModuleProgress stores old new k)) e so

pub progress_still : (stores : ℕ) (old middle new : BankSeen) → new.migration ≡ middle.migration → MigrationProgress stores old middle → MigrationProgress stores old new
progress_still stores old middle new same so =
    by_running old new stores (λ none. same ∙ when_idle old middle stores none so) (λ k running lt.
    let moves = when_moving old middle stores k running so lt in
    record { n = moves.n; few = moves.few; missed = rw same moves.missed; most = rw same moves.most; least = rw same moves.least; ends = rw same moves.ends })

-- what a store makes of a migration that is running, or is not
module _ (middle new : BankSeen) (i value : ℕ) (stores : Stores {T = Unit {0}} store_refused middle new i value (Ok tt)) where
  abbrev called : CopyingSeen
  called = record (copying_of middle) { calls = with_call (object_of_word middle i) middle.calls }

  store_idle : middle.migration.running ≡ None → new.migration ≡ middle.migration
  store_idle none =
      ap (λ (c : CopyingSeen). c.migration) (subst (λ (o : Option ℕ). MatchOption o (copying_of new ≡ called) (λ k. CopiesAll called (copying_of new) k ⊎ CopyMisses called (copying_of new) k)) none stores.copies)

  store_moving : (k : ℕ) → middle.migration.running ≡ Some k → CopiesAll called (copying_of new) k ⊎ CopyMisses called (copying_of new) k
  store_moving k running = subst (λ (o : Option ℕ). MatchOption o (copying_of new ≡ called) (λ k. CopiesAll called (copying_of new) k ⊎ CopyMisses called (copying_of new) k)) running stores.copies

-- whether words are left, by both tests
ends_so : (k part copied : ℕ) → cond (nat_le part copied) None (Some k) ≡ cond (nat_lt copied part) (Some k) None
ends_so k part copied = elim (leb_tells part copied) [
  | inl all ↦ ap (λ (b : Bool). cond b None (Some k)) all.0 ∙ sym (ap (λ (b : Bool). cond b (Some k) None) (left_false copied part all.1))
  | inr some ↦ ap (λ (b : Bool). cond b None (Some k)) some.0 ∙ sym (ap (λ (b : Bool). cond b (Some k) None) (left_true copied part some.1))
]

module _ (n : ℕ) (old middle new : BankSeen) (i value : ℕ) (kept : Keeps old middle) (stores : Stores {T = Unit {0}} store_refused middle new i value (Ok tt)) (k : ℕ) (moves : ModuleProgress n old middle k) where
  -- words were left
  goes_on : middle.migration.copied < old.module_size → CopiesAll (called middle new i value stores) (copying_of new) k ⊎ CopyMisses (called middle new i value stores) (copying_of new) k → ModuleProgress (n + 1) old new k
  goes_on left (inl all) =
      let copied : new.migration.copied ≡ middle.migration.copied + min 8 (middle.module_size - middle.migration.copied) = ap (λ (m : MigrationSeen). m.copied) all.migration in
      record {
        n = moves.n;
        few = omega (arith, moves.few);
        missed = ap (λ (m : MigrationSeen). m.missed) all.migration ∙ moves.missed;
        most = omega (arith, copied, kept.module_size, moves.most, left);
        least = omega (arith, copied, kept.module_size, moves.least, moves.few, left);
        ends = ap (λ (m : MigrationSeen). m.running) all.migration
            ∙ ap (λ (c : ℕ). cond (nat_le middle.module_size c) None (Some k)) (sym copied) ∙ ap (λ (p : ℕ). cond (nat_le p new.migration.copied) None (Some k)) kept.module_size ∙ ends_so k old.module_size new.migration.copied;
      }
  goes_on left (inr less) =
      let copied : new.migration.copied ≡ middle.migration.copied + less.n = ap (λ (m : MigrationSeen). m.copied) less.migration in
      let few : less.n < min 8 (middle.module_size - middle.migration.copied) = less.few in
      let running : middle.migration.running ≡ Some k = moves.ends ∙ ap (λ (b : Bool). cond b (Some k) None) (left_true middle.migration.copied old.module_size left) in
      record {
        n = moves.n + 1;
        few = omega (arith, moves.few);
        missed = ap (λ (m : MigrationSeen). m.missed) less.migration ∙ ap next moves.missed ∙ counted_again moves.n 1 old.migration.missed;
        most = omega (arith, copied, few, kept.module_size, moves.most, left);
        least = omega (arith, copied, moves.least, moves.few);
        ends = ap (λ (m : MigrationSeen). m.running) less.migration ∙ running
            ∙ sym (ap (λ (b : Bool). cond b (Some k) None) (left_true new.migration.copied old.module_size (omega (arith, copied, few, kept.module_size))));
      }

  -- or none
  stays : old.module_size ≤ middle.migration.copied → new.migration ≡ middle.migration → ModuleProgress (n + 1) old new k
  stays all same = record {
    n = moves.n;
    few = omega (arith, moves.few);
    missed = rw same moves.missed;
    most = rw same (omega (arith, moves.most));
    least = rw same (omega (arith, all));
    ends = rw same moves.ends;
  }

  pub moves_more : ModuleProgress (n + 1) old new k
  moves_more = elim (leb_tells old.module_size middle.migration.copied) [
    | inl all ↦ stays all.1 (store_idle middle new i value stores (moves.ends ∙ ap (λ (b : Bool). cond b (Some k) None) (left_false middle.migration.copied old.module_size all.1)))
    | inr left ↦ goes_on left.1 (store_moving middle new i value stores k (moves.ends ∙ ap (λ (b : Bool). cond b (Some k) None) (left_true middle.migration.copied old.module_size left.1)))
  ]

-- one store more
pub progress_more : (n : ℕ) (old middle new : BankSeen) (i value : ℕ) → Keeps old middle → MigrationProgress n old middle → Stores {T = Unit {0}} store_refused middle new i value (Ok tt) → MigrationProgress (n + 1) old new
progress_more n old middle new i value kept so stores =
    by_running old new (n + 1)
    (λ none. let same = when_idle old middle n none so in store_idle middle new i value stores (ap (λ (m : MigrationSeen). m.running) same ∙ none) ∙ same)
    (λ k running lt. moves_more n old middle new i value kept stores k (when_moving old middle n k running so lt))
