-- Serves verdicts_are_within_judged_sets, and strand_main's crash: a yes's list is within each judged set.
use Rattle.std.proofs.Common.{◌≡◌, ℕ, ◌<◌, true, List, length, Some, refl, sym, ap, ◌∙◌}
use Rattle.std.specs.Prelude.{slice_get, slice_index}
use Rattle.std.proofs.lemmas.Option.{slice_get-get_or}
use Rattle.strand_base.proofs.BelowBound.{list_get}
use Rattle.strand_inputs.specs.declared.mode.Mode.{Mode}
use Rattle.strand_events.specs.declared.event.Event.{Event}
use Rattle.strand_events.specs.Trace.{is_persist, event_is, persists_of}
use Rattle.strand_events.specs.Order.{Set}
use Rattle.strand_events.specs.Numbers.{numbers_of}
use Rattle.strand_judge.specs.Judged.{Crash, IsJudged}
use Rattle.strand_judge.specs.Verdicts.{IsVerdict, IsYesWithin}
use Rattle.strand_judge.specs.declared.verdict.Verdict.{Verdict}
use Rattle.strand_judge.specs.declared.verdict.Verdict.TheVariants.{Yes, No}

module _ (t : List Event) where
  -- a number of a set's list is that of a persist in the set
  listed : (set : Set) (list : List ℕ) → list ≡ numbers_of t set → (k : ℕ) → k < length list
      → (slice_index list k < length (persists_of t)) × (set (slice_index (persists_of t) (slice_index list k)) ≡ true)
  listed set list same k lt =
      let at : slice_get (numbers_of t set) k ≡ Some (slice_index list k) = ap (λ xs. slice_get xs k) (sym same) ∙ slice_get-get_or list k 0 lt in
      let found = list_get (length (persists_of t)) (λ p. set (slice_index (persists_of t) p)) k (slice_index list k) at in
      (found.0, found.1)

  persist_at : (p : ℕ) → p < length (persists_of t) → event_is is_persist t (slice_index (persists_of t) p) ≡ true
  persist_at p lt = (list_get (length t) (event_is is_persist t) p (slice_index (persists_of t) p) (slice_get-get_or (persists_of t) p 0 lt)).1

pub yes_within : (mode : Mode) (t : List Event) (crash : Crash) (set : Set) (verdict : Verdict) → IsJudged mode t crash set → IsVerdict mode t crash verdict → IsYesWithin t set verdict
yes_within mode t crash set (Yes list) j v =
    let y = v.yes in
    record {
      list = list;
      is = refl;
      numbers = λ k lt. (listed t y.set list y.list_is k lt).0;
      members = λ k lt.
          let at = listed t y.set list y.list_is k lt in
          (y.least).least set j (slice_index (persists_of t) (slice_index list k)) (persist_at t (slice_index list k) at.0) at.1;
    }
yes_within mode t crash set (No word rank) j v = absurd (v.no set j)
