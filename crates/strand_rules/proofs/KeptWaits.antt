-- Serves clause step of PlainMachine::step under tag: the waits that it keeps are those of its longer trace.
use Rattle.std.proofs.Common.{◌≡◌, ℕ, zero, suc, ◌<◌, inl, inr, List, [], ◌∷◌, ◌++◌, length, refl, sym, ap, subst, ◌∙◌, arith, length-append}
use Rattle.std.specs.Prelude.{slice_index, slice_index_or, IfSome, Some, None}
use Rattle.std.specs.declared.option.Option.{Option}
use Rattle.std.proofs.lemmas.Bool.{cases_eq}
use Rattle.strand_base.proofs.BelowBound.{at_or_below}
use Rattle.strand_inputs.specs.declared.conflict.Conflict.{Conflict}
use Rattle.strand_inputs.specs.declared.conflict.Conflict.TheVariants.{Stall, Tag}
use Rattle.strand_inputs.specs.declared.mode.Mode.{Mode}
use Rattle.strand_events.specs.declared.event.Event.{Event}
use Rattle.strand_events.specs.Waits.{wait}
use Rattle.strand_events.proofs.Waits.IsMet.{length_grown}
use Rattle.strand_events.proofs.Waits.LongerTrace.{wait_kept}
use Rattle.strand_rules.specs.Next.{AreWaits, AreKeptWaits, IsWaitOf, IsNextWait, waited}
use Rattle.strand_rules.specs.Visible.{with_event}

list_more : (xs : List (List ℕ)) (y : List ℕ) (i : ℕ) → i < length xs → slice_index_or (xs ++ y ∷ []) i [] ≡ slice_index_or xs i []
list_more [] y i lt = absurd (omega arith)
list_more (x ∷ xs) y zero lt = refl
list_more (x ∷ xs) y (suc i) lt = list_more xs y i (omega arith)

list_last : (xs : List (List ℕ)) (y : List ℕ) → slice_index_or (xs ++ y ∷ []) (length xs) [] ≡ y
list_last [] y = refl
list_last (x ∷ xs) y = list_last xs y

waits_more : (mode : Mode) (t : List Event) (e : Event) (waits : List (List ℕ)) (w : List ℕ) → AreWaits mode t waits → IsWaitOf mode t e w → AreWaits mode (t ++ e ∷ []) (waits ++ w ∷ [])
waits_more mode t e waits w are new = (
  omega (arith, length-append waits (w ∷ []), length_grown t e, are.0),
  λ c a few lt. elim (cases_eq a (length t)) [
    | inl last ↦ let at : a ≡ length waits = last ∙ sym are.0 in ap (λ (l : List ℕ). slice_index l c) (ap (λ i. slice_index_or (waits ++ w ∷ []) i []) at ∙ list_last waits w) ∙ new c few ∙ ap (wait mode (t ++ e ∷ []) c) (sym last)
    | inr ne ↦
        let old : a < length t = at_or_below (omega (arith, lt, length_grown t e)) ne in
        let inside : a < length waits = omega (arith, are.0) in
        ap (λ (l : List ℕ). slice_index l c) (list_more waits w a inside) ∙ are.1 c a few old ∙ sym (wait_kept mode t e c a old)
  ],
)

pub kept_more : (conflict : Conflict) (mode : Mode) (t : List Event) (waits : List (List ℕ)) (event : Option Event) (o : Option (List ℕ)) → AreKeptWaits conflict mode t waits → IsNextWait conflict mode t event o
    → AreKeptWaits conflict mode (with_event t event) (waited waits o)
kept_more Stall mode t waits event o are new = ap (waited waits) new ∙ are
kept_more Tag mode t waits None o are new = subst (λ o. AreWaits mode t (waited waits o)) (sym new) are
kept_more Tag mode t waits (Some e) None are new = absurd new
kept_more Tag mode t waits (Some e) (Some w) are new = waits_more mode t e waits w are new

-- before the first event there are none
pub none_kept : (conflict : Conflict) (mode : Mode) → AreKeptWaits conflict mode [] []
none_kept Stall mode = refl
none_kept Tag mode = (refl, λ c a few lt. absurd (omega arith))

-- where there is a wait to be kept, there is room for it
pub room_kept : (conflict : Conflict) (mode : Mode) (t : List Event) (waits : List (List ℕ)) (room : ℕ) → AreKeptWaits conflict mode t waits → length t < room → length waits < room
room_kept Stall mode t waits room are less = omega (arith, ap length are, less)
room_kept Tag mode t waits room are less = omega (arith, are.0, less)

pub room_for : (o : Option (List ℕ)) (n room : ℕ) → n < room → IfSome o (λ w. n < room)
room_for None n room less = tt
room_for (Some w) n room less = less
