-- Serves clause placed of Pipeline::trace: persists lie in the persistent words where the stores of instructions do.
use Rattle.std.proofs.Common.{◌≡◌, ℕ, zero, suc, ◌≤◌, Bool, true, false, List, [], ◌∷◌, ◌++◌, refl, sym, ◌∙◌, arith, inl, inr}
use Rattle.std.proofs.lemmas.Bool.{leb-true, true≢false}
use Rattle.strand_base.specs.declared.limits.TheConstants.{MOST_MEMORY}
use Rattle.strand_base.specs.declared.regions.TheConstants.{PERSISTENT_BASE}
use Rattle.strand_exec.specs.Arith.{merged}
use Rattle.strand_exec.specs.Core.{Extents}
use Rattle.strand_exec.specs.Memory.{Memory, word_in}
use Rattle.strand_exec.specs.Plan.{IsWord}
use Rattle.strand_exec.proofs.StoresData.{StoresData}
use Rattle.strand_exec.specs.declared.planned.Plan.{Plan}
use Rattle.strand_exec.specs.declared.planned.Plan.TheVariants.{Plain, Load, Store, Barrier, NewStrand, Join, Out, Halt, Trap}
use Rattle.strand_events.specs.declared.event.Event.{Event}
use Rattle.strand_events.specs.declared.event.Event.TheVariants as events
use Rattle.strand_events.specs.Fits.{is_persistent}
use Rattle.strand_events.specs.Trace.{is_persist}
use Rattle.strand_events.specs.Places.{LieIn}
use Rattle.strand_rules.specs.Visible.{event_of, with_event}

-- one event more that is no persist, or one to the persistent words
lie_more : (words : ℕ) (t : List Event) (e : Event) → LieIn t words → LieIn (e ∷ []) words → LieIn (t ++ e ∷ []) words
lie_more words [] e all one p is = one p is
lie_more words (x ∷ t) e all one zero is = all zero is
lie_more words (x ∷ t) e all one (suc p) is = lie_more words t e (λ q. all (suc q)) one p is

lie_none : (words : ℕ) (e : Event) → is_persist e ≡ false → LieIn (e ∷ []) words
lie_none words e out zero is = absurd (true≢false (sym is ∙ out))
lie_none words e out (suc p) is = absurd (true≢false (sym is))

-- a store's event is placed where the store's word is a data word
store_placed : (x : Extents) (n word value : ℕ) (persist : Bool) → x.volatile ≤ MOST_MEMORY → IsWord x word → is_persistent word ≡ persist → LieIn (events.Store persist n word value ∷ []) x.persistent
store_placed x n word value false small at e p is = lie_none x.persistent (events.Store false n word value) refl p is
store_placed x n word value true small at e (suc p) is = absurd (true≢false (sym is))
store_placed x n word value true small at e zero is =
    let high : PERSISTENT_BASE ≤ word = leb-true _ _ e in
    elim at.1 [
      | inl low ↦ absurd (omega (arith, low.1, small, high))
      | inr region ↦ (omega (arith, at.0, region.0), omega (arith, region.0, region.1))
    ]

pub event_placed : (x : Extents) (n : ℕ) (m : Memory) (p : Plan) (t : List Event) → x.volatile ≤ MOST_MEMORY → StoresData x p
    → LieIn t x.persistent → LieIn (with_event t (event_of n m p)) x.persistent
event_placed x n m Plain t small placed all = all
event_placed x n m (Load word) t small placed all = lie_more x.persistent t _ all (lie_none x.persistent _ refl)
event_placed x n m (Store word mask bits) t small placed all = lie_more x.persistent t _ all (store_placed x n word (merged (word_in m word) mask bits) (is_persistent word) small placed refl)
event_placed x n m Barrier t small placed all = lie_more x.persistent t _ all (lie_none x.persistent _ refl)
event_placed x n m NewStrand t small placed all = lie_more x.persistent t _ all (lie_none x.persistent _ refl)
event_placed x n m Join t small placed all = lie_more x.persistent t _ all (lie_none x.persistent _ refl)
event_placed x n m (Out value) t small placed all = lie_more x.persistent t _ all (lie_none x.persistent _ refl)
event_placed x n m Halt t small placed all = all
event_placed x n m (Trap trap) t small placed all = all
