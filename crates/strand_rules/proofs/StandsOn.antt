-- Serves clause stands of durable_sets_are_allowed: where a bank stands for a state, so it does after a step.
use Rattle.std.proofs.Common.{◌≡◌, ℕ, ◌<◌, Bool, true, inl, inr, List, [], ◌∷◌, ◌++◌, length, refl, sym, ap, subst, ◌∙◌, arith}
use Rattle.std.specs.Prelude.{Some, None, slice_get, slice_set}
use Rattle.std.specs.declared.option.Option.{Option}
use Rattle.strand_base.specs.ModuleSeen.{written}
use Rattle.strand_inputs.specs.Settings.{Settings}
use Rattle.strand_inputs.specs.declared.step.Step.{Step}
use Rattle.strand_inputs.specs.declared.step.Step.TheVariants.{Core, Dispatch, Send, Write}
use Rattle.strand_events.specs.declared.event.Event.{Event}
use Rattle.strand_events.specs.Trace.{is_persist, word_at, value_at, event_is}
use Rattle.strand_events.specs.Order.{set_of}
use Rattle.strand_events.proofs.PersistOrder.Images.{closed_word}
use Rattle.strand_modules.specs.Bank.{BankSeen, front_written}
use Rattle.strand_base.specs.Places.{persistent_place, address_of}
use Rattle.strand_events.specs.Places.{LieIn}
use Rattle.strand_rules.specs.Images.{persistent_image}
use Rattle.strand_rules.specs.Cycle.{WordStore, State, unmarked, durable_set, front, eligible, next_event, core_after, item_after, send_after, write_after, done_after, after_turn, turn, after}
use Rattle.strand_rules.specs.Machine.{StoresOk, StoresErr, Machine, StepLeaves, StandsOn, stored_for, stored_by}
use Rattle.strand_rules.specs.Visible.{Program, with_event}
use Rattle.strand_rules.proofs.Image.AllWords.{image_length, image_more, image_one}
use Rattle.strand_modules.proofs.FrontWords.{written_front}
use Rattle.strand_rules.specs.declared.turn.Turn.{Turn}
use Rattle.strand_rules.specs.declared.turn.Turn.TheVariants.{Done, Bubble, Fault}
use Rattle.strand_events.proofs.EventWithin.{event_within}
use Rattle.strand_rules.proofs.Marks.{held_within}
use Rattle.strand_rules.proofs.MarkSets.{held_grown, held_set}
use Rattle.strand_rules.proofs.Retire.Trace.{retired_trace}
use Rattle.strand_rules.proofs.Order.Invariant.{IsGood}
use Rattle.strand_rules.proofs.Order.Run.{good_closed}

-- the image of the durable set after an instruction
image_unmarked : (words : List ℕ) (t : List Event) (marks : List Bool) (o : Option Event) → length marks ≡ length t
    → persistent_image words (with_event t o) (set_of (unmarked marks o)) ≡ persistent_image words t (set_of marks)
image_unmarked words t marks None same = refl
image_unmarked words t marks (Some e) same =
    ap (persistent_image words (t ++ e ∷ [])) (held_grown marks)
    ∙ image_more words t e (set_of marks) (λ h. omega (arith, held_within marks (length t) h, same))

abbrev image_of : List ℕ → State → List ℕ
image_of words s = persistent_image words s.now.trace (durable_set s)

core_image : (g : Settings) (p : Program) (s : State) (n : ℕ) → IsGood g s → (words : List ℕ) → image_of words (core_after p s n (next_event p s.now n)) ≡ image_of words s
core_image g p s n good words =
    ap (λ t. persistent_image words t (set_of (unmarked s.durable (next_event p s.now n)))) (retired_trace p s.now n)
    ∙ image_unmarked words s.now.trace s.durable (next_event p s.now n) good.durable_marks

item_image : (s : State) (n : ℕ) (o : Option ℕ) (words : List ℕ) → image_of words (item_after s n o) ≡ image_of words s
item_image s n None words = refl
item_image s n (Some k) words = refl

send_image : (s : State) (o : Option ℕ) (words : List ℕ) → image_of words (send_after s o) ≡ image_of words s
send_image s None words = refl
send_image s (Some p) words = refl

-- persist p, which was in flight at place j, was written
write_image : (g : Settings) (s : State) (j p : ℕ) → IsGood g s → slice_get s.flight j ≡ Some p → (words : List ℕ)
    → persistent_place (word_at s.now.trace p) < length words → word_at s.now.trace p ≡ address_of (persistent_place (word_at s.now.trace p))
    → image_of words (write_after s j (Some p)) ≡ slice_set (image_of words s) (persistent_place (word_at s.now.trace p)) (value_at s.now.trace p)
write_image g s j p good at words inside address =
    let is : event_is is_persist s.now.trace p ≡ true = good.ordered.persists p (inr (inl (j, at))) in
    ap (persistent_image words s.now.trace) (held_set s.durable p (omega (arith, event_within is_persist s.now.trace p is, good.durable_marks)))
    ∙ image_one words s.now.trace (set_of s.durable) p is
    (λ q lt isq word done. good.apart.not_done p (j, at) (closed_word g.mode s.now.trace (set_of s.durable) (good_closed g s good) p q is isq (sym word) lt done))
    inside address

same_image : (count : ℕ) (old new : State) (bank bank' : BankSeen) → bank'.told ≡ bank.told → ((words : List ℕ) → image_of words new ≡ image_of words old) → StandsOn count old new bank bank'
same_image count old new bank bank' told same = λ words base long stands. told ∙ stands ∙ ap (λ (xs : List ℕ). front_written xs base) (sym (same words))

write_stands : (g : Settings) (s : State) (j p count : ℕ) (bank bank' : BankSeen) → IsGood g s → slice_get s.flight j ≡ Some p
    → persistent_place (word_at s.now.trace p) < count → word_at s.now.trace p ≡ address_of (persistent_place (word_at s.now.trace p))
    → bank'.told ≡ written bank.told (persistent_place (word_at s.now.trace p)) (value_at s.now.trace p)
    → StandsOn count s (write_after s j (Some p)) bank bank'
write_stands g s j p count bank bank' good at inside address stored =
    λ words base same stands.
    let place = persistent_place (word_at s.now.trace p) in
    let value = value_at s.now.trace p in
    stored ∙ ap (λ (t : Option (List ℕ)). written t place value) stands
    ∙ written_front (image_of words s) base place value (omega (arith, inside, same, image_length words s.now.trace (durable_set s)))
    ∙ ap (λ (xs : List ℕ). front_written xs base) (sym (write_image g s j p good at words (omega (arith, inside, same)) address))

turned_image : (t : Turn) (old new : State) (words : List ℕ) → image_of words new ≡ image_of words old → image_of words (after_turn t old new) ≡ image_of words old
turned_image Done old new words same = same
turned_image (Bubble cause) old new words same = refl
turned_image (Fault m) old new words same = refl

-- core n's step
pub core_stand : (g : Settings) (p : Program) (s : State) → IsGood g s → (count n : ℕ) (bank : BankSeen) → StandsOn count s (after g p s (Core n)) bank bank
core_stand g p s good count n bank =
    same_image count s (after g p s (Core n)) bank bank refl
    (λ words. turned_image (turn g p s (Core n)) s (core_after p s n (next_event p s.now n)) words (core_image g p s n good words))

err_told : (o : Option WordStore) (bank bank' : BankSeen) (m : ℕ) → StoresErr o bank bank' m → bank'.told ≡ bank.told
err_told None bank bank' m h = absurd h
err_told (Some r) bank bank' m h = h.same

module _ (g : Settings) (p : Program) (s : State) (good : IsGood g s) (all : LieIn s.now.trace p.sizes.persistent) (bank bank' : BankSeen) where
  done_stands : (step : Step) → StoresOk (stored_by s step) bank bank' → StandsOn p.sizes.persistent s (done_after g p s step) bank bank'
  done_stands (Core n) same = same_image p.sizes.persistent s (core_after p s n (next_event p s.now n)) bank bank' (ap (λ (b : BankSeen). b.told) same) (core_image g p s n good)
  done_stands (Dispatch n) same = same_image p.sizes.persistent s (item_after s n (front g s n)) bank bank' (ap (λ (b : BankSeen). b.told) same) (item_image s n (front g s n))
  done_stands (Send n b j) same = same_image p.sizes.persistent s (send_after s (slice_get (eligible g s n b) j)) bank bank' (ap (λ (b : BankSeen). b.told) same) (send_image s (slice_get (eligible g s n b) j))
  done_stands (Write j) stores = go (slice_get s.flight j) refl stores
    where
      go : (o : Option ℕ) → slice_get s.flight j ≡ o → StoresOk (stored_for s o) bank bank' → StandsOn p.sizes.persistent s (write_after s j o) bank bank'
      go None at same = same_image p.sizes.persistent s s bank bank' (ap (λ (b : BankSeen). b.told) same) (λ words. refl)
      go (Some k) at stored =
          let placed = all k (good.ordered.persists k (inr (inl (j, at)))) in
          write_stands g s j k p.sizes.persistent bank bank' good at placed.1 placed.0 stored.done

-- also where the step's store fails
pub steps_stand : (old new : Machine) (bank bank' : BankSeen) (step : Step) (t : Turn) → IsGood old.config old.state → LieIn old.state.now.trace old.program.sizes.persistent
    → StepLeaves old new bank bank' step t → StandsOn old.program.sizes.persistent old.state new.state bank bank'
steps_stand old new bank bank' step (Fault m) good all (turned, same, stores) =
    same_image old.program.sizes.persistent old.state new.state bank bank' (err_told (stored_by old.state step) bank bank' m stores) (λ words. ap (λ (m : Machine). image_of words m.state) same)
steps_stand old new bank bank' step (Bubble cause) good all (turned, same, bank_same) =
    let state : new.state ≡ old.state = ap (λ (m : Machine). m.state) same ∙ ap (λ t. after_turn t old.state (done_after old.config old.program old.state step)) turned in
    same_image old.program.sizes.persistent old.state new.state bank bank' (ap (λ (b : BankSeen). b.told) bank_same) (λ words. ap (image_of words) state)
steps_stand old new bank bank' step Done good all (turned, same, stores) =
    let state : new.state ≡ done_after old.config old.program old.state step = ap (λ (m : Machine). m.state) same ∙ ap (λ t. after_turn t old.state (done_after old.config old.program old.state step)) turned in
    subst (λ s. StandsOn old.program.sizes.persistent old.state s bank bank') (sym state) (done_stands old.config old.program old.state good all bank bank' step stores)
