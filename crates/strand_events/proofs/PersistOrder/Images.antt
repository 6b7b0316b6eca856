-- Serves clause words of persist_order_laws, least_sets_are_judged and images_follow_the_trace.
-- Persists to one word are in order, and what the image of a set depends on.
use Rattle.std.proofs.Common.{◌≡◌, ℕ, zero, suc, ◌<◌, Bool, true, false, ◌||◌, ◌&&◌, ◌⊎◌, inl, inr, List, [], refl, sym, ap, arith}
use Rattle.std.specs.Prelude.{◌==◌, nat_lt}
use Rattle.std.proofs.lemmas.Bool.{cases_Bool, and_parts, and_from, or_left, eqb-true, eq-eqb, lt-ltb}
use Rattle.strand_inputs.specs.declared.mode.Mode.{Mode}
use Rattle.strand_events.specs.declared.event.Event.{Event}
use Rattle.strand_events.specs.Trace.{is_persist, is_access, is_store, core_at, word_at, value_at, event_is}
use Rattle.strand_events.specs.Order.{Set, conflicts, core_orders, directly_before, sets_word, image_below, IsDownwardClosed}
use Rattle.strand_events.proofs.PersistOrder.Epochs.{weaker, persist_store, persist_access}

-- of two persists to one word the earlier one comes directly before the later
pub word_order : (mode : Mode) (t : List Event) (p q : ℕ) → event_is is_persist t p ≡ true → event_is is_persist t q ≡ true → word_at t p ≡ word_at t q → p < q → directly_before mode t p q ≡ true
word_order mode t p q is is' word lt =
    let a = weaker is_persist is_access persist_access t p is in
    let b = weaker is_persist is_access persist_access t q is' in
    let w = eq-eqb (word_at t p) (word_at t q) word in
    let st = or_left (event_is is_store t p) (event_is is_store t q) (weaker is_persist is_store persist_store t p is) in
    let c : conflicts t p q ≡ true = and_from (event_is is_access t p && event_is is_access t q && (word_at t p == word_at t q)) (event_is is_store t p || event_is is_store t q) (and_from (event_is is_access t p && event_is is_access t q) (word_at t p == word_at t q) (and_from (event_is is_access t p) (event_is is_access t q) a b) w) st in
    let own : Bool = (core_at t p == core_at t q) && core_orders mode (core_at t p) t p q in
    and_from (nat_lt p q && event_is is_access t p && event_is is_access t q) (conflicts t p q || own) (and_from (nat_lt p q && event_is is_access t p) (event_is is_access t q) (and_from (nat_lt p q) (event_is is_access t p) (lt-ltb p q lt) a) b) (or_left (conflicts t p q) own c)

-- a downward-closed set holds the earlier persists to a member's word
pub closed_word : (mode : Mode) (t : List Event) (set : Set) → IsDownwardClosed mode t set → (p q : ℕ) → event_is is_persist t p ≡ true → event_is is_persist t q ≡ true → word_at t p ≡ word_at t q → p < q → set q ≡ true → set p ≡ true
closed_word mode t set closed p q is is' word lt held = closed p q is ([], word_order mode t p q is is' word lt) held

pub image_yes : (t : List Event) (set : Set) (initial : ℕ → ℕ) (n w : ℕ) → sets_word t set w n ≡ true → image_below t set initial (suc n) w ≡ value_at t n
image_yes t set initial n w h = rw h refl

pub image_no : (t : List Event) (set : Set) (initial : ℕ → ℕ) (n w : ℕ) → sets_word t set w n ≡ false → image_below t set initial (suc n) w ≡ image_below t set initial n w
image_no t set initial n w h = rw h refl

-- sets that agree on the persists to a word have one image there
pub image_alike : (t : List Event) (set other : Set) (initial : ℕ → ℕ) (n w : ℕ) → ((k : ℕ) → k < n → event_is is_persist t k ≡ true → word_at t k ≡ w → set k ≡ other k) → image_below t set initial n w ≡ image_below t other initial n w
image_alike t set other initial zero w same = refl
image_alike t set other initial (suc n) w same = rw (test (cases_Bool (event_is is_persist t n && (word_at t n == w))), image_alike t set other initial n w (λ k lt. same k (omega arith))) refl
  where
    test : ((event_is is_persist t n && (word_at t n == w)) ≡ true) ⊎ ((event_is is_persist t n && (word_at t n == w)) ≡ false) → sets_word t set w n ≡ sets_word t other w n
    test (inl h) = let parts = and_parts (event_is is_persist t n) (word_at t n == w) h in ap (λ b. event_is is_persist t n && b && (word_at t n == w)) (same n (omega arith) parts.0 (eqb-true (word_at t n) w parts.1))
    test (inr h) = swapped (event_is is_persist t n) (set n) (other n) (word_at t n == w) h
      where
        swapped : (a b c d : Bool) → (a && d) ≡ false → (a && b && d) ≡ (a && c && d)
        swapped false b c d h = refl
        swapped true true true d h = refl
        swapped true true false d h = h
        swapped true false true d h = sym h
        swapped true false false d h = refl
