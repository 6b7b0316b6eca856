-- Serves least_sets_are_judged, each of its clauses, and judge, where it says no.
-- Judged and settled sets: they meet, and the least settled set is the least judged one where there is any.
use Rattle.std.proofs.Common.{◌≡◌, ℕ, zero, suc, ◌<◌, ◌≤◌, Bool, true, false, ◌&&◌, ◌⊎◌, inl, inr, List, length, refl, sym, ap, ◌∙◌, arith}
use Rattle.std.specs.Prelude.{not, ◌==◌}
use Rattle.std.proofs.lemmas.Bool.{cases_eq, cases_order, cases_Bool, and_parts, and_from, eqb-true, eq-eqb, not-true, both_ways, true_from_ne_false, false_from_ne_true}
use Rattle.strand_inputs.specs.declared.mode.Mode.{Mode}
use Rattle.strand_events.specs.declared.event.Event.{Event}
use Rattle.strand_base.specs.Counting.{any_below}
use Rattle.strand_events.specs.Trace.{is_persist, word_at, value_at, event_is}
use Rattle.strand_events.specs.Order.{Set, IsDownwardClosed, sets_word, image_below, image}
use Rattle.strand_judge.specs.Judged.{IsAllowed, Crash, IsJudged, IsSettled, IsSubset, both, all_persists}
use Rattle.strand_base.proofs.BelowBound.{any_true, any_false, at_or_below}
use Rattle.strand_events.proofs.EventWithin.{event_within}
use Rattle.strand_events.proofs.PersistOrder.Images.{closed_word, image_yes, image_no, image_alike}

-- a persist of the word that is in the one set and not in the other
record Odd (t : List Event) (set other : Set) (word k : ℕ) : Type 0 where
  persist : event_is is_persist t k ≡ true
  to : word_at t k ≡ word
  in_set : set k ≡ true
  missing : other k ≡ false

odd_or_within : (t : List Event) (set other : Set) (word : ℕ) → ((k : ℕ) × Odd t set other word k) ⊎ ((k : ℕ) → event_is is_persist t k ≡ true → word_at t k ≡ word → set k ≡ true → other k ≡ true)
odd_or_within t set other word = elim (cases_Bool (any_below (length t) (λ k. event_is is_persist t k && (word_at t k == word) && set k && not (other k)))) [
  | inl some_ ↦
      let k = any_true (length t) (λ k. event_is is_persist t k && (word_at t k == word) && set k && not (other k)) some_ in
      let one = and_parts (event_is is_persist t k.0 && (word_at t k.0 == word) && set k.0) (not (other k.0)) k.2 in
      let two = and_parts (event_is is_persist t k.0 && (word_at t k.0 == word)) (set k.0) one.0 in
      let three = and_parts (event_is is_persist t k.0) (word_at t k.0 == word) two.0 in
      inl (k.0, record { persist = three.0; to = eqb-true (word_at t k.0) word three.1; in_set = two.1; missing = not-true (other k.0) one.1 })
  | inr none ↦ inr (λ k is to in_set. true_from_ne_false (other k) (λ missing.
      both_ways (event_is is_persist t k && (word_at t k == word) && set k && not (other k))
      (any_false (length t) (λ k. event_is is_persist t k && (word_at t k == word) && set k && not (other k)) none k (event_within is_persist t k is))
      (and_from (event_is is_persist t k && (word_at t k == word) && set k) (not (other k)) (and_from (event_is is_persist t k && (word_at t k == word)) (set k) (and_from (event_is is_persist t k) (word_at t k == word) is (eq-eqb (word_at t k) word to)) in_set) (ap not missing))))
]

-- at a word, of two downward-closed sets one is within the other
one_within : (mode : Mode) (t : List Event) (set other : Set) → IsDownwardClosed mode t set → IsDownwardClosed mode t other → (word : ℕ) → ((k : ℕ) → event_is is_persist t k ≡ true → word_at t k ≡ word → set k ≡ true → other k ≡ true) ⊎ ((k : ℕ) → event_is is_persist t k ≡ true → word_at t k ≡ word → other k ≡ true → set k ≡ true)
one_within mode t set other c c' word = elim (odd_or_within t set other word) [
  | inr within ↦ inl within
  | inl (k, o) ↦ inr (λ m is to in_set. elim (cases_order m k) [
    | inl e ↦ ap set e ∙ o.in_set
    | inr others ↦ elim others [
      | inl lt ↦ closed_word mode t set c m k is o.persist (to ∙ sym o.to) lt o.in_set
      | inr gt ↦ absurd (both_ways (other k) o.missing (closed_word mode t other c' k m o.persist is (o.to ∙ sym to) gt in_set))
    ]
  ])
]

-- the last persist to the word in the set gives the image
last_sets : (t : List Event) (set : Set) (initial : ℕ → ℕ) (word n k : ℕ) → k < n → sets_word t set word k ≡ true → (q : ℕ) × (k ≤ q) × (q < n) × (sets_word t set word q ≡ true) × (image_below t set initial n word ≡ value_at t q)
last_sets t set initial word zero k lt h = absurd (omega arith)
last_sets t set initial word (suc n) k lt h = elim (cases_Bool (sets_word t set word n)) [
  | inl here ↦ let le : k ≤ n = omega arith in let top : n < suc n = omega arith in (n, le, top, here, image_yes t set initial n word here)
  | inr none ↦
      let below : k < n = at_or_below lt (λ e. both_ways (sets_word t set word n) none (ap (sets_word t set word) (sym e) ∙ h)) in
      let q = last_sets t set initial word n k below h in
      let top : q.0 < suc n = omega (arith, q.2) in
      (q.0, q.1, top, q.3, image_no t set initial n word none ∙ q.4)
]

pub sets_from : (t : List Event) (set : Set) (word k : ℕ) → event_is is_persist t k ≡ true → word_at t k ≡ word → set k ≡ true → sets_word t set word k ≡ true
sets_from t set word k is to in_set = and_from (event_is is_persist t k && set k) (word_at t k == word) (and_from (event_is is_persist t k) (set k) is in_set) (eq-eqb (word_at t k) word to)

pub sets_parts : (t : List Event) (set : Set) (word k : ℕ) → sets_word t set word k ≡ true → (event_is is_persist t k ≡ true) × (set k ≡ true) × (word_at t k ≡ word)
sets_parts t set word k h =
    let one = and_parts (event_is is_persist t k && set k) (word_at t k == word) h in
    let two = and_parts (event_is is_persist t k) (set k) one.0 in
    (two.0, two.1, eqb-true (word_at t k) word one.1)

same_from : (a b : Bool) → (a ≡ true → b ≡ true) → (b ≡ true → a ≡ true) → a ≡ b
same_from true b f h = sym (f refl)
same_from false true f h = h refl
same_from false false f h = refl

both_left : (set other : Set) (p : ℕ) → both set other p ≡ true → set p ≡ true
both_left set other p h = (and_parts (set p) (other p) h).0

both_right : (set other : Set) (p : ℕ) → both set other p ≡ true → other p ≡ true
both_right set other p h = (and_parts (set p) (other p) h).1

-- the intersection has the image of the smaller set at a word
image_smaller : (t : List Event) (set other : Set) (initial : ℕ → ℕ) (word : ℕ) → ((k : ℕ) → event_is is_persist t k ≡ true → word_at t k ≡ word → set k ≡ true → other k ≡ true) → image t (both set other) initial word ≡ image t set initial word
image_smaller t set other initial word within = image_alike t (both set other) set initial (length t) word (λ k lt is to. same_from (both set other k) (set k) (both_left set other k) (λ in_set. and_from (set k) (other k) in_set (within k is to in_set)))

image_smaller_right : (t : List Event) (set other : Set) (initial : ℕ → ℕ) (word : ℕ) → ((k : ℕ) → event_is is_persist t k ≡ true → word_at t k ≡ word → other k ≡ true → set k ≡ true) → image t (both set other) initial word ≡ image t other initial word
image_smaller_right t set other initial word within = image_alike t (both set other) other initial (length t) word (λ k lt is to. same_from (both set other k) (other k) (both_right set other k) (λ in_set. and_from (set k) (other k) (within k is to in_set) in_set))

module _ (mode : Mode) (t : List Event) where
  pub allowed_both : (set other : Set) → IsAllowed mode t set → IsAllowed mode t other → IsAllowed mode t (both set other)
  allowed_both set other a b = record {
    closed = λ p q is before h. and_from (set p) (other p) (a.closed p q is before (both_left set other q h)) (b.closed p q is before (both_right set other q h));
    joined = λ p h. and_from (set p) (other p) (a.joined p h) (b.joined p h);
  }

  module _ (crash : Crash) where
    pub judged_both : (set other : Set) → IsJudged mode t crash set → IsJudged mode t crash other → IsJudged mode t crash (both set other)
    judged_both set other a b = record {
      allowed = allowed_both set other a.allowed b.allowed;
      agrees = λ word has. elim (one_within mode t set other a.allowed.closed b.allowed.closed word) [
        | inl within ↦ image_smaller t set other crash.initial word within ∙ a.agrees word has
        | inr within ↦ image_smaller_right t set other crash.initial word within ∙ b.agrees word has
      ];
    }

    pub settled_both : (set other : Set) → IsSettled mode t crash set → IsSettled mode t crash other → IsSettled mode t crash (both set other)
    settled_both set other a b = record {
      allowed = allowed_both set other a.allowed b.allowed;
      settled = λ word has. elim (one_within mode t set other a.allowed.closed b.allowed.closed word) [
        | inl within ↦ elim (a.settled word has) [
          | inl agrees ↦ inl (image_smaller t set other crash.initial word within ∙ agrees)
          | inr in_set ↦ inr (λ p o. and_from (set p) (other p) (in_set p o) (within p o.persist o.to (in_set p o)))
        ]
        | inr within ↦ elim (b.settled word has) [
          | inl agrees ↦ inl (image_smaller_right t set other crash.initial word within ∙ agrees)
          | inr in_set ↦ inr (λ p o. and_from (set p) (other p) (within p o.persist o.to (in_set p o)) (in_set p o))
        ]
      ];
    }

    pub settled_all : IsSettled mode t crash all_persists
    settled_all = record { allowed = record { closed = λ p q is before h. refl; joined = λ p h. refl }; settled = λ word has. inr (λ p o. refl) }

    pub judged_settled : (set : Set) → IsJudged mode t crash set → IsSettled mode t crash set
    judged_settled set j = record { allowed = j.allowed; settled = λ word has. inl (j.agrees word has) }

    -- a member of the larger set beyond the smaller one: the last one gives the larger set's image
    beyond : (set other : Set) → IsDownwardClosed mode t set → (word k : ℕ) → Odd t other set word k → (q : ℕ) × Odd t other set word q × (image t other crash.initial word ≡ value_at t q)
    beyond set other closed word k o =
        let q = last_sets t other crash.initial word (length t) k (event_within is_persist t k o.persist) (sets_from t other word k o.persist o.to o.in_set) in
        let parts = sets_parts t other word q.0 q.3 in (
          q.0,
          record {
            persist = parts.0;
            to = parts.2;
            in_set = parts.1;
            missing = false_from_ne_true (set q.0) (λ h. elim (cases_eq k q.0) [
              | inl e ↦ both_ways (set k) o.missing (ap set e ∙ h)
              | inr ne ↦ let lt : k < q.0 = grind (arith, q.1) in both_ways (set k) o.missing (closed_word mode t set closed k q.0 o.persist parts.0 (o.to ∙ sym parts.2) lt h)
            ]);
          },
          q.4,
        )

    -- the least settled set is judged where any set is
    pub least_judged : (least set : Set) → IsSettled mode t crash least → ((other : Set) → IsSettled mode t crash other → IsSubset t least other) → IsJudged mode t crash set → IsJudged mode t crash least
    least_judged least set settled below j = record {
      allowed = settled.allowed;
      agrees = λ word has. elim (settled.settled word has) [
        | inl agrees ↦ agrees
        | inr in_set ↦ elim (odd_or_within t set least word) [
          | inl (k, o) ↦
              let q = beyond least set settled.allowed.closed word k o in
              absurd (both_ways (least q.0) (q.1).missing (in_set q.0 (record { persist = (q.1).persist; to = (q.1).to; value = sym q.2 ∙ j.agrees word has })))
          | inr within ↦ image_alike t least set crash.initial (length t) word (λ k lt is to. same_from (least k) (set k) (λ h. below set (judged_settled set j) k is h) (within k is to)) ∙ j.agrees word has
        ]
      ];
    }
