-- Serves judge, by gather and serve.
-- The next persists that offer a word's value, from the last event to the first, and what each persist asks for.
use Rattle.std.proofs.Common.{◌≡◌, ℕ, zero, suc, ◌+◌, ◌<◌, ◌≤◌, true, ◌&&◌, inl, inr, List, length, Some, refl, sym, ap, ◌∙◌, arith, cond, subst}
use Rattle.std.specs.Prelude.{slice_get, slice_index, slice_set, ◌==◌, nat_lt}
use Rattle.std.proofs.lemmas.Bool.{cases_eq, cases_order, cases_Bool, both_ways, and_parts, and_from, eq-eqb, eqb-true, ne_eqb, lt-ltb}
use Rattle.std.proofs.lemmas.List.{length-set, get_or-set_other, get_or-set_same}
use Rattle.strand_events.specs.declared.event.Event.{Event}
use Rattle.strand_events.specs.Trace.{passes, is_persist, word_of, value_of, word_in, value_in, word_at, value_at, event_is}
use Rattle.strand_base.specs.Places.{address_of, persistent_place}
use Rattle.strand_events.specs.Places.{LieIn}
use Rattle.strand_events.proofs.EventWithin.{event_within}
use Rattle.strand_judge.specs.Judged.{Crash, Offers}
use Rattle.strand_judge.specs.Words.{crash_of}
use Rattle.strand_judge.proofs.Verdicts.Image.{place_again}
use Rattle.strand_judge.specs.Offered.{IsFirstOffer, Asks, AreOffered}

-- one more than the persist that event j asks for, or 0 where it asks for none
pub record IsAsked (t : List Event) (crash : Crash) (j asked : ℕ) : Type 0 where
  pub sound : (q : ℕ) → asked ≡ suc q → Asks t crash j q
  pub whole : (q : ℕ) → Asks t crash j q → asked ≡ suc q

first_keep : (t : List Event) (crash : Crash) (word k m : ℕ) → (Offers t crash word k → ⊥) → IsFirstOffer t crash word (suc k) m → IsFirstOffer t crash word k m
first_keep t crash word k zero no_ f = λ r le o. elim (cases_eq r k) [ inl e ↦ no_ (subst (Offers t crash word) e o) | inr ne ↦ let past : suc k ≤ r = grind (arith, le, ne) in f r past o ]
first_keep t crash word k (suc q) no_ f = (omega (arith, f.0), f.1, λ r le lt o. elim (cases_eq r k) [ inl e ↦ no_ (subst (Offers t crash word) e o) | inr ne ↦ let past : suc k ≤ r = grind (arith, le, ne) in f.2 r past lt o ])

pub first_unique : (t : List Event) (crash : Crash) (word k q m : ℕ) → IsFirstOffer t crash word k (suc q) → IsFirstOffer t crash word k m → m ≡ suc q
first_unique t crash word k q zero f g = absurd (g q f.0 f.1)
first_unique t crash word k q (suc r) f g = elim (cases_order r q) [
  | inl e ↦ ap suc e
  | inr others ↦ elim others [
    | inl lt ↦ absurd (f.2 r g.0 lt g.1)
    | inr gt ↦ absurd (g.2 q f.0 gt f.1)
  ]
]

module _ (t : List Event) (first found : List ℕ) (lie : LieIn t (length found)) where
  -- event k, which is e, is noted
  module _ (k : ℕ) (e : Event) (at : slice_get t k ≡ Some e) (firsts nexts firsts' nexts' : List ℕ) (a : AreOffered t (crash_of first found) (length found) (suc k) firsts nexts) where
    place : ℕ
    place = persistent_place (word_of e)

    persist_is : is_persist e ≡ true → event_is is_persist t k ≡ true
    persist_is is = ap (passes is_persist) at ∙ is

    word_is : word_at t k ≡ word_of e
    word_is = ap word_in at

    lies : is_persist e ≡ true → (word_of e ≡ address_of (persistent_place (word_of e))) × (persistent_place (word_of e) < length found)
    lies is = subst (λ w. (w ≡ address_of (persistent_place w)) × (persistent_place w < length found)) word_is (lie k (persist_is is))

    -- what event k offers
    offers_at : (word : ℕ) → Offers t (crash_of first found) word k → (is_persist e ≡ true) × (word_of e ≡ word) × ((value_of e == slice_index found (persistent_place (word_of e))) ≡ true)
    offers_at word o =
        let is : is_persist e ≡ true = sym (ap (passes is_persist) at) ∙ o.persist in
        let to : word_of e ≡ word = sym word_is ∙ o.to in
        (is, to, eq-eqb (value_of e) (slice_index found (persistent_place (word_of e))) (sym (ap value_in at) ∙ o.value ∙ ap (λ w. slice_index found (persistent_place w)) (sym to)))

    pub offered_more : nexts' ≡ cond (is_persist e) (slice_set nexts k (slice_index firsts (persistent_place (word_of e)))) nexts
        → firsts' ≡ cond (is_persist e && (value_of e == slice_index found (persistent_place (word_of e)))) (slice_set firsts (persistent_place (word_of e)) (k + 1)) firsts
        → AreOffered t (crash_of first found) (length found) k firsts' nexts'
    unfolding place
    offered_more made_nexts made_firsts = record {
      long = elim (cases_Bool (is_persist e && (value_of e == slice_index found place))) [
        | inl on ↦ ap length (made_firsts ∙ ap (λ b. cond b (slice_set firsts place (k + 1)) firsts) on) ∙ length-set firsts place (k + 1) ∙ a.long
        | inr off ↦ ap length (made_firsts ∙ ap (λ b. cond b (slice_set firsts place (k + 1)) firsts) off) ∙ a.long
      ];
      long_nexts = elim (cases_Bool (is_persist e)) [
        | inl on ↦ ap length (made_nexts ∙ ap (λ b. cond b (slice_set nexts k (slice_index firsts place)) nexts) on) ∙ length-set nexts k (slice_index firsts place) ∙ a.long_nexts
        | inr off ↦ ap length (made_nexts ∙ ap (λ b. cond b (slice_set nexts k (slice_index firsts place)) nexts) off) ∙ a.long_nexts
      ];
      first = λ x lt. elim (cases_Bool (is_persist e && (value_of e == slice_index found place))) [
        | inr off ↦
            let same : firsts' ≡ firsts = made_firsts ∙ ap (λ b. cond b (slice_set firsts place (k + 1)) firsts) off in
            subst (λ xs. IsFirstOffer t (crash_of first found) (address_of x) k (slice_index xs x)) (sym same) (first_keep t (crash_of first found) (address_of x) k (slice_index firsts x) (λ o. let h = offers_at (address_of x) o in both_ways (is_persist e && (value_of e == slice_index found place)) off (and_from (is_persist e) (value_of e == slice_index found place) h.0 h.2)) (a.first x lt))
        | inl on ↦
            let parts = and_parts (is_persist e) (value_of e == slice_index found place) on in
            let where_ = lies parts.0 in
            let same : firsts' ≡ slice_set firsts place (k + 1) = made_firsts ∙ ap (λ b. cond b (slice_set firsts place (k + 1)) firsts) on in
            elim (cases_eq x place) [
              | inl here ↦
                  let there : slice_index firsts' x ≡ suc k = ap (λ xs. slice_index xs x) same ∙ ap (slice_index (slice_set firsts place (k + 1))) here ∙ get_or-set_same firsts place (k + 1) 0 (omega (arith, where_.1, a.long)) ∙ plus_one k in
                  let to : word_at t k ≡ address_of x = word_is ∙ where_.0 ∙ ap address_of (sym here) in
                  let value : value_at t k ≡ (crash_of first found).found (address_of x) = ap value_in at ∙ eqb-true (value_of e) (slice_index found place) parts.1 ∙ ap (slice_index found) (sym here ∙ sym (place_again x)) in
                  subst (IsFirstOffer t (crash_of first found) (address_of x) k) (sym there) (omega arith, record { persist = persist_is parts.0; to = to; value = value }, λ r le less o. omega (arith, le, less))
              | inr ne ↦
                  let kept : slice_index firsts' x ≡ slice_index firsts x = ap (λ xs. slice_index xs x) same ∙ get_or-set_other firsts place x (k + 1) 0 ne in
                  subst (IsFirstOffer t (crash_of first found) (address_of x) k) (sym kept) (first_keep t (crash_of first found) (address_of x) k (slice_index firsts x) (λ o. let h = offers_at (address_of x) o in ne (sym (place_again x) ∙ ap persistent_place (sym h.1))) (a.first x lt))
            ]
      ];
      next = λ p le is. elim (cases_eq p k) [
        | inl here ↦
            let on : is_persist e ≡ true = sym (ap (passes is_persist) at) ∙ ap (event_is is_persist t) (sym here) ∙ is in
            let where_ = lies on in
            let there : slice_index nexts' k ≡ slice_index firsts place = ap (λ xs. slice_index xs k) (made_nexts ∙ ap (λ b. cond b (slice_set nexts k (slice_index firsts place)) nexts) on) ∙ get_or-set_same nexts k (slice_index firsts place) 0 (omega (arith, a.long_nexts, event_within is_persist t p is, here)) in
            subst (λ y. IsFirstOffer t (crash_of first found) (word_at t y) (suc y) (slice_index nexts' y)) (sym here)
            (subst (IsFirstOffer t (crash_of first found) (word_at t k) (suc k)) (sym there) (subst (λ w. IsFirstOffer t (crash_of first found) w (suc k) (slice_index firsts place)) (sym (word_is ∙ where_.0)) (a.first place where_.1)))
        | inr ne ↦
            let past : suc k ≤ p = grind (arith, le, ne) in
            let kept : slice_index nexts' p ≡ slice_index nexts p = elim (cases_Bool (is_persist e)) [
              | inl on ↦ ap (λ xs. slice_index xs p) (made_nexts ∙ ap (λ b. cond b (slice_set nexts k (slice_index firsts place)) nexts) on) ∙ get_or-set_other nexts k p (slice_index firsts place) 0 ne
              | inr off ↦ ap (λ xs. slice_index xs p) (made_nexts ∙ ap (λ b. cond b (slice_set nexts k (slice_index firsts place)) nexts) off)
            ] in
            subst (IsFirstOffer t (crash_of first found) (word_at t p) (suc p)) (sym kept) (a.next p past is)
      ];
    }
      where
        plus_one : (n : ℕ) → n + 1 ≡ suc n
        plus_one n = omega arith

  -- what event j asks for
  pub asked_by : (firsts nexts : List ℕ) → AreOffered t (crash_of first found) (length found) 0 firsts nexts → (j : ℕ) (e : Event) → slice_get t j ≡ Some e → (asked : ℕ)
      → asked ≡ cond (is_persist e) (cond (value_of e == slice_index found (persistent_place (word_of e))) 0 (slice_index nexts j)) 0 → IsAsked t (crash_of first found) j asked
  asked_by firsts nexts a j e at asked made = elim (cases_Bool (is_persist e)) [
    | inr off ↦
        let none : asked ≡ 0 = made ∙ ap (λ b. cond b (cond (value_of e == slice_index found (persistent_place (word_of e))) 0 (slice_index nexts j)) 0) off in
        record {
          sound = λ q is. absurd (omega (arith, is, none));
          whole = λ q k. absurd (both_ways (is_persist e) off (sym (ap (passes is_persist) at) ∙ k.persist));
        }
    | inl on ↦
        let is : event_is is_persist t j ≡ true = ap (passes is_persist) at ∙ on in
        let where_ = lie j is in
        let value : value_at t j ≡ value_of e = ap value_in at in
        let place : persistent_place (word_at t j) ≡ persistent_place (word_of e) = ap (λ o. persistent_place (word_in o)) at in
        elim (cases_eq (value_of e) (slice_index found (persistent_place (word_of e)))) [
          | inl same ↦
              let none : asked ≡ 0 = made ∙ ap (λ b. cond b (cond (value_of e == slice_index found (persistent_place (word_of e))) 0 (slice_index nexts j)) 0) on ∙ ap (λ b. cond b 0 (slice_index nexts j)) (eq-eqb (value_of e) (slice_index found (persistent_place (word_of e))) same) in
              record {
                sound = λ q eq. absurd (omega (arith, eq, none));
                whole = λ q k. absurd (k.differs (value ∙ same ∙ ap (slice_index found) (sym place)));
              }
          | inr ne ↦
              let next : asked ≡ slice_index nexts j = made ∙ ap (λ b. cond b (cond (value_of e == slice_index found (persistent_place (word_of e))) 0 (slice_index nexts j)) 0) on ∙ ap (λ b. cond b 0 (slice_index nexts j)) (ne_eqb (value_of e) (slice_index found (persistent_place (word_of e))) ne) in
              let offer = a.next j (omega arith) is in
              record {
                sound = λ q eq. record {
                  persist = is;
                  has = and_from (word_at t j == address_of (persistent_place (word_at t j))) (nat_lt (persistent_place (word_at t j)) (length found)) (eq-eqb (word_at t j) (address_of (persistent_place (word_at t j))) where_.0) (lt-ltb (persistent_place (word_at t j)) (length found) where_.1);
                  differs = λ h. ne (sym value ∙ h ∙ ap (slice_index found) place);
                  next = subst (IsFirstOffer t (crash_of first found) (word_at t j) (suc j)) (sym next ∙ eq) offer;
                };
                whole = λ q k. next ∙ first_unique t (crash_of first found) (word_at t j) (suc j) q (slice_index nexts j) k.next offer;
              }
        ]
  ]

pub asked_within : (t : List Event) (crash : Crash) (j asked : ℕ) → IsAsked t crash j asked → asked ≤ length t
asked_within t crash j zero a = omega arith
asked_within t crash j (suc q) a = omega (arith, event_within is_persist t q (a.sound q refl).next.1.persist)
