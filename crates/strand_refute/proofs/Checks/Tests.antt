-- Serves check, by is_accepted and is_accepted_ending: a test of a line is true exactly where the line is accepted.
use Rattle.std.proofs.Common.{◌≡◌, ℕ, zero, suc, ◌+◌, ◌<◌, ◌↔◌, Bool, true, false, ◌||◌, inl, inr, List, Option, Some, None, length, refl, sym, ap, ◌∙◌, arith, subst}
use Rattle.std.specs.Prelude.{◌==◌, nat_lt, slice_get, slice_index, slice_set, replicate}
use Rattle.std.proofs.lemmas.Bool.{cases_eq, both_ways, and_parts, and_from, or_left, eqb-true, eq-eqb, ltb-true, lt-ltb, ne_eqb}
use Rattle.std.proofs.lemmas.List.{length-set, length-replicate, get_or-replicate, get_or_past, get_or-set_other}
use Rattle.std.proofs.lemmas.Bool.{cases_lt}
use Rattle.std.proofs.lemmas.Option.{slice_get_within}
use Rattle.strand_inputs.specs.declared.mode.Mode.{Mode}
use Rattle.strand_base.specs.Places.{address_of, persistent_place}
use Rattle.strand_events.specs.declared.event.Event.{Event}
use Rattle.strand_events.specs.Trace.{passes, is_persist, word_of, value_of, word_in, value_in, word_at, event_is}
use Rattle.strand_events.specs.Order.{Set, set_of}
use Rattle.strand_events.specs.Places.{LieIn}
use Rattle.strand_judge.specs.Judged.{Crash}
use Rattle.strand_judge.specs.Words.{crash_of}
use Rattle.strand_judge.specs.Offered.{IsFirstOffer, Asks, IsForced, AreOffered}
use Rattle.strand_judge.proofs.Least.Offers.{IsAsked, first_unique}
use Rattle.strand_judge.proofs.Least.Marks.{newly_marked}
use Rattle.strand_refute.specs.declared.certificate.Forced.{Forced}
use Rattle.strand_refute.specs.declared.certificate.Ending.{Ending}
use Rattle.strand_refute.specs.CertificateSeen.{CertificateSeen}
use Rattle.strand_refute.specs.Accepted.{names, needed_by, IsAcceptedForced, IsNeverMade, IsNeverMadeAfter, IsAcceptedEnding, IsAcceptedLine, IsAccepted}
use Rattle.strand_refute.specs.Checked.{IsFirstRejected}
use Rattle.strand_refute.specs.Lines.{HasAcceptedEnding, AreAccepted}
use Rattle.strand_refute.proofs.Checks.Sound.{holds_within}

plus_one : (n : ℕ) → n + 1 ≡ suc n
plus_one n = omega arith

-- the word of an image, by its place
pub word_has : (first found : List ℕ) (word : ℕ) → word ≡ address_of (persistent_place word) → persistent_place word < length found → (crash_of first found).has word ≡ true
word_has first found word to lt = and_from (word == address_of (persistent_place word)) (nat_lt (persistent_place word) (length found)) (eq-eqb word (address_of (persistent_place word)) to) (lt-ltb (persistent_place word) (length found) lt)

pub word_parts : (first found : List ℕ) (word : ℕ) → (crash_of first found).has word ≡ true → (word ≡ address_of (persistent_place word)) × (persistent_place word < length found)
word_parts first found word h =
    let parts = and_parts (word == address_of (persistent_place word)) (nat_lt (persistent_place word) (length found)) h in
    (eqb-true word (address_of (persistent_place word)) parts.0, ltb-true (persistent_place word) (length found) parts.1)

-- the persist that an event asks for
pub asks_is : (t : List Event) (crash : Crash) (p q asked : ℕ) → IsAsked t crash p asked → ((asked == q + 1) ≡ true) ↔ Asks t crash p q
asks_is t crash p q asked a = (
  λ h. a.sound q (eqb-true asked (q + 1) h ∙ plus_one q),
  λ h. eq-eqb asked (q + 1) (a.whole q h ∙ sym (plus_one q)),
)

-- a persist is to a word of the image
pub place_within : (t : List Event) (found : List ℕ) → LieIn t (length found) → (q : ℕ) (e : Event) → slice_get t q ≡ Some e → is_persist e ≡ true → persistent_place (word_of e) < length found
place_within t found lie q e at on = subst (λ w. persistent_place w < length found) (ap word_in at) (lie q (ap (passes is_persist) at ∙ on)).1

module _ (t : List Event) (first found : List ℕ) (lie : LieIn t (length found)) (firsts nexts : List ℕ) (o : AreOffered t (crash_of first found) (length found) 0 firsts nexts) where
  -- event q, which is e, is the first persist with the crash image's value
  module _ (q : ℕ) (e : Event) (at : slice_get t q ≡ Some e) where
    place : ℕ
    place = persistent_place (word_of e)

    pub forced_no : is_persist e ≡ false → (word : ℕ) → IsForced t (crash_of first found) word q → ⊥
    forced_no off word f = both_ways (is_persist e) off (sym (ap (passes is_persist) at) ∙ f.first.1.persist)

    pub forced_yes : is_persist e ≡ true → (word : ℕ) → word ≡ word_at t q
        → ((slice_index first (persistent_place (word_of e)) ≡ slice_index found (persistent_place (word_of e)) → ⊥) × (slice_index firsts (persistent_place (word_of e)) ≡ q + 1)) ↔ IsForced t (crash_of first found) word q
    unfolding place
    forced_yes on word is =
        let persist : event_is is_persist t q ≡ true = ap (passes is_persist) at ∙ on in
        let lies = lie q persist in
        let word_is : word ≡ word_of e = is ∙ ap word_in at in
        let to : word ≡ address_of (persistent_place word) = is ∙ lies.0 ∙ ap (λ w. address_of (persistent_place w)) (sym is) in
        let within : persistent_place word < length found = subst (λ w. persistent_place w < length found) (sym is) lies.1 in
        let place_is : persistent_place word ≡ place = ap persistent_place word_is in
        let offer : IsFirstOffer t (crash_of first found) word 0 (slice_index firsts (persistent_place word)) = subst (λ w. IsFirstOffer t (crash_of first found) w 0 (slice_index firsts (persistent_place word))) (sym to) (o.first (persistent_place word) within) in (
          λ h. record {
            has = word_has first found word to within;
            differs = λ same. h.0 (ap (slice_index first) (sym place_is) ∙ same ∙ ap (slice_index found) place_is);
            first = subst (IsFirstOffer t (crash_of first found) word 0) (ap (slice_index firsts) place_is ∙ h.1 ∙ plus_one q) offer;
          },
          λ f. (
            λ same. f.differs (ap (slice_index first) place_is ∙ same ∙ ap (slice_index found) (sym place_is)),
            ap (slice_index firsts) (sym place_is) ∙ first_unique t (crash_of first found) word 0 q (slice_index firsts (persistent_place word)) f.first offer ∙ sym (plus_one q),
          ),
        )

  -- no persist gives a word's value
  pub never_yes : (word : ℕ) → word ≡ address_of (persistent_place word) → persistent_place word < length found → (slice_index first (persistent_place word) ≡ slice_index found (persistent_place word) → ⊥) → slice_index firsts (persistent_place word) ≡ 0 → IsNeverMade t (crash_of first found) word
  never_yes word to within differs none =
      let offer : IsFirstOffer t (crash_of first found) word 0 0 = subst (IsFirstOffer t (crash_of first found) word 0) none (subst (λ w. IsFirstOffer t (crash_of first found) w 0 (slice_index firsts (persistent_place word))) (sym to) (o.first (persistent_place word) within)) in
      record { has = word_has first found word to within; differs = differs; none = λ p h. offer p (omega arith) h }

  pub never_parts : (word : ℕ) → IsNeverMade t (crash_of first found) word → (word ≡ address_of (persistent_place word)) × (persistent_place word < length found) × (slice_index first (persistent_place word) ≡ slice_index found (persistent_place word) → ⊥) × (slice_index firsts (persistent_place word) ≡ 0)
  never_parts word n =
      let parts = word_parts first found word n.has in
      let offer : IsFirstOffer t (crash_of first found) word 0 (slice_index firsts (persistent_place word)) = subst (λ w. IsFirstOffer t (crash_of first found) w 0 (slice_index firsts (persistent_place word))) (sym parts.0) (o.first (persistent_place word) parts.1) in
      (parts.0, parts.1, n.differs, zero_of (slice_index firsts (persistent_place word)) offer)
    where
      zero_of : (m : ℕ) → IsFirstOffer t (crash_of first found) word 0 m → m ≡ 0
      zero_of zero f = refl
      zero_of (suc q) f = absurd (n.none q f.1)

  -- no later persist gives a word's value
  module _ (needed : Set) (word last : ℕ) (e : Event) (at : slice_get t last ≡ Some e) where
    pub after_yes : needed last ≡ true → is_persist e ≡ true → word_of e ≡ word → (value_of e ≡ slice_index found (persistent_place word) → ⊥) → slice_index nexts last ≡ 0 → IsNeverMadeAfter t (crash_of first found) needed word last
    after_yes need on to differs none =
        let persist : event_is is_persist t last ≡ true = ap (passes is_persist) at ∙ on in
        let lies = lie last persist in
        let word_is : word_at t last ≡ word = ap word_in at ∙ to in
        let offer : IsFirstOffer t (crash_of first found) word (suc last) 0 = subst (λ w. IsFirstOffer t (crash_of first found) w (suc last) 0) word_is (subst (IsFirstOffer t (crash_of first found) (word_at t last) (suc last)) none (o.next last (omega arith) persist)) in
        record {
          has = subst (λ w. (crash_of first found).has w ≡ true) word_is (word_has first found (word_at t last) lies.0 lies.1);
          needed_is = need;
          persist = persist;
          to = word_is;
          differs = λ same. differs (sym (ap value_in at) ∙ same);
          none = λ p lt h. offer p (omega (arith, lt)) h;
        }

    pub after_parts : IsNeverMadeAfter t (crash_of first found) needed word last → (is_persist e ≡ true) × (word_of e ≡ word) × (value_of e ≡ slice_index found (persistent_place word) → ⊥) × (slice_index nexts last ≡ 0)
    after_parts n =
        let offer = subst (λ w. IsFirstOffer t (crash_of first found) w (suc last) (slice_index nexts last)) n.to (o.next last (omega arith) n.persist) in (
          sym (ap (passes is_persist) at) ∙ n.persist,
          sym (ap word_in at) ∙ n.to,
          λ same. n.differs (ap value_in at ∙ same),
          zero_of (slice_index nexts last) offer,
        )
      where
        zero_of : (m : ℕ) → IsFirstOffer t (crash_of first found) word (suc last) m → m ≡ 0
        zero_of zero f = refl
        zero_of (suc q) f = absurd (n.none q (omega (arith, f.0)) f.1)

module _ (mode : Mode) (t : List Event) (crash : Crash) (c : CertificateSeen) where
  -- no line is looked at
  pub accepted_none : (marks : List Bool) → marks ≡ replicate (length t) false → AreAccepted mode t crash c 0 marks
  accepted_none marks none = record {
    long = ap length none ∙ length-replicate (length t) false;
    accepted = λ m lt. absurd (omega (arith, lt));
    needed = λ e. off e;
  }
    where
      off : (k : ℕ) → set_of marks k ≡ false
      off k = ap (λ ms. set_of ms k) none ∙ elim (cases_lt k (length t)) [
        | inl lt ↦ get_or-replicate (length t) k false false lt
        | inr past ↦ get_or_past (replicate (length t) false) k false (omega (arith, past, length-replicate (length t) false))
      ]

  module _ (k : ℕ) (marks : List Bool) (a : AreAccepted mode t crash c k marks) where
    same_needed : (needed needed' : Set) → ((e : ℕ) → needed e ≡ needed' e) → needed ≡ needed'
    same_needed needed needed' same = λ i e. same e i

    needed_is : set_of marks ≡ needed_by c.forced k
    needed_is = same_needed (set_of marks) (needed_by c.forced k) a.needed

    -- line k, which is f, is accepted
    module _ (f : Forced) (at : slice_get c.forced k ≡ Some f) where
      pub accepted_more : (marks' : List Bool) → IsAcceptedForced mode t crash (set_of marks) f → marks' ≡ slice_set marks f.event true → AreAccepted mode t crash c (k + 1) marks'
      accepted_more marks' ok made = record {
        long = ap length made ∙ length-set marks f.event true ∙ a.long;
        accepted = λ m lt. elim (cases_eq m k) [
          | inl e ↦ subst (IsAcceptedLine mode t crash c) (sym e) (inl (f, at, subst (λ s. IsAcceptedForced mode t crash s f) needed_is ok))
          | inr ne ↦ let early : m < k = grind (arith, lt, ne) in a.accepted m early
        ];
        needed = λ e. ap (λ ms. set_of ms e) made ∙ set_is e ∙ ap (λ o. names e o || needed_by c.forced k e) (sym at) ∙ ap (λ n. needed_by c.forced n e) (sym (plus_one k));
      }
        where
          within : f.event < length marks
          within = omega (arith, holds_within mode t crash (set_of marks) f.event f.reason ok.holds, a.long)

          set_is : (e : ℕ) → set_of (slice_set marks f.event true) e ≡ ((f.event == e) || needed_by c.forced k e)
          set_is e = elim (cases_eq e f.event) [
            | inl same ↦ ap (set_of (slice_set marks f.event true)) same ∙ newly_marked marks f.event within ∙ sym (or_left (f.event == e) (needed_by c.forced k e) (eq-eqb f.event e (sym same)))
            | inr ne ↦ get_or-set_other marks f.event e true false ne ∙ a.needed e ∙ ap (λ b. b || needed_by c.forced k e) (sym (ne_eqb f.event e (λ h. ne (sym h))))
          ]

      pub rejected_here : k < length c.forced → (IsAcceptedForced mode t crash (set_of marks) f → ⊥) → IsFirstRejected mode t crash c (k + 1)
      rejected_here lt bad = record {
        place = k;
        line_is = plus_one k;
        within = omega (arith, lt);
        before = a.accepted;
        rejected = λ line. elim line [
          | inl (g, at', ok) ↦
              let same : g ≡ f = (let two : Some g ≡ Some f = sym at' ∙ at in cc) in
              bad (subst (λ s. IsAcceptedForced mode t crash s f) (sym needed_is) (subst (IsAcceptedForced mode t crash (needed_by c.forced k)) same ok))
          | inr last ↦ omega (arith, lt, last.1)
        ];
      }

    -- all lines that name events are accepted
    module _ (all : k ≡ length c.forced) where
      pub accepted_all : HasAcceptedEnding t crash (set_of marks) c.ending → IsAccepted mode t crash c
      accepted_all ends m le = elim (cases_eq m k) [
        | inl e ↦ subst (IsAcceptedLine mode t crash c) (sym e) (here c.ending refl ends)
        | inr ne ↦ let early : m < k = grind (arith, le, ne, all) in a.accepted m early
      ]
        where
          here : (o : Option Ending) → c.ending ≡ o → HasAcceptedEnding t crash (set_of marks) o → IsAcceptedLine mode t crash c k
          here None is h = absurd h
          here (Some e) is h = inr (e, all, is, subst (λ s. IsAcceptedEnding t crash s e) needed_is h)

      pub rejected_end : (HasAcceptedEnding t crash (set_of marks) c.ending → ⊥) → IsFirstRejected mode t crash c (length c.forced + 1)
      rejected_end bad = record {
        place = k;
        line_is = omega (arith, all);
        within = omega (arith, all);
        before = a.accepted;
        rejected = λ line. elim line [
          | inl line' ↦ omega (arith, all, slice_get_within c.forced k line'.0 line'.1)
          | inr (e, at, is, ok) ↦ bad (subst (HasAcceptedEnding t crash (set_of marks)) (sym is) (subst (λ s. IsAcceptedEnding t crash s e) (sym needed_is) ok))
        ];
      }
