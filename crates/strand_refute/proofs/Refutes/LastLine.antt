-- Serves refute: the certificate of the least settled set, whose image differs from the crash image, is accepted.
use Rattle.std.proofs.Common.{◌≡◌, ℕ, ◌<◌, ◌^◌, Bool, true, inl, inr, List, Option, Some, None, length, refl, sym, ap, ◌∙◌, arith, subst}
use Rattle.std.proofs.lemmas.List.Elements.{recursion_from_All}
use Rattle.std.specs.Prelude.{slice_index_or, MatchOption}
use Rattle.std.specs.Cmp.{both_ways as same_test}
use Rattle.std.proofs.lemmas.Bool.{cases_lt, cases_order}
use Rattle.std.proofs.lemmas.Option.{slice_get-get_or, get_or_from_slice_get}
use Rattle.strand_inputs.specs.declared.mode.Mode.{Mode}
use Rattle.strand_events.specs.declared.event.Event.{Event}
use Rattle.strand_events.specs.Trace.{is_persist, is_access, word_at, value_at, event_is}
use Rattle.strand_events.specs.Order.{Set, set_of}
use Rattle.strand_events.proofs.EventWithin.{event_within}
use Rattle.strand_events.proofs.PersistOrder.Epochs.{direct_parts, weaker, persist_access}
use Rattle.strand_events.proofs.PersistOrder.Images.{image_alike}
use Rattle.strand_judge.specs.Judged.{Crash, Agrees, IsLeastSettled}
use Rattle.strand_judge.specs.Verdicts.{IsRefuted}
use Rattle.strand_judge.proofs.Least.Roots.{last_or_none}
use Rattle.strand_judge.proofs.Least.Sets.{sets_from, sets_parts}
use Rattle.strand_refute.specs.declared.certificate.Reason.{Reason}
use Rattle.strand_refute.specs.declared.certificate.Reason.TheVariants.{Joined, Order, Match}
use Rattle.strand_refute.specs.declared.certificate.Forced.{Forced}
use Rattle.strand_refute.specs.Accepted.{needed_by, Holds, IsAcceptedForced, Ends}
use Rattle.strand_refute.specs.Checked.{IsCertified}
use Rattle.strand_refute.specs.Fits.{OptionFits, ReasonFits, ForcedFits}
use Rattle.strand_refute.specs.Work.{IsExplained, IsNoneTo, IsLastTo}
use Rattle.strand_refute.proofs.Checks.Sound.{few_lines, holds_within, NamesAt}

module _ (mode : Mode) (t : List Event) (crash : Crash) (set : Set) (least : IsLeastSettled mode t crash set) (word rank : ℕ) (r : IsRefuted mode t crash word rank) where
  -- two least settled sets have the same persists
  disagrees : Agrees t crash set word → ⊥
  disagrees agrees =
      r.at.differs (image_alike t r.set set crash.initial (length t) word (λ k lt is to. same_test (r.set k) (set k) (r.least.least set least.settled k is) (least.least r.set r.least.settled k is)) ∙ agrees)

  -- all persists that offer the word's value are in the set
  offers_held : (p : ℕ) → event_is is_persist t p ≡ true → word_at t p ≡ word → value_at t p ≡ crash.found word → set p ≡ true
  offers_held p is to value = elim (least.settled.settled word r.at.has) [ inl agrees ↦ absurd (disagrees agrees) | inr held ↦ held p (record { persist = is; to = to; value = value }) ]

  pub ends : (needed : Set) → ((e : ℕ) → event_is is_access t e ≡ true → set e ≡ true → needed e ≡ true) → (last : Option ℕ) → MatchOption last (IsNoneTo t set word) (IsLastTo t set word) → Ends t crash needed word last
  ends needed named None none = record {
    has = r.at.has;
    differs = λ same. elim (last_or_none t set crash.initial (length t) word) [
      | inl (l, last) ↦ none l (sets_from t set word l last.persist last.to last.in_set)
      | inr empty ↦ disagrees (empty.value ∙ same)
    ];
    none = λ p o. none p (sets_from t set word p o.persist o.to (offers_held p o.persist o.to o.value));
  }
  ends needed named (Some q) is =
      let parts = sets_parts t set word q is.at in
      record {
        has = r.at.has;
        needed_is = named q (weaker is_persist is_access persist_access t q parts.0) parts.1;
        persist = parts.0;
        to = parts.2;
        differs = λ same. elim (last_or_none t set crash.initial (length t) word) [
          | inr empty ↦ empty.none q (event_within is_persist t q parts.0) parts.0 parts.2 parts.1
          | inl (l, last) ↦ elim (cases_order l q) [
            | inl e ↦ disagrees (last.value ∙ ap (value_at t) e ∙ same)
            | inr others ↦ elim others [
              | inl before ↦ last.none q before (event_within is_persist t q parts.0) parts.0 parts.2 parts.1
              | inr after ↦ is.none l after (sets_from t set word l last.persist last.to last.in_set)
            ]
          ]
        ];
        none = λ p lt o. is.none p lt (sets_from t set word p o.persist o.to (offers_held p o.persist o.to o.value));
      }

-- the numbers of an accepted line are those of events
line_fits : (mode : Mode) (t : List Event) (crash : Crash) → length t < 2 ^ 32 → (needed : Set) (f : Forced) → IsAcceptedForced mode t crash needed f → ForcedFits f
line_fits mode t crash short needed f a = (omega (arith, holds_within mode t crash needed f.event f.reason a.holds, short), reason_fits f.event f.reason a.holds)
  where
    reason_fits : (e : ℕ) (reason : Reason) → Holds mode t crash needed e reason → ReasonFits reason
    reason_fits e Joined h = tt
    reason_fits e (Order after) h = omega (arith, event_within is_access t after (direct_parts mode t e after h.1).2, short)
    reason_fits e (Match None) h = tt
    reason_fits e (Match (Some after)) h = omega (arith, event_within is_persist t after h.persist, short)

last_fits : (t : List Event) (set : Set) (word : ℕ) → length t < 2 ^ 32 → (last : Option ℕ) → MatchOption last (IsNoneTo t set word) (IsLastTo t set word) → OptionFits last
last_fits t set word short None none = tt
last_fits t set word short (Some q) is = omega (arith, event_within is_persist t q (sets_parts t set word q is.at).0, short)

-- lines that explain the least settled set, and the last line
pub certified : (mode : Mode) (t : List Event) (crash : Crash) (marks : List Bool) (targets : List ℕ) (lines : List Forced) → IsLeastSettled mode t crash (set_of marks) → IsExplained mode t crash marks targets lines → (word rank : ℕ) → IsRefuted mode t crash word rank → (last : Option ℕ) → MatchOption last (IsNoneTo t (set_of marks) word) (IsLastTo t (set_of marks) word) → word < 2 ^ 64
    → IsCertified mode t crash (record { forced = lines; ending = Some (record { word = word; last = last }) })
certified mode t crash marks targets lines least ex word rank r last m small = record {
  accepted = λ k le. elim (cases_lt k (length lines)) [
    | inl lt ↦ inl (named k lt)
    | inr ge ↦
        let e : k ≡ length lines = omega (arith, le, ge) in
        inr (record { word = word; last = last }, e, refl, ends mode t crash (set_of marks) least word rank r (needed_by lines k) (λ x is on. ap (λ n. needed_by lines n x) e ∙ ex.named x is on) last m)
  ];
  few = few_lines mode t crash lines named;
  fits = λ short. record {
    forced = recursion_from_All ForcedFits lines (λ k d lt. let a = named k lt in subst ForcedFits (sym (get_or_from_slice_get lines k a.0 d a.1)) (line_fits mode t crash (omega (arith, short)) (needed_by lines k) a.0 a.2));
    ending = (small, last_fits t (set_of marks) word (omega (arith, short)) last m);
    few = omega (arith, few_lines mode t crash lines named, short);
  };
}
  where
    named : (k : ℕ) → k < length lines → NamesAt mode t crash lines k
    named k lt =
        let none : Forced = record { event = 0; reason = Joined } in
        let at = slice_get-get_or lines k none lt in
        (slice_index_or lines k none, at, ex.accepted k (slice_index_or lines k none) at)
