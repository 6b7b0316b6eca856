-- Serves check, by joined_marks and last_joins.
use Rattle.std.proofs.Common.{◌≡◌, ℕ, ◌+◌, ◌<◌, Bool, true, false, inl, inr, List, length, sym, ap, ◌∙◌, arith}
use Rattle.std.specs.Prelude.{slice_index, slice_set, replicate}
use Rattle.std.specs.Cmp.{both_ways as same_test}
use Rattle.std.proofs.lemmas.Bool.{cases_eq, cases_lt, both_ways}
use Rattle.std.proofs.lemmas.List.{length-set, length-replicate, get_or-replicate, get_or_past}
use Rattle.strand_events.specs.declared.event.Event.{Event}
use Rattle.strand_events.specs.Trace.{persists_of}
use Rattle.strand_events.specs.Numbers.{numbers_of}
use Rattle.strand_events.specs.Order.{set_of, is_joined}
use Rattle.strand_judge.proofs.Least.JoinedNumbers.{joined_at, joined_named, joined_within}
use Rattle.strand_judge.proofs.Least.Marks.{marked_is, newly_marked, still_marked}
use Rattle.strand_refute.specs.Facts.{AreJoinedMarks}

-- the first n joined persists are marked, and nothing else is
pub record JoinedSoFar (t : List Event) (persists joined : List ℕ) (n : ℕ) (marks : List Bool) : Type 0 where
  pub long : length marks ≡ length t
  pub only : (e : ℕ) → set_of marks e ≡ true → is_joined t e ≡ true
  pub all : (m : ℕ) → m < n → set_of marks (slice_index persists (slice_index joined m)) ≡ true

module _ (t : List Event) (persists joined : List ℕ) where
  pub marks_none : (marks : List Bool) → marks ≡ replicate (length t) false → JoinedSoFar t persists joined 0 marks
  marks_none marks none = record {
    long = ap length none ∙ length-replicate (length t) false;
    only = λ e h. absurd (both_ways (set_of marks e) (off e) h);
    all = λ m lt. absurd (omega (arith, lt));
  }
    where
      off : (k : ℕ) → set_of marks k ≡ false
      off k = ap (λ ms. set_of ms k) none ∙ elim (cases_lt k (length t)) [
        | inl lt ↦ get_or-replicate (length t) k false false lt
        | inr past ↦ get_or_past (replicate (length t) false) k false (omega (arith, past, length-replicate (length t) false))
      ]

  module _ (same : persists ≡ persists_of t) (same' : joined ≡ numbers_of t (is_joined t)) where
    pub marks_more : (m x : ℕ) (marks marks' : List Bool) → m < length joined → x ≡ slice_index persists (slice_index joined m) → marks' ≡ slice_set marks x true → JoinedSoFar t persists joined m marks → JoinedSoFar t persists joined (m + 1) marks'
    marks_more m x marks marks' lt is made s =
        let at = joined_at t persists joined same same' m lt in
        let j : is_joined t x ≡ true = ap (is_joined t) is ∙ at.1 in
        let within : x < length marks = omega (arith, joined_within t x j, s.long) in
        record {
          long = ap length made ∙ length-set marks x true ∙ s.long;
          only = λ e h. elim (marked_is marks x e (ap (λ ms. set_of ms e) (sym made) ∙ h)) [ inl e' ↦ ap (is_joined t) e' ∙ j | inr was ↦ s.only e was ];
          all = λ k below. ap (λ ms. set_of ms (slice_index persists (slice_index joined k))) made ∙ elim (cases_eq k m) [
            | inl e ↦ ap (λ y. set_of (slice_set marks x true) (slice_index persists (slice_index joined y))) e ∙ ap (set_of (slice_set marks x true)) (sym is) ∙ newly_marked marks x within
            | inr ne ↦ let early : k < m = grind (arith, below, ne) in still_marked marks x (slice_index persists (slice_index joined k)) within (s.all k early)
          ];
        }

    pub marks_all : (marks : List Bool) → JoinedSoFar t persists joined (length joined) marks → AreJoinedMarks t marks
    marks_all marks s = record {
      long = s.long;
      mark = λ e. same_test (set_of marks e) (is_joined t e) (s.only e) (λ j. let m = joined_named t persists joined same same' e j in ap (set_of marks) (sym m.2) ∙ s.all m.0 m.1);
    }
