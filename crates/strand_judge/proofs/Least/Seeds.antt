-- Serves judge, by mark_joined and mark_forced: joined and forced persists are marked, and nothing else.
use Rattle.std.proofs.Common.{◌≡◌, ℕ, ◌+◌, ◌<◌, Bool, true, false, ◌⊎◌, inl, inr, List, [], ◌∷◌, ◌++◌, length, sym, ap, ◌∙◌, arith, cond, subst}
use Rattle.std.specs.Prelude.{slice_index, slice_set, replicate, nat_lt, ◌==◌}
use Rattle.std.proofs.lemmas.Bool.{cases_eq, cases_lt, both_ways, and_parts, and_from, eqb-true, eq-eqb, ltb-true, lt-ltb}
use Rattle.strand_events.specs.declared.event.Event.{Event}
use Rattle.strand_events.specs.Order.{set_of, is_joined}
use Rattle.strand_base.specs.Places.{address_of, persistent_place}
use Rattle.strand_judge.specs.Judged.{Crash}
use Rattle.strand_judge.specs.Words.{crash_of}
use Rattle.strand_judge.proofs.Least.Marks.{marked_is, newly_marked, listed_more, grows_none, grows_both}
use Rattle.strand_judge.specs.Worklist.{IsListed}
use Rattle.strand_judge.specs.Offered.{IsFirstOffer, IsForced, AreOffered}
use Rattle.strand_judge.specs.Gathered.{IsMarkedMore, AreJoined, AreForced}
use Rattle.strand_judge.proofs.Least.Roots.{HoldsRoots}
use Rattle.std.proofs.lemmas.List.{length-replicate, get_or-replicate, get_or_past}
use Rattle.strand_events.specs.Trace.{persists_of}
use Rattle.strand_events.specs.Numbers.{numbers_of}
use Rattle.strand_judge.proofs.Least.JoinedNumbers.{joined_at, joined_named, joined_within}
use Rattle.strand_judge.proofs.Verdicts.Image.{place_again}
use Rattle.strand_judge.proofs.Least.Offers.{first_unique}

-- the roots are marked, and nothing else
pub record AreSeeds (t : List Event) (crash : Crash) (marks : List Bool) (list : List ℕ) : Type 0 where
  pub listed : IsListed (length t) marks list
  pub roots : HoldsRoots t crash (set_of marks)
  pub only : (k : ℕ) → set_of marks k ≡ true → (is_joined t k ≡ true) ⊎ ((word : ℕ) × IsForced t crash word k)

module _ (t : List Event) where
  -- joined persists
  pub joined_none : (persists joined : List ℕ) (marks : List Bool) (list : List ℕ) → marks ≡ replicate (length t) false → list ≡ [] → AreJoined t 0 persists joined marks list
  joined_none persists joined marks list none empty = record {
    listed = record {
      long = ap length none ∙ length-replicate (length t) false;
      listed = λ k h. absurd (both_ways (set_of marks k) (off k) h);
      marked = λ place lt. absurd (omega (arith, lt, ap length empty));
    };
    only = λ k h. absurd (both_ways (set_of marks k) (off k) h);
    all = λ m lt. absurd (omega arith);
  }
    where
      off : (k : ℕ) → set_of marks k ≡ false
      off k = ap (λ ms. set_of ms k) none ∙ elim (cases_lt k (length t)) [
        | inl lt ↦ get_or-replicate (length t) k false false lt
        | inr past ↦ get_or_past (replicate (length t) false) k false (omega (arith, past, length-replicate (length t) false))
      ]

  pub joined_more : (persists joined : List ℕ) (same : persists ≡ persists_of t) (same' : joined ≡ numbers_of t (is_joined t)) (m : ℕ) → m < length joined → (x : ℕ) → x ≡ slice_index persists (slice_index joined m) → (marks : List Bool) (list : List ℕ) (marks' : List Bool) (list' : List ℕ)
      → AreJoined t m persists joined marks list → marks' ≡ slice_set marks x true → list' ≡ cond (set_of marks x) list (list ++ x ∷ []) → AreJoined t (m + 1) persists joined marks' list'
  joined_more persists joined same same' m lt x is marks list marks' list' a made put =
      let at = joined_at t persists joined same same' m lt in
      let j : is_joined t x ≡ true = ap (is_joined t) is ∙ at.1 in
      let more = listed_more (length t) marks list x a.listed (joined_within t x j) marks' list' made put in
      record {
        listed = more.0;
        only = λ k h. elim (marked_is marks x k (ap (λ ms. set_of ms k) (sym made) ∙ h)) [ inl e ↦ ap (is_joined t) e ∙ j | inr was ↦ a.only k was ];
        all = λ k below. elim (cases_eq k m) [
          | inl e ↦ ap (λ y. set_of marks' (slice_index persists (slice_index joined y))) e ∙ ap (set_of marks') (sym is) ∙ ap (λ ms. set_of ms x) made ∙ newly_marked marks x (omega (arith, joined_within t x j, (a.listed).long))
          | inr ne ↦ let early : k < m = grind (arith, below, ne) in (more.1).marks_grow (slice_index persists (slice_index joined k)) (a.all k early)
        ];
      }

module _ (t : List Event) (first found : List ℕ) (firsts nexts : List ℕ) (o : AreOffered t (crash_of first found) (length found) 0 firsts nexts) (m : List Bool) (l : List ℕ) where
  pub forced_none : IsListed (length t) m l → AreForced t first found firsts 0 m l m l
  forced_none listed = record { listed = listed; grows = grows_none (length t) m l; only = λ k h. inl h; all = λ place lt. absurd (omega arith) }

  pub forced_same : (place : ℕ) (m' : List Bool) (l' : List ℕ) → slice_index first place ≡ slice_index found place → AreForced t first found firsts place m l m' l' → AreForced t first found firsts (place + 1) m l m' l'
  forced_same place m' l' same a = record {
    listed = a.listed;
    grows = a.grows;
    only = a.only;
    all = λ x lt differ q e. elim (cases_eq x place) [
      | inl here ↦ absurd (differ (ap (slice_index first) here ∙ same ∙ ap (slice_index found) (sym here)))
      | inr ne ↦ let early : x < place = grind (arith, lt, ne) in a.all x early differ q e
    ];
  }

  pub forced_more : (place : ℕ) (m' : List Bool) (l' : List ℕ) (m'' : List Bool) (l'' : List ℕ) → place < length found → (slice_index first place ≡ slice_index found place → ⊥)
      → AreForced t first found firsts place m l m' l' → IsMarkedMore (length t) (slice_index firsts place) m' l' m'' l'' → AreForced t first found firsts (place + 1) m l m'' l''
  forced_more place m' l' m'' l'' within differs a k = record {
    listed = k.listed;
    grows = grows_both (length t) m m' m'' l l' l'' a.grows k.grows;
    only = λ x h. elim (k.only x h) [
      | inl was ↦ a.only x was
      | inr is ↦ inr (
        address_of place,
        record {
          has = and_from (address_of place == address_of (persistent_place (address_of place))) (nat_lt (persistent_place (address_of place)) (length found)) (eq-eqb (address_of place) (address_of (persistent_place (address_of place))) (ap address_of (sym (place_again place)))) (lt-ltb (persistent_place (address_of place)) (length found) (omega (arith, place_again place, within)));
          differs = λ e. differs (ap (slice_index first) (sym (place_again place)) ∙ e ∙ ap (slice_index found) (place_again place));
          first = subst (IsFirstOffer t (crash_of first found) (address_of place) 0) is (o.first place within);
        },
      )
    ];
    all = λ x lt differ q e. elim (cases_eq x place) [
      | inl here ↦ k.on q (ap (slice_index firsts) (sym here) ∙ e)
      | inr ne ↦ let early : x < place = grind (arith, lt, ne) in (k.grows).marks_grow q (a.all x early differ q e)
    ];
  }

  -- all roots are marked
  pub seeded : (persists joined : List ℕ) → persists ≡ persists_of t → joined ≡ numbers_of t (is_joined t) → AreJoined t (length joined) persists joined m l → (m' : List Bool) (l' : List ℕ) → AreForced t first found firsts (length found) m l m' l' → AreSeeds t (crash_of first found) m' l'
  seeded persists joined same same' j m' l' f = record {
    listed = f.listed;
    roots = record {
      joined = λ p h. let at = joined_named t persists joined same same' p h in (f.grows).marks_grow p (ap (set_of m) (sym at.2) ∙ j.all at.0 at.1);
      forced = λ word q h.
          let parts = and_parts (word == address_of (persistent_place word)) (nat_lt (persistent_place word) (length found)) h.has in
          let to : word ≡ address_of (persistent_place word) = eqb-true word (address_of (persistent_place word)) parts.0 in
          let within : persistent_place word < length found = ltb-true (persistent_place word) (length found) parts.1 in
          f.all (persistent_place word) within h.differs q (first_unique t (crash_of first found) word 0 q (slice_index firsts (persistent_place word)) h.first (subst (λ w. IsFirstOffer t (crash_of first found) w 0 (slice_index firsts (persistent_place word))) (sym to) (o.first (persistent_place word) within)));
    };
    only = λ k h. elim (f.only k h) [ inl was ↦ inl (j.only k was) | inr forced ↦ inr forced ];
  }
