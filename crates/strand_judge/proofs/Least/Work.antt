-- Serves judge, by settled and serve.
-- The marked events on the list are served one by one, and in the end the marked persists are the least settled set.
use Rattle.std.proofs.Common.{◌≡◌, ℕ, ◌+◌, ◌-◌, ◌<◌, ◌≤◌, Bool, true, inl, inr, List, length, sym, ap, ◌∙◌, arith, subst}
use Rattle.std.specs.Prelude.{slice_index}
use Rattle.std.proofs.lemmas.Bool.{cases_eq}
use Rattle.strand_inputs.specs.declared.mode.Mode.{Mode}
use Rattle.strand_events.specs.declared.event.Event.{Event}
use Rattle.strand_events.specs.Order.{set_of}
use Rattle.strand_judge.specs.Judged.{Crash, IsLeastSettled}
use Rattle.strand_judge.proofs.Least.Seeds.{AreSeeds}
use Rattle.strand_judge.specs.Worklist.{IsListed, left}
use Rattle.strand_judge.specs.Ends.{IsFollowed}
use Rattle.strand_judge.specs.Offered.{IsServed}
use Rattle.strand_judge.specs.Gathered.{IsMarkedMore, IsBrought}
use Rattle.strand_judge.proofs.Least.Marks.{grows_both}
use Rattle.strand_judge.proofs.Least.Roots.{Root, HoldsRoots, edge_root, asked_root, joined_root, forced_root, least_settled}
use Rattle.strand_judge.proofs.Least.Offers.{IsAsked}

module _ (mode : Mode) (t : List Event) (crash : Crash) where
  -- after the edges the persist that is asked for
  pub brought : (j asked : ℕ) (m : List Bool) (l : List ℕ) (m' : List Bool) (l' : List ℕ) (m'' : List Bool) (l'' : List ℕ) → IsFollowed mode t j m l m' l' → IsAsked t crash j asked → IsMarkedMore (length t) asked m' l' m'' l'' → IsBrought mode t crash j m l m'' l''
  brought j asked m l m' l' m'' l'' f a k = record {
    listed = k.listed;
    grows = grows_both (length t) m m' m'' l l' l'' f.grows k.grows;
    served = record {
      edges = λ i e. (k.grows).marks_grow i (f.all i e);
      asks = λ q h. k.on q (a.whole q h);
    };
    only = λ i h. elim (k.only i h) [
      | inl was ↦ elim (f.only i was) [ inl old ↦ inl old | inr e ↦ inr (inl e) ]
      | inr is ↦ inr (inr (a.sound i is))
    ];
  }

  -- the first events of the list are served
  pub record IsWorked (done : ℕ) (marks : List Bool) (list : List ℕ) : Type 0 where
    pub within : done ≤ length list
    pub listed : IsListed (length t) marks list
    pub roots : HoldsRoots t crash (set_of marks)
    pub rooted : (k : ℕ) → set_of marks k ≡ true → Root mode t crash k
    pub served : (place : ℕ) → place < done → IsServed mode t crash (set_of marks) (slice_index list place)

  pub work_first : (marks : List Bool) (list : List ℕ) → AreSeeds t crash marks list → IsWorked 0 marks list
  work_first marks list s = record {
    within = omega arith;
    listed = s.listed;
    roots = s.roots;
    rooted = λ k h. elim (s.only k h) [ inl j ↦ joined_root mode t crash k j | inr (word, f) ↦ forced_root mode t crash word k f ];
    served = λ place lt. absurd (omega arith);
  }

  pub work_step : (done : ℕ) (m : List Bool) (l : List ℕ) (m' : List Bool) (l' : List ℕ) → done < length l → IsWorked done m l → IsBrought mode t crash (slice_index l done) m l m' l' → IsWorked (done + 1) m' l'
  work_step done m l m' l' lt w b =
      let j = slice_index l done in
      let root = w.rooted j ((w.listed).marked done lt) in
      record {
        within = omega (arith, lt, (b.grows).longer);
        listed = b.listed;
        roots = record {
          joined = λ p h. (b.grows).marks_grow p ((w.roots).joined p h);
          forced = λ word q h. (b.grows).marks_grow q ((w.roots).forced word q h);
        };
        rooted = λ k h. elim (b.only k h) [
          | inl was ↦ w.rooted k was
          | inr new ↦ elim new [
            | inl e ↦ edge_root mode t crash k j e root
            | inr a ↦ asked_root mode t crash j k a root
          ]
        ];
        served = λ place below. elim (cases_eq place done) [
          | inl e ↦ subst (IsServed mode t crash (set_of m')) (sym ((b.grows).kept done lt) ∙ ap (slice_index l') (sym e)) b.served
          | inr ne ↦
              let early : place < done = grind (arith, below, ne) in
              let old = w.served place early in
              subst (IsServed mode t crash (set_of m')) (sym ((b.grows).kept place (omega (arith, early, lt)))) (record {
                edges = λ i e. (b.grows).marks_grow i (old.edges i e);
                asks = λ q h. (b.grows).marks_grow q (old.asks q h);
              })
        ];
      }

  pub work_smaller : (done : ℕ) (m : List Bool) (l : List ℕ) (m' : List Bool) (l' : List ℕ) → done < length l → IsBrought mode t crash (slice_index l done) m l m' l' → left (length t) m' + (length l' - (done + 1)) < left (length t) m + (length l - done)
  work_smaller done m l m' l' lt b = omega (arith, lt, (b.grows).even, (b.grows).longer)

  pub work_end : (done : ℕ) (m : List Bool) (l : List ℕ) → length l ≤ done → IsWorked done m l → IsLeastSettled mode t crash (set_of m)
  work_end done m l all w = least_settled mode t crash (set_of m) (λ j h.
      let at = (w.listed).listed j h in
      subst (IsServed mode t crash (set_of m)) at.2 (w.served at.0 (omega (arith, all, at.1)))) w.roots w.rooted
