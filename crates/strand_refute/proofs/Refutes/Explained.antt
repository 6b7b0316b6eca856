-- Serves refute, by need_joined, need_forced, follow and serve: one event more is needed, and why.
use Rattle.std.proofs.Common.{◌≡◌, ℕ, zero, suc, ◌<◌, ◌≤◌, Bool, true, false, ◌||◌, ◌&&◌, inl, inr, List, [], ◌∷◌, ◌++◌, Option, Some, None, length, refl, sym, ap, ◌∙◌, arith, cond, subst}
use Rattle.std.specs.Prelude.{◌==◌, not, nat_lt, slice_get, slice_index, slice_set, replicate}
use Rattle.std.proofs.lemmas.Bool.{cases_eq, cases_lt, cases_order, cases_Bool, both_ways, and_parts, or_cases, or_left, or_right, eqb-true, eq-eqb, false≢true, false_from_ne_true, and_from, lt-ltb}
use Rattle.std.proofs.lemmas.List.{length-set, length_push, length-replicate, get_or-replicate, get_or_past, get_or-set_other, get_or-set_same}
use Rattle.std.proofs.lemmas.Option.{slice_get_within}
use Rattle.strand_inputs.specs.declared.mode.Mode.{Mode}
use Rattle.strand_inputs.specs.declared.mode.Mode.TheVariants.{Strict, Epoch, Strand}
use Rattle.strand_base.proofs.BelowBound.{any_agree, get_more, get_last}
use Rattle.strand_events.specs.declared.event.Event.{Event}
use Rattle.strand_events.specs.Trace.{is_persist, word_at, is_access, is_barrier, is_join, is_barrier_or_join, passes, core_at, event_is, core_event_is, same_strand}
use Rattle.strand_events.specs.Order.{Set, set_of, conflicts, directly_before, stands_between}
use Rattle.strand_events.proofs.PersistOrder.Epochs.{conflict_parts}
use Rattle.strand_order.specs.Graph.{any_between, stores_word, word_edge, access_or_join, gates, is_gate, since_gate, drained_by, join_edge, gate_edge, core_edge, is_edge}
use Rattle.strand_order.proofs.Paths.Direct.{path_direct}
use Rattle.strand_base.specs.Places.{address_of, persistent_place}
use Rattle.strand_events.proofs.EventWithin.{event_within}
use Rattle.strand_judge.specs.Judged.{Crash}
use Rattle.strand_judge.specs.Words.{crash_of}
use Rattle.strand_judge.specs.Offered.{IsFirstOffer, IsForced, AreOffered}
use Rattle.strand_judge.proofs.Verdicts.Image.{place_again}
use Rattle.strand_judge.proofs.Least.Marks.{marked_is, newly_marked, still_marked}
use Rattle.strand_refute.specs.declared.certificate.Reason.{Reason}
use Rattle.strand_refute.specs.declared.certificate.Reason.TheVariants.{Joined, Order, Match}
use Rattle.strand_refute.specs.declared.certificate.Forced.{Forced}
use Rattle.strand_refute.specs.Accepted.{names, needed_by, Holds, IsAcceptedForced, IsFirstMade}
use Rattle.strand_refute.proofs.Checks.Matches.{forced_made, made_asks, asks_made}
use Rattle.strand_refute.specs.Work.{targets_after, lines_after, IsTarget, IsExplained}

-- a line more names its event besides
needed_kept : (lines : List Forced) (f : Forced) (k e : ℕ) → k ≤ length lines → needed_by (lines ++ f ∷ []) k e ≡ needed_by lines k e
needed_kept lines f k e le = any_agree k (λ m. names e (slice_get (lines ++ f ∷ []) m)) (λ m. names e (slice_get lines m)) (λ m lt. ap (names e) (get_more lines f m (omega (arith, lt, le))))

needed_more : (lines : List Forced) (f : Forced) (e : ℕ) → needed_by (lines ++ f ∷ []) (length (lines ++ f ∷ [])) e ≡ ((f.event == e) || needed_by lines (length lines) e)
needed_more lines f e =
    let long : length (lines ++ f ∷ []) ≡ suc (length lines) = omega (arith, length_push lines f) in
    ap (λ n. needed_by (lines ++ f ∷ []) n e) long ∙ ap (λ o. names e o || needed_by (lines ++ f ∷ []) (length lines) e) (get_last lines f) ∙ ap (λ b. (f.event == e) || b) (needed_kept lines f (length lines) e (omega arith))

-- one more note leaves the length
pub targets_long : (b : Bool) (e : Event) (x target : ℕ) (targets v : List ℕ) → v ≡ cond b targets (targets_after e x target targets) → length v ≡ length targets
targets_long true e x target targets v made = ap length made
targets_long false e x target targets v made = ap length made ∙ length-set targets x (cond (is_access e) x target)

module _ (mode : Mode) (t : List Event) (crash : Crash) where
  holds_along : (needed needed' : Set) → ((e : ℕ) → needed e ≡ true → needed' e ≡ true) → (e : ℕ) (reason : Reason) → Holds mode t crash needed e reason → Holds mode t crash needed' e reason
  holds_along needed needed' more e Joined h = h
  holds_along needed needed' more e (Order after) h = (more after h.0, h.1)
  holds_along needed needed' more e (Match None) h = h
  holds_along needed needed' more e (Match (Some after)) h = asks_made t crash needed' e after (more after h.needed_is) (made_asks t crash needed e after h)

  accepted_along : (needed needed' : Set) → ((e : ℕ) → needed' e ≡ needed e) → (f : Forced) → IsAcceptedForced mode t crash needed f → IsAcceptedForced mode t crash needed' f
  accepted_along needed needed' same f a = record {
    not_needed = same f.event ∙ a.not_needed;
    holds = holds_along needed needed' (λ e h. same e ∙ h) f.event f.reason a.holds;
  }

  module _ (marks : List Bool) (targets : List ℕ) (lines : List Forced) (x : ℕ) (long : length marks ≡ length t) (lt : x < length t) (ex : IsExplained mode t crash marks targets lines) where
    marks' : List Bool
    marks' = slice_set marks x true

    -- an access more, with a line of its own
    explained_access : (reason : Reason) → set_of marks x ≡ false → event_is is_access t x ≡ true → Holds mode t crash (needed_by lines (length lines)) x reason
        → IsExplained mode t crash (slice_set marks x true) (slice_set targets x x) (lines ++ (record { event = x; reason = reason }) ∷ [])
    explained_access reason out access holds = record {
      long = length-set targets x x ∙ ex.long;
      accepted = λ k g at. elim (cases_order k (length lines)) [
        | inl e ↦
            let same : g ≡ f = (let two : Some g ≡ Some f = sym at ∙ ap (slice_get (lines ++ f ∷ [])) e ∙ get_last lines f in cc) in
            subst (IsAcceptedForced mode t crash (needed_by (lines ++ f ∷ []) k)) (sym same) (record {
              not_needed = needed_kept lines f k x (omega (arith, e)) ∙ ap (λ n. needed_by lines n x) e ∙ false_from_ne_true (needed_by lines (length lines) x) (λ h. both_ways (set_of marks x) out (ex.marked x h));
              holds = holds_along (needed_by lines (length lines)) (needed_by (lines ++ f ∷ []) k) (λ y h. needed_kept lines f k y (omega (arith, e)) ∙ ap (λ n. needed_by lines n y) e ∙ h) x reason holds;
            })
        | inr others ↦ elim others [
          | inl early ↦ accepted_along (needed_by lines k) (needed_by (lines ++ f ∷ []) k) (λ y. needed_kept lines f k y (omega (arith, early))) g (ex.accepted k g (sym (get_more lines f k early) ∙ at))
          | inr late ↦ absurd (omega (arith, late, slice_get_within (lines ++ f ∷ []) k g at, length_push lines f))
        ]
      ];
      named = λ e is h. needed_more lines f e ∙ elim (marked_is marks x e h) [
        | inl same ↦ or_left (x == e) (needed_by lines (length lines) e) (eq-eqb x e (sym same))
        | inr was ↦ or_right (x == e) (needed_by lines (length lines) e) (ex.named e is was)
      ];
      marked = λ e h. elim (or_cases (x == e) (needed_by lines (length lines) e) (sym (needed_more lines f e) ∙ h)) [
        | inl here ↦ subst (λ y. set_of (slice_set marks x true) y ≡ true) (eqb-true x e here) here_marked
        | inr was ↦ still_marked marks x e within (ex.marked e was)
      ];
      target = λ j h. elim (cases_eq j x) [
        | inl same ↦
            let at : slice_index (slice_set targets x x) j ≡ x = ap (slice_index (slice_set targets x x)) same ∙ get_or-set_same targets x x 0 (omega (arith, lt, ex.long)) in
            subst (λ a. (event_is is_access t a ≡ true) × (set_of (slice_set marks x true) a ≡ true) × IsTarget mode t j a) (sym at) (access, here_marked, inl same)
        | inr ne ↦
            let old = ex.target j (sym (get_or-set_other marks x j true false ne) ∙ h) in
            subst (λ a. (event_is is_access t a ≡ true) × (set_of (slice_set marks x true) a ≡ true) × IsTarget mode t j a) (sym (get_or-set_other targets x j x 0 ne)) (old.0, still_marked marks x (slice_index targets j) within old.1, old.2)
      ];
    }
      where
        f : Forced
        f = record { event = x; reason = reason }

        within : x < length marks
        within = omega (arith, lt, long)

        here_marked : set_of (slice_set marks x true) x ≡ true
        here_marked = newly_marked marks x within

    -- a barrier or a join more, with the access that it orders
    explained_other : (target : ℕ) → set_of marks x ≡ false → event_is is_access t x ≡ false → event_is is_access t target ≡ true → set_of marks target ≡ true → IsTarget mode t x target
        → IsExplained mode t crash (slice_set marks x true) (slice_set targets x target) lines
    explained_other target out none access on by = record {
      long = length-set targets x target ∙ ex.long;
      accepted = ex.accepted;
      named = λ e is h. elim (marked_is marks x e h) [
        | inl same ↦ absurd (both_ways (event_is is_access t x) none (ap (event_is is_access t) (sym same) ∙ is))
        | inr was ↦ ex.named e is was
      ];
      marked = λ e h. still_marked marks x e within (ex.marked e h);
      target = λ j h. elim (cases_eq j x) [
        | inl same ↦
            let at : slice_index (slice_set targets x target) j ≡ target = ap (slice_index (slice_set targets x target)) same ∙ get_or-set_same targets x target 0 (omega (arith, lt, ex.long)) in
            subst (λ a. (event_is is_access t a ≡ true) × (set_of (slice_set marks x true) a ≡ true) × IsTarget mode t j a) (sym at) (access, still_marked marks x target within on, subst (λ y. IsTarget mode t y target) (sym same) by)
        | inr ne ↦
            let old = ex.target j (sym (get_or-set_other marks x j true false ne) ∙ h) in
            subst (λ a. (event_is is_access t a ≡ true) × (set_of (slice_set marks x true) a ≡ true) × IsTarget mode t j a) (sym (get_or-set_other targets x j target 0 ne)) (old.0, still_marked marks x (slice_index targets j) within old.1, old.2)
      ];
    }
      where
        within : x < length marks
        within = omega (arith, lt, long)

    set_again : (ms : List Bool) (y : ℕ) → set_of ms y ≡ true → slice_set ms y true ≡ ms
    set_again [] y h = refl
    set_again (m ∷ ms) zero h = ap (λ b. b ∷ ms) (sym h)
    set_again (m ∷ ms) (suc y) h = ap (λ zs. m ∷ zs) (set_again ms y h)

    -- event x, which is e, noted
    pub explained_more : (e : Event) (target : ℕ) (reason : Reason) → slice_get t x ≡ Some e → (m : List Bool) (v : List ℕ) (l : List Forced) → m ≡ slice_set marks x true
        → v ≡ cond (set_of marks x) targets (targets_after e x target targets) → l ≡ cond (set_of marks x) lines (lines_after e x reason lines)
        → (event_is is_access t x ≡ true → Holds mode t crash (needed_by lines (length lines)) x reason)
        → (event_is is_access t x ≡ false → (event_is is_access t target ≡ true) × (set_of marks target ≡ true) × IsTarget mode t x target)
        → IsExplained mode t crash m v l
    explained_more e target reason at m v l made_m made_v made_l why other = elim (cases_Bool (set_of marks x)) [
      | inl on ↦ at_lists m v l marks targets lines (made_m ∙ set_again marks x on) (made_v ∙ ap (λ b. cond b targets (targets_after e x target targets)) on) (made_l ∙ ap (λ b. cond b lines (lines_after e x reason lines)) on) ex
      | inr out ↦
          let v_is : v ≡ targets_after e x target targets = made_v ∙ ap (λ b. cond b targets (targets_after e x target targets)) out in
          let l_is : l ≡ lines_after e x reason lines = made_l ∙ ap (λ b. cond b lines (lines_after e x reason lines)) out in
          elim (cases_Bool (is_access e)) [
            | inl access ↦
                let is : event_is is_access t x ≡ true = ap (passes is_access) at ∙ access in
                at_lists m v l (slice_set marks x true) (slice_set targets x x) (lines ++ (record { event = x; reason = reason }) ∷ []) made_m (v_is ∙ ap (λ b. slice_set targets x (cond b x target)) access) (l_is ∙ ap (λ b. cond b (lines ++ (record { event = x; reason = reason }) ∷ []) lines) access) (explained_access reason out is (why is))
            | inr none ↦
                let is : event_is is_access t x ≡ false = ap (passes is_access) at ∙ none in
                let by = other is in
                at_lists m v l (slice_set marks x true) (slice_set targets x target) lines made_m (v_is ∙ ap (λ b. slice_set targets x (cond b x target)) none) (l_is ∙ ap (λ b. cond b (lines ++ (record { event = x; reason = reason }) ∷ []) lines) none) (explained_other target out is by.0 by.1 by.2)
          ]
    ]
      where
        at_lists : (m : List Bool) (v : List ℕ) (l : List Forced) (m' : List Bool) (v' : List ℕ) (l' : List Forced) → m ≡ m' → v ≡ v' → l ≡ l' → IsExplained mode t crash m' v' l' → IsExplained mode t crash m v l
        at_lists m v l m' v' l' em ev el h = subst (λ y. IsExplained mode t crash y v l) (sym em) (subst (λ y. IsExplained mode t crash m' y l) (sym ev) (subst (λ y. IsExplained mode t crash m' v' y) (sym el) h))

  -- the earlier event of an edge is an access, or a barrier or a join
  drained_kind : (o : Option Event) → passes drained_by o ≡ true → passes is_access o ≡ false → passes is_barrier_or_join o ≡ true
  drained_kind None h none = absurd (false≢true h)
  drained_kind (Some e) h none = elim (or_cases (is_access e || is_barrier e) (is_join e) h) [
    | inl two ↦ elim (or_cases (is_access e) (is_barrier e) two) [ inl a ↦ absurd (both_ways (is_access e) none a) | inr b ↦ or_left (is_barrier e) (is_join e) b ]
    | inr j ↦ or_right (is_barrier e) (is_join e) j
  ]

  step_kind : (o : Option Event) → passes access_or_join o ≡ true → passes is_access o ≡ false → passes is_barrier_or_join o ≡ true
  step_kind None h none = absurd (false≢true h)
  step_kind (Some e) h none = elim (or_cases (is_access e) (is_join e) h) [ inl a ↦ absurd (both_ways (is_access e) none a) | inr j ↦ or_right (is_barrier e) (is_join e) j ]

  barrier_kind : (o : Option Event) → passes is_barrier o ≡ true → passes is_barrier_or_join o ≡ true
  barrier_kind None h = h
  barrier_kind (Some e) h = or_left (is_barrier e) (is_join e) h

  join_kind : (o : Option Event) → passes is_join o ≡ true → passes is_barrier_or_join o ≡ true
  join_kind None h = h
  join_kind (Some e) h = or_right (is_barrier e) (is_join e) h

  module _ (i j : ℕ) (none : event_is is_access t i ≡ false) where
    gate_source : (m : Mode) → gate_edge m t i j ≡ true → event_is is_barrier_or_join t i ≡ true
    gate_source m h = elim (or_cases (((event_is is_access t j || event_is is_barrier t j) && is_gate m t i j) || (event_is is_barrier t j && since_gate m t i j)) (join_edge t i j) h) [
      | inl two ↦ elim (or_cases ((event_is is_access t j || event_is is_barrier t j) && is_gate m t i j) (event_is is_barrier t j && since_gate m t i j) two) [
        | inl gate ↦
            let g = (and_parts (gates m t j i) (not (any_between i j (gates m t j))) ((and_parts (event_is is_access t j || event_is is_barrier t j) (is_gate m t i j) gate).1)).0 in
            elim (or_cases (event_is is_barrier t i && same_strand m t i j) (event_is is_join t i && (core_at t i == core_at t j)) g) [
              | inl b ↦ barrier_kind (slice_get t i) ((and_parts (event_is is_barrier t i) (same_strand m t i j) b).0)
              | inr k ↦ join_kind (slice_get t i) ((and_parts (event_is is_join t i) (core_at t i == core_at t j) k).0)
            ]
        | inr since ↦
            let s = (and_parts (event_is is_barrier t j) (since_gate m t i j) since).1 in
            let a = (and_parts (event_is is_access t i && same_strand m t i j) (not (any_between i j (gates m t j))) s).0 in
            absurd (both_ways (event_is is_access t i) none ((and_parts (event_is is_access t i) (same_strand m t i j) a).0))
      ]
      | inr join ↦
          let a = (and_parts (event_is is_join t j && core_event_is drained_by (core_at t j) t i) (not (stands_between is_join (core_at t j) t i j)) join).0 in
          let b = (and_parts (event_is is_join t j) (core_event_is drained_by (core_at t j) t i) a).1 in
          drained_kind (slice_get t i) ((and_parts (event_is drained_by t i) (core_at t i == core_at t j) b).0) none
    ]

    core_source : (m : Mode) → core_edge m t i j ≡ true → event_is is_barrier_or_join t i ≡ true
    core_source Strict h =
        let a = (and_parts (event_is access_or_join t j && core_event_is access_or_join (core_at t j) t i) (not (stands_between access_or_join (core_at t j) t i j)) h).0 in
        let b = (and_parts (event_is access_or_join t j) (core_event_is access_or_join (core_at t j) t i) a).1 in
        step_kind (slice_get t i) ((and_parts (event_is access_or_join t i) (core_at t i == core_at t j) b).0) none
    core_source Epoch h = gate_source Epoch h
    core_source Strand h = gate_source Strand h

    edge_source : is_edge mode t i j ≡ true → event_is is_barrier_or_join t i ≡ true
    edge_source h = elim (or_cases (word_edge t i j) (core_edge mode t i j) ((and_parts (nat_lt i j) (word_edge t i j || core_edge mode t i j) h).1)) [
      | inl w ↦ absurd (both_ways (event_is is_access t i) none ((conflict_parts t i j ((and_parts (conflicts t i j) (not (any_between i j (stores_word t _))) w).0)).0))
      | inr c ↦ core_source mode c
    ]

  -- what an edge's earlier event brings to the access by which the later one is needed
  module _ (x j target : ℕ) (edge : is_edge mode t x j ≡ true) (access : event_is is_access t target ≡ true) (by : IsTarget mode t j target) where
    pub edge_direct : event_is is_access t x ≡ true → directly_before mode t x target ≡ true
    edge_direct is = elim by [
      | inl same ↦ path_direct mode t x target [] is access tt (subst (λ y. is_edge mode t x y ≡ true) same edge)
      | inr (border, path) ↦ path_direct mode t x target (j ∷ path.0) is access (border, path.1) (edge, path.2)
    ]

    pub edge_target : event_is is_access t x ≡ false → IsTarget mode t x target
    edge_target none = inr (
      edge_source x j none edge,
      elim by [
        | inl same ↦ ([], tt, subst (λ y. is_edge mode t x y ≡ true) same edge)
        | inr (border, path) ↦ (j ∷ path.0, (border, path.1), (edge, path.2))
      ],
    )

-- a word's first persist with the crash image's value is forced
pub forced_at : (t : List Event) (first found firsts nexts : List ℕ) → AreOffered t (crash_of first found) (length found) 0 firsts nexts → (place : ℕ) → place < length found → (slice_index first place ≡ slice_index found place → ⊥) → (q : ℕ) → slice_index firsts place ≡ suc q
    → (event_is is_persist t q ≡ true) × IsFirstMade t (crash_of first found) q
forced_at t first found firsts nexts o place within differs q is =
    let offer : IsFirstOffer t (crash_of first found) (address_of place) 0 (suc q) = subst (IsFirstOffer t (crash_of first found) (address_of place) 0) is (o.first place within) in
    let to : address_of place ≡ word_at t q = sym offer.1.to in
    let has : (crash_of first found).has (address_of place) ≡ true = and_from (address_of place == address_of (persistent_place (address_of place))) (nat_lt (persistent_place (address_of place)) (length found)) (eq-eqb (address_of place) (address_of (persistent_place (address_of place))) (ap address_of (sym (place_again place)))) (lt-ltb (persistent_place (address_of place)) (length found) (omega (arith, place_again place, within))) in
    let forced : IsForced t (crash_of first found) (address_of place) q = record {
      has = has;
      differs = λ e. differs (ap (slice_index first) (sym (place_again place)) ∙ e ∙ ap (slice_index found) (place_again place));
      first = offer;
    } in
    (offer.1.persist, forced_made t (crash_of first found) q (subst (λ w. IsForced t (crash_of first found) w q) to forced))

-- the number of a first offer is within the trace
pub offer_within : (t : List Event) (crash : Crash) (word k m : ℕ) → IsFirstOffer t crash word k m → m ≤ length t
offer_within t crash word k zero f = omega arith
offer_within t crash word k (suc q) f = omega (arith, event_within is_persist t q f.1.persist)

-- nothing is marked, and no line is there
pub explained_none : (mode : Mode) (t : List Event) (crash : Crash) (n : ℕ) (marks : List Bool) (targets : List ℕ) (lines : List Forced) → marks ≡ replicate n false → length targets ≡ length t → lines ≡ [] → IsExplained mode t crash marks targets lines
explained_none mode t crash n marks targets lines none long empty = record {
  long = long;
  accepted = λ k f at. absurd (omega (arith, slice_get_within lines k f at, ap length empty));
  named = λ e is h. absurd (both_ways (set_of marks e) (off e) h);
  marked = λ e h. absurd (both_ways (needed_by lines (length lines) e) (ap (λ (ls : List Forced). needed_by ls (length ls) e) empty) h);
  target = λ j h. absurd (both_ways (set_of marks j) (off j) h);
}
  where
    off : (k : ℕ) → set_of marks k ≡ false
    off k = ap (λ ms. set_of ms k) none ∙ elim (cases_lt k n) [
      | inl lt ↦ get_or-replicate n k false false lt
      | inr past ↦ get_or_past (replicate n false) k false (omega (arith, past, length-replicate n false))
    ]
