-- Serves judge, by settled: the least settled set is what joined and forced persists bring with them.
use Rattle.std.proofs.Common.{◌≡◌, ℕ, zero, suc, ◌+◌, ◌<◌, ◌≤◌, Bool, true, ◌&&◌, ◌⊎◌, inl, inr, List, [], ◌∷◌, length, refl, sym, ap, ◌∙◌, arith, subst}
use Rattle.std.specs.Prelude.{◌==◌}
use Rattle.std.proofs.lemmas.Bool.{cases_eq, cases_lt, cases_order, cases_Bool, and_parts, and_from, eqb-true, eq-eqb, both_ways}
use Rattle.strand_inputs.specs.declared.mode.Mode.{Mode}
use Rattle.strand_base.proofs.BelowBound.{at_or_below}
use Rattle.strand_events.specs.declared.event.Event.{Event}
use Rattle.strand_events.specs.Trace.{is_persist, is_access, word_at, value_at, event_is}
use Rattle.strand_events.specs.Order.{Set, HoldsJoined, IsDownwardClosed, is_joined, sets_word, image_below}
use Rattle.strand_events.proofs.PersistOrder.Epochs.{weaker, persist_access}
use Rattle.strand_events.proofs.PersistOrder.Images.{closed_word, image_yes, image_no}
use Rattle.strand_events.proofs.EventWithin.{event_within}
use Rattle.strand_order.specs.Graph.{is_edge, EdgePath, LeadsTo}
use Rattle.strand_order.proofs.Paths.Path.{path_before}
use Rattle.strand_order.proofs.Paths.Before.{before_path}
use Rattle.strand_judge.specs.Judged.{Crash, Agrees, Offers, IsSettled, IsLeastSettled}
use Rattle.strand_judge.proofs.Least.JoinedNumbers.{joined_persist}
use Rattle.strand_judge.proofs.Least.Sets.{sets_from}
use Rattle.strand_judge.specs.Offered.{IsFirstOffer, Asks, IsForced, IsServed}

-- event i is s, or a path of edges leads from it to s
abbrev pub IsAtOrLeadsTo : Mode → List Event → ℕ → ℕ → Type 0
IsAtOrLeadsTo mode t i s = (i ≡ s) ⊎ LeadsTo mode t i s

-- a persist that is in every settled set, at event k or behind a path from it
pub record Root (mode : Mode) (t : List Event) (crash : Crash) (k : ℕ) : Type 0 where
  pub root : ℕ
  pub persist : event_is is_persist t root ≡ true
  pub needed : (other : Set) → IsSettled mode t crash other → other root ≡ true
  pub path : IsAtOrLeadsTo mode t k root

-- the set holds the joined and the forced persists
pub record HoldsRoots (t : List Event) (crash : Crash) (set : Set) : Type 0 where
  pub joined : HoldsJoined t set
  pub forced : (word q : ℕ) → IsForced t crash word q → set q ≡ true

-- the last persist to a word that a set holds among the events below n, and what the image has from it
pub record IsLast (t : List Event) (set : Set) (initial : ℕ → ℕ) (n word q : ℕ) : Type 0 where
  pub within : q < n
  pub persist : event_is is_persist t q ≡ true
  pub to : word_at t q ≡ word
  pub in_set : set q ≡ true
  pub value : image_below t set initial n word ≡ value_at t q
  pub none : (k : ℕ) → q < k → k < n → event_is is_persist t k ≡ true → word_at t k ≡ word → set k ≡ true → ⊥

pub record IsNone (t : List Event) (set : Set) (initial : ℕ → ℕ) (n word : ℕ) : Type 0 where
  pub value : image_below t set initial n word ≡ initial word
  pub none : (k : ℕ) → k < n → event_is is_persist t k ≡ true → word_at t k ≡ word → set k ≡ true → ⊥

pub last_or_none : (t : List Event) (set : Set) (initial : ℕ → ℕ) (n word : ℕ) → ((q : ℕ) × IsLast t set initial n word q) ⊎ IsNone t set initial n word
last_or_none t set initial zero word = inr (record { value = refl; none = λ k lt. absurd (omega arith) })
last_or_none t set initial (suc n) word = elim (cases_Bool (sets_word t set word n)) [
  | inl here ↦
      let one = and_parts (event_is is_persist t n && set n) (word_at t n == word) here in
      let two = and_parts (event_is is_persist t n) (set n) one.0 in
      inl (
        n,
        record {
          within = omega arith;
          persist = two.0;
          to = eqb-true (word_at t n) word one.1;
          in_set = two.1;
          value = image_yes t set initial n word here;
          none = λ k lo hi is to on. omega (arith, lo, hi);
        },
      )
  | inr out ↦
      let not_here : event_is is_persist t n ≡ true → word_at t n ≡ word → set n ≡ true → ⊥ = λ is to on. both_ways (sets_word t set word n) out (sets_from t set word n is to on) in
      elim (last_or_none t set initial n word) [
        | inl (q, l) ↦ inl (
          q,
          record {
            within = omega (arith, l.within);
            persist = l.persist;
            to = l.to;
            in_set = l.in_set;
            value = image_no t set initial n word out ∙ l.value;
            none = λ k lo hi is to on. elim (cases_eq k n) [
              | inl e ↦ not_here (ap (event_is is_persist t) (sym e) ∙ is) (ap (word_at t) (sym e) ∙ to) (ap set (sym e) ∙ on)
              | inr ne ↦ l.none k lo (at_or_below hi ne) is to on
            ];
          },
        )
        | inr l ↦ inr (record {
          value = image_no t set initial n word out ∙ l.value;
          none = λ k hi is to on. elim (cases_eq k n) [
            | inl e ↦ not_here (ap (event_is is_persist t) (sym e) ∙ is) (ap (word_at t) (sym e) ∙ to) (ap set (sym e) ∙ on)
            | inr ne ↦ l.none k (at_or_below hi ne) is to on
          ];
        })
      ]
]

module _ (mode : Mode) (t : List Event) (crash : Crash) where
  -- what leads to a member of every settled set is in every settled set, where it is a persist
  pub root_within : (k : ℕ) → event_is is_persist t k ≡ true → Root mode t crash k → (other : Set) → IsSettled mode t crash other → other k ≡ true
  root_within k is r other settled = elim r.path [
    | inl e ↦ ap other e ∙ r.needed other settled
    | inr path ↦ settled.allowed.closed k r.root is (path_before mode t k r.root (weaker is_persist is_access persist_access t k is) (weaker is_persist is_access persist_access t r.root r.persist) path) (r.needed other settled)
  ]

  own_root : (k : ℕ) → event_is is_persist t k ≡ true → ((other : Set) → IsSettled mode t crash other → other k ≡ true) → Root mode t crash k
  own_root k is needed = record { root = k; persist = is; needed = needed; path = inl refl }

  pub joined_root : (k : ℕ) → is_joined t k ≡ true → Root mode t crash k
  joined_root k j = own_root k (joined_persist t k j) (λ other settled. settled.allowed.joined k j)

  -- the earlier event of an edge to what leads to such a member
  pub edge_root : (i j : ℕ) → is_edge mode t i j ≡ true → Root mode t crash j → Root mode t crash i
  edge_root i j e r = record {
    root = r.root;
    persist = r.persist;
    needed = r.needed;
    path = elim r.path [ inl same ↦ inr ([], ap (is_edge mode t i) (sym same) ∙ e) | inr path ↦ inr (j ∷ path.0, (e, path.1)) ];
  }

  -- the last persist to a word in a settled set is no earlier than one that offers the word's value, if the set's image has it
  offer_held : (other : Set) → IsSettled mode t crash other → (word q : ℕ) → Offers t crash word q → (l : ℕ) → IsLast t other crash.initial (length t) word l → q ≤ l → other q ≡ true
  offer_held other settled word q offer l last le = elim (cases_eq q l) [
    | inl e ↦ ap other e ∙ last.in_set
    | inr ne ↦ let lt : q < l = grind (arith, le, ne) in closed_word mode t other settled.allowed.closed q l offer.persist last.persist (offer.to ∙ sym last.to) lt last.in_set
  ]

  -- a forced persist is in every settled set
  pub forced_root : (word q : ℕ) → IsForced t crash word q → Root mode t crash q
  forced_root word q f =
      let offer = f.first.1 in
      own_root q offer.persist (λ other settled. elim (settled.settled word f.has) [
        | inr all ↦ all q offer
        | inl agrees ↦ elim (last_or_none t other crash.initial (length t) word) [
          | inr none ↦ absurd (f.differs (sym none.value ∙ agrees))
          | inl (l, last) ↦ elim (cases_lt l q) [
            | inr le ↦ offer_held other settled word q offer l last le
            | inl lt ↦ absurd (f.first.2 l (omega arith) lt (record { persist = last.persist; to = last.to; value = sym last.value ∙ agrees }))
          ]
        ]
      ])

  -- the persist that a member of every settled set asks for is in every settled set
  pub asked_root : (p q : ℕ) → Asks t crash p q → Root mode t crash p → Root mode t crash q
  asked_root p q a r =
      let word = word_at t p in
      let offer = a.next.1 in
      own_root q offer.persist (λ other settled.
      let own = root_within p a.persist r other settled in
      elim (settled.settled word a.has) [
        | inr all ↦ all q offer
        | inl agrees ↦ elim (last_or_none t other crash.initial (length t) word) [
          | inr none ↦ absurd (none.none p (event_within is_persist t p a.persist) a.persist refl own)
          | inl (l, last) ↦ elim (cases_lt l q) [
            | inr le ↦ offer_held other settled word q offer l last le
            | inl lt ↦
                let value : value_at t l ≡ crash.found word = sym last.value ∙ agrees in
                elim (cases_order l p) [
                  | inl e ↦ absurd (a.differs (ap (value_at t) (sym e) ∙ value))
                  | inr others ↦ elim others [
                    | inl before ↦ absurd (last.none p before (event_within is_persist t p a.persist) a.persist refl own)
                    | inr after ↦ absurd (a.next.2 l (omega (arith, after)) lt (record { persist = last.persist; to = last.to; value = value }))
                  ]
                ]
          ]
        ]
      ])

  offers_now : ℕ → ℕ → Bool
  offers_now word k = event_is is_persist t k && (word_at t k == word) && (value_at t k == crash.found word)

  offer_from : (word k : ℕ) → offers_now word k ≡ true → Offers t crash word k
  unfolding offers_now
  offer_from word k h =
      let one = and_parts (event_is is_persist t k && (word_at t k == word)) (value_at t k == crash.found word) h in
      let two = and_parts (event_is is_persist t k) (word_at t k == word) one.0 in
      record { persist = two.0; to = eqb-true (word_at t k) word two.1; value = eqb-true (value_at t k) (crash.found word) one.1 }

  offer_test : (word k : ℕ) → Offers t crash word k → offers_now word k ≡ true
  unfolding offers_now
  offer_test word k o = and_from (event_is is_persist t k && (word_at t k == word)) (value_at t k == crash.found word) (and_from (event_is is_persist t k) (word_at t k == word) o.persist (eq-eqb (word_at t k) word o.to)) (eq-eqb (value_at t k) (crash.found word) o.value)

  -- the first that offers a word's value from k on
  first_offer : (word n k p : ℕ) → Offers t crash word p → k ≤ p → p < k + n → (q : ℕ) × (q ≤ p) × IsFirstOffer t crash word k (suc q)
  first_offer word zero k p offer le lt = absurd (omega (arith, le, lt))
  first_offer word (suc n) k p offer le lt = elim (cases_Bool (offers_now word k)) [
    | inl here ↦ (k, le, (omega arith, offer_from word k here, λ r lo hi. absurd (omega (arith, lo, hi))))
    | inr none ↦
        let other : k ≡ p → ⊥ = λ e. both_ways (offers_now word k) none (ap (offers_now word) e ∙ offer_test word p offer) in
        let above : suc k ≤ p = grind (arith, le, other) in
        let rest = first_offer word n (suc k) p offer above (omega (arith, lt)) in (
          rest.0,
          rest.1,
          (
            omega (arith, rest.2.0),
            rest.2.1,
            λ r lo hi o. elim (cases_eq r k) [
              | inl e ↦ both_ways (offers_now word k) none (ap (offers_now word) (sym e) ∙ offer_test word r o)
              | inr ne ↦ let past : suc k ≤ r = grind (arith, lo, ne) in rest.2.2 r past hi o
            ],
          ),
        )
  ]

  module _ (set : Set) (served : (j : ℕ) → set j ≡ true → IsServed mode t crash set j) (roots : HoldsRoots t crash set) where
    path_closed : (xs : List ℕ) (a b : ℕ) → EdgePath mode t a xs b → set b ≡ true → set a ≡ true
    path_closed [] a b e h = (served b h).edges a e
    path_closed (x ∷ xs) a b p h = (served x (path_closed xs x b p.1 h)).edges a p.0

    down_closed : IsDownwardClosed mode t set
    down_closed p q is before h = let path = before_path mode t p q before in path_closed path.0 p q path.1 h

    -- at each word its image agrees, or it has all persists that offer the word's value
    all_settled : (word : ℕ) → crash.has word ≡ true → Agrees t crash set word ⊎ ((p : ℕ) → Offers t crash word p → set p ≡ true)
    all_settled word has = elim (last_or_none t set crash.initial (length t) word) [
      | inr none ↦ elim (cases_eq (crash.initial word) (crash.found word)) [
        | inl e ↦ inl (none.value ∙ e)
        | inr ne ↦ inr (λ p offer.
            let f = first_offer word (suc p) 0 p offer (omega arith) (omega arith) in
            let q = f.0 in
            let o = f.2.1 in
            absurd (none.none q (event_within is_persist t q o.persist) o.persist o.to (roots.forced word q (record { has = has; differs = ne; first = f.2 }))))
      ]
      | inl (l, last) ↦ elim (cases_eq (value_at t l) (crash.found word)) [
        | inl e ↦ inl (last.value ∙ e)
        | inr ne ↦ inr (λ p offer. elim (cases_order p l) [
          | inl e ↦ ap set e ∙ last.in_set
          | inr others ↦ elim others [
            | inl before ↦ closed_word mode t set down_closed p l offer.persist last.persist (offer.to ∙ sym last.to) before last.in_set
            | inr after ↦
                let f = first_offer word p (suc l) p offer (omega (arith, after)) (omega (arith, after)) in
                let q = f.0 in
                let o = f.2.1 in
                let asks : Asks t crash l q = record {
                  persist = last.persist;
                  has = ap crash.has last.to ∙ has;
                  differs = λ e. ne (e ∙ ap crash.found last.to);
                  next = subst (λ w. IsFirstOffer t crash w (suc l) (suc q)) (sym last.to) f.2;
                } in
                absurd (last.none q (omega (arith, f.2.0)) (event_within is_persist t q o.persist) o.persist o.to ((served l last.in_set).asks q asks))
          ]
        ])
      ]
    ]

    -- a set that holds the roots and what its events bring with them is the least settled one, where each event leads to a root
    pub least_settled : ((k : ℕ) → set k ≡ true → Root mode t crash k) → IsLeastSettled mode t crash set
    least_settled rooted = record {
      settled = record { allowed = record { closed = down_closed; joined = roots.joined }; settled = all_settled };
      least = λ other settled k is h. root_within k is (rooted k h) other settled;
    }
