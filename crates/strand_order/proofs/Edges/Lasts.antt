-- Serves clause edges of Graph::edges, the first step of build, by note.
-- One event more: the last events and links of the events below n become those of the events up to n.
use Rattle.std.proofs.Common.{◌≡◌, ℕ, suc, ◌+◌, ◌<◌, ◌≤◌, Bool, true, false, ◌&&◌, inl, inr, List, [], ◌∷◌, ◌++◌, length, Some, refl, sym, ap, ◌∙◌, arith, cond, subst, add-one}
use Rattle.std.specs.Prelude.{slice_get, slice_index, slice_index_or, slice_set, ◌==◌}
use Rattle.std.specs.Ordering.{nat_cmp}
use Rattle.std.specs.BTreeMap.{get}
use Rattle.std.proofs.lemmas.Bool.{cases_eq, cases_lt, eq-eqb, ne_eqb, and_right, false≢true}
use Rattle.std.proofs.lemmas.List.{get_or-set_other, get_or-set_same, length-set, get_or_past, get_or_push, get_or_append_left, length_push}
use Rattle.strand_base.specs.declared.limits.TheConstants.{CORE_ROOM}
use Rattle.strand_events.specs.declared.event.Event.{Event}
use Rattle.strand_events.specs.Trace.{core_of, word_of, core_in, word_in, passes, is_access, is_store, is_barrier, is_join, is_new_strand, core_at, word_at, event_is, core_event_is}
use Rattle.strand_events.proofs.PersistOrder.Epochs.{store_is_access}
use Rattle.strand_events.proofs.TestLaws.{and_true}
use Rattle.strand_order.specs.Graph.{stores_word, access_or_join, drained_by}
use Rattle.strand_order.specs.Lasts.{since_below}
use Rattle.strand_order.specs.declared.lasts.CoreLasts.{CoreLasts}
use Rattle.strand_order.specs.declared.lasts.WordLasts.{WordLasts}
use Rattle.strand_order.specs.CoreLasts.{core_lasts, lasts_after, no_lasts, AreCoreLasts}
use Rattle.strand_order.specs.Sources.{is_access_to, word_lasts, AreWordLinks, AreCoreLinks}
use Rattle.strand_order.specs.Walks.{AreBack}
use Rattle.strand_order.specs.declared.seen.Seen.{Seen}
use Rattle.strand_order.specs.Seen.{word_lasts_after, lasts_in, IsSeen}
use Rattle.strand_inputs.specs.declared.mode.Mode.{Mode}
use Rattle.strand_order.specs.Edges.{edges_below, edges_to}
use Rattle.strand_order.proofs.Edges.LastEvent.{since_most}

-- a link more leads back
pub back_more : (xs : List ℕ) (x : ℕ) → AreBack xs → x ≤ length xs → AreBack (xs ++ x ∷ [])
back_more xs x back le i = elim (cases_lt i (length xs)) [
  | inl lt ↦ omega (arith, get_or_append_left xs (x ∷ []) 0 i lt, back i)
  | inr past ↦ elim (cases_eq i (length xs)) [
    | inl e ↦ omega (arith, ap (slice_index (xs ++ x ∷ [])) e, get_or_push xs x 0 (length xs) refl, le, e)
    | inr ne ↦ omega (arith, get_or_past (xs ++ x ∷ []) i 0 (grind (arith, length_push xs x, past, ne)))
  ]
]

abbrev lasts_from : ℕ → ℕ → ℕ → ℕ → ℕ → CoreLasts
lasts_from a b c d f = record { step = a; drained = b; barrier = c; begin = d; join = f }

same_lasts : {a b c d f a' b' c' d' f' : ℕ} → a ≡ a' → b ≡ b' → c ≡ c' → d ≡ d' → f ≡ f' → lasts_from a b c d f ≡ lasts_from a' b' c' d' f'
same_lasts p q r s u = cc (p, q, r, s, u)

abbrev words_from : ℕ → ℕ → WordLasts
words_from a s = record { access = a; store = s }

word_shape : (a s w : Bool) → (s ≡ true → a ≡ true) → (n x y : ℕ) → words_from (cond (a && w) (suc n) x) (cond (s && w) (suc n) y) ≡ cond (a && w) (words_from (suc n) (cond s (suc n) y)) (words_from x y)
word_shape true true true h n x y = refl
word_shape true false true h n x y = refl
word_shape true true false h n x y = refl
word_shape true false false h n x y = refl
word_shape false true w h n x y = absurd (false≢true (h refl))
word_shape false false w h n x y = refl

module _ (t : List Event) (n : ℕ) (e : Event) (at : slice_get t n ≡ Some e) where
  pub core_is : core_at t n ≡ core_of e
  core_is = ap core_in at

  pub word_is : word_at t n ≡ word_of e
  word_is = ap word_in at

  last_same : (test : Event → Bool) → since_below (suc n) (core_event_is test (core_of e) t) ≡ cond (test e) (suc n) (since_below n (core_event_is test (core_of e) t))
  last_same test =
      let h : core_event_is test (core_of e) t n ≡ test e = rw (at, eq-eqb (core_of e) (core_of e) refl) (and_true (test e)) in
      ap (λ b. cond b (suc n) (since_below n (core_event_is test (core_of e) t))) h

  last_other : (test : Event → Bool) (core : ℕ) → (core ≡ core_of e → ⊥) → since_below (suc n) (core_event_is test core t) ≡ since_below n (core_event_is test core t)
  last_other test core ne =
      let h : core_event_is test core t n ≡ false = rw (at, ne_eqb (core_of e) core (λ bad. ne (sym bad))) (and_right (test e) false refl) in
      ap (λ b. cond b (suc n) (since_below n (core_event_is test core t))) h

  lasts_same : core_lasts t (core_of e) (suc n) ≡ lasts_after e n (core_lasts t (core_of e) n)
  lasts_same = same_lasts (last_same access_or_join) (last_same drained_by) (last_same is_barrier) (last_same is_new_strand) (last_same is_join)

  lasts_other : (core : ℕ) → (core ≡ core_of e → ⊥) → core_lasts t core (suc n) ≡ core_lasts t core n
  lasts_other core ne = same_lasts (last_other access_or_join core ne) (last_other drained_by core ne) (last_other is_barrier core ne) (last_other is_new_strand core ne) (last_other is_join core ne)

  pub cores_noted : (lasts : List CoreLasts) → core_of e < CORE_ROOM → AreCoreLasts t n lasts → AreCoreLasts t (suc n) (slice_set lasts (core_of e) (lasts_after e n (slice_index_or lasts (core_of e) no_lasts)))
  cores_noted lasts lt a =
      let new = lasts_after e n (slice_index_or lasts (core_of e) no_lasts) in (
        length-set lasts (core_of e) new ∙ a.0,
        λ core within. elim (cases_eq core (core_of e)) [
          | inl same ↦ subst (λ c. slice_index_or (slice_set lasts (core_of e) new) c no_lasts ≡ core_lasts t c (suc n)) (sym same) (get_or-set_same lasts (core_of e) new no_lasts (omega (arith, a.0, lt)) ∙ ap (lasts_after e n) (a.1 (core_of e) lt) ∙ sym lasts_same)
          | inr ne ↦ get_or-set_other lasts (core_of e) core new no_lasts ne ∙ a.1 core within ∙ sym (lasts_other core ne)
        ],
      )

  pub word_noted : (word : ℕ) → word_lasts t word (suc n) ≡ word_lasts_after e n word (word_lasts t word n)
  word_noted word = rw at (word_shape (is_access e) (is_store e) (word_of e == word) (store_is_access e) n (since_below n (is_access_to t word)) (since_below n (stores_word t word)))

  -- the links of the events below n, and that of event n
  link_more : (test : Event → Bool) (chain : ℕ → ℕ → Bool) (links : List ℕ) (x : ℕ) → length links ≡ n
      → ((i : ℕ) → i < n → event_is test t i ≡ true → slice_index links i ≡ since_below i (chain i))
      → x ≡ cond (test e) (since_below n (chain n)) 0
      → (i : ℕ) → i < suc n → event_is test t i ≡ true → slice_index (links ++ x ∷ []) i ≡ since_below i (chain i)
  link_more test chain links x long back made i lt is = elim (cases_eq i n) [
    | inl same ↦
        let on : test e ≡ true = sym (ap (passes test) at) ∙ ap (event_is test t) (sym same) ∙ is in
        let there : slice_index (links ++ x ∷ []) i ≡ x = ap (slice_index (links ++ x ∷ [])) (same ∙ sym long) ∙ get_or_push links x 0 (length links) refl in
        there ∙ made ∙ ap (λ b. cond b (since_below n (chain n)) 0) on ∙ ap (λ k. since_below k (chain k)) (sym same)
    | inr ne ↦ let below : i < n = grind (arith, lt, ne) in get_or_append_left links (x ∷ []) 0 i (omega (arith, below, long)) ∙ back i below is
  ]

  pub word_linked : (links : List ℕ) → AreWordLinks t n links → AreWordLinks t (suc n) (links ++ cond (is_access e) (word_lasts t (word_of e) n).access 0 ∷ [])
  word_linked links a =
      let x = cond (is_access e) (since_below n (is_access_to t (word_of e))) 0 in
      record {
        long = omega (arith, length_push links x, a.long);
        back = link_more is_access (λ i. is_access_to t (word_at t i)) links x a.long a.back (ap (λ w. cond (is_access e) (since_below n (is_access_to t w)) 0) (sym word_is));
      }

  pub core_linked : (links : List ℕ) → AreCoreLinks t n links → AreCoreLinks t (suc n) (links ++ cond (drained_by e) (core_lasts t (core_of e) n).drained 0 ∷ [])
  core_linked links a =
      let x = cond (drained_by e) (since_below n (core_event_is drained_by (core_of e) t)) 0 in
      record {
        long = omega (arith, length_push links x, a.long);
        back = link_more drained_by (λ i. core_event_is drained_by (core_at t i) t) links x a.long a.back (ap (λ c. cond (drained_by e) (since_below n (core_event_is drained_by c t)) 0) (sym core_is));
      }

pub link_most : (b : Bool) (n : ℕ) (f : ℕ → Bool) → cond b (since_below n f) 0 ≤ n
link_most true n f = since_most n f
link_most false n f = omega arith

-- what is kept after event n
pub noted : (t : List Event) (n : ℕ) (e : Event) → slice_get t n ≡ Some e → core_of e < CORE_ROOM → (s new : Seen) → IsSeen t n s
    → new.cores ≡ slice_set s.cores (core_of e) (lasts_after e n (slice_index_or s.cores (core_of e) no_lasts))
    → ((word : ℕ) → lasts_in (get nat_cmp new.words word) ≡ word_lasts_after e n word (lasts_in (get nat_cmp s.words word)))
    → new.word_links.items ≡ s.word_links.items ++ cond (is_access e) (lasts_in (get nat_cmp s.words (word_of e))).access 0 ∷ []
    → new.core_links.items ≡ s.core_links.items ++ cond (drained_by e) (slice_index_or s.cores (core_of e) no_lasts).drained 0 ∷ []
    → IsSeen t (suc n) new
noted t n e at lt s new k cores words word_links core_links =
    let word_access : (lasts_in (get nat_cmp s.words (word_of e))).access ≡ since_below n (is_access_to t (word_of e)) = ap (λ (w : WordLasts). w.access) (k.words (word_of e)) in
    let core_drained : (slice_index_or s.cores (core_of e) no_lasts).drained ≡ since_below n (core_event_is drained_by (core_of e) t) = ap (λ (m : CoreLasts). m.drained) ((k.cores).1 (core_of e) lt) in
    let one : new.word_links.items ≡ s.word_links.items ++ cond (is_access e) (since_below n (is_access_to t (word_of e))) 0 ∷ [] = word_links ∙ ap (λ x. s.word_links.items ++ cond (is_access e) x 0 ∷ []) word_access in
    let two : new.core_links.items ≡ s.core_links.items ++ cond (drained_by e) (since_below n (core_event_is drained_by (core_of e) t)) 0 ∷ [] = core_links ∙ ap (λ x. s.core_links.items ++ cond (drained_by e) x 0 ∷ []) core_drained in
    record {
      cores = subst (AreCoreLasts t (suc n)) (sym cores) (cores_noted t n e at s.cores lt k.cores);
      words = λ word. words word ∙ ap (word_lasts_after e n word) (k.words word) ∙ sym (word_noted t n e at word);
      word_links = subst (AreWordLinks t (suc n)) (sym one) (word_linked t n e at s.word_links.items k.word_links);
      core_links = subst (AreCoreLinks t (suc n)) (sym two) (core_linked t n e at s.core_links.items k.core_links);
      word_back = subst AreBack (sym one) (back_more s.word_links.items (cond (is_access e) (since_below n (is_access_to t (word_of e))) 0) k.word_back (omega (arith, link_most (is_access e) n (is_access_to t (word_of e)), k.word_links.long)));
      core_back = subst AreBack (sym two) (back_more s.core_links.items (cond (drained_by e) (since_below n (core_event_is drained_by (core_of e) t)) 0) k.core_back (omega (arith, link_most (drained_by e) n (core_event_is drained_by (core_of e) t), k.core_links.long)));
    }

pub edges_more : (mode : Mode) (t : List Event) (n : ℕ) → edges_below mode t n ++ edges_to mode t n n ≡ edges_below mode t (n + 1)
unfolding edges_below
edges_more mode t n = ap (edges_below mode t) (sym (add-one n))
