-- Serves clauses epochs and joins of persist_order_laws, and paths_are_persist_order of strand_order.
-- Laws on kinds of events, which files of strand_order and of the crates above cite too; epochs rise along a strand, and the
-- events that order accesses of a core divide them into epochs.
use Rattle.std.proofs.Common.{◌≡◌, ℕ, ◌<◌, ◌≤◌, Bool, true, false, ◌||◌, ◌&&◌, ◌⊎◌, inl, inr, List, refl, sym, ap, ◌∙◌, arith}
use Rattle.std.specs.Prelude.{slice_get, nat_lt, not, ◌==◌, Option, Some, None}
use Rattle.std.proofs.lemmas.Bool.{and_parts, and_from, and_left, or_cases, cases_eq, or_left, or_right, not-true, eqb-true, eq-eqb, ltb-true, lt-ltb, false≢true, true≢false, false_from_ne_true, both_ways}
use Rattle.strand_inputs.specs.declared.mode.Mode.{Mode}
use Rattle.strand_inputs.specs.declared.mode.Mode.TheVariants.{Strict, Epoch, Strand}
use Rattle.strand_events.specs.declared.event.Event.{Event}
use Rattle.strand_events.specs.declared.event.Event.TheVariants.{Load, Store, Barrier, NewStrand, Join, Out}
use Rattle.strand_base.specs.Counting.{count_below}
use Rattle.strand_events.specs.Trace.{passes, is_access, is_store, is_persist, is_barrier, is_join, is_new_strand, is_barrier_or_join, core_at, word_at, event_is, core_event_is, strand_number, same_strand, epoch}
use Rattle.strand_events.specs.Order.{conflicts, stands_between, core_orders, directly_before}
use Rattle.strand_base.proofs.BelowBound.{any_true, any_from, count_mono, count_strict, count_flat, count_agree}

-- one test implies another
pub weaker : (test other : Event → Bool) → ((e : Event) → test e ≡ true → other e ≡ true) → (t : List Event) (i : ℕ) → event_is test t i ≡ true → event_is other t i ≡ true
weaker test other implies t i h = go (slice_get t i) h
  where
    go : (o : Option Event) → passes test o ≡ true → passes other o ≡ true
    go None h = h
    go (Some e) h = implies e h

-- one test excludes another
pub excludes : (test other : Event → Bool) → ((e : Event) → test e ≡ true → other e ≡ false) → (t : List Event) (i : ℕ) → event_is test t i ≡ true → event_is other t i ≡ false
excludes test other no_ t i h = go (slice_get t i) h
  where
    go : (o : Option Event) → passes test o ≡ true → passes other o ≡ false
    go None h = refl
    go (Some e) h = no_ e h

-- an event that passes either of two tests passes one of them
pub either_passes : (test other : Event → Bool) (t : List Event) (i : ℕ) → event_is (λ e. test e || other e) t i ≡ true → (event_is test t i ≡ true) ⊎ (event_is other t i ≡ true)
either_passes test other t i h = go (slice_get t i) h
  where
    go : (o : Option Event) → passes (λ e. test e || other e) o ≡ true → (passes test o ≡ true) ⊎ (passes other o ≡ true)
    go None h = absurd (false≢true h)
    go (Some e) h = or_cases (test e) (other e) h

pub persist_store : (e : Event) → is_persist e ≡ true → is_store e ≡ true
persist_store (Store persist core word value) h = refl
persist_store (Load core word) h = absurd (false≢true h)
persist_store (Barrier core) h = absurd (false≢true h)
persist_store (NewStrand core) h = absurd (false≢true h)
persist_store (Join core) h = absurd (false≢true h)
persist_store (Out core value) h = absurd (false≢true h)

pub store_is_access : (e : Event) → is_store e ≡ true → is_access e ≡ true
store_is_access (Store persist core word value) h = refl
store_is_access (Load core word) h = absurd (false≢true h)
store_is_access (Barrier core) h = absurd (false≢true h)
store_is_access (NewStrand core) h = absurd (false≢true h)
store_is_access (Join core) h = absurd (false≢true h)
store_is_access (Out core value) h = absurd (false≢true h)

pub persist_access : (e : Event) → is_persist e ≡ true → is_access e ≡ true
persist_access e h = store_is_access e (persist_store e h)

pub barrier_either : (e : Event) → is_barrier e ≡ true → is_barrier_or_join e ≡ true
barrier_either e h = or_left (is_barrier e) (is_join e) h

pub join_either : (e : Event) → is_join e ≡ true → is_barrier_or_join e ≡ true
join_either e h = or_right (is_barrier e) (is_join e) h

-- neither an access nor a barrier begins a strand, and an access is no barrier and no join
pub access_begins_none : (e : Event) → is_access e ≡ true → is_new_strand e ≡ false
access_begins_none (Store persist core word value) h = refl
access_begins_none (Load core word) h = refl
access_begins_none (Barrier core) h = absurd (false≢true h)
access_begins_none (NewStrand core) h = absurd (false≢true h)
access_begins_none (Join core) h = absurd (false≢true h)
access_begins_none (Out core value) h = absurd (false≢true h)

pub barrier_begins_none : (e : Event) → is_barrier e ≡ true → is_new_strand e ≡ false
barrier_begins_none (Barrier core) h = refl
barrier_begins_none (NewStrand core) h = absurd (false≢true h)
barrier_begins_none (Store persist core word value) h = absurd (false≢true h)
barrier_begins_none (Load core word) h = absurd (false≢true h)
barrier_begins_none (Join core) h = absurd (false≢true h)
barrier_begins_none (Out core value) h = absurd (false≢true h)

pub access_no_border : (e : Event) → is_access e ≡ true → is_barrier_or_join e ≡ false
access_no_border (Store persist core word value) h = refl
access_no_border (Load core word) h = refl
access_no_border (Barrier core) h = absurd (false≢true h)
access_no_border (NewStrand core) h = absurd (false≢true h)
access_no_border (Join core) h = absurd (false≢true h)
access_no_border (Out core value) h = absurd (false≢true h)

pub access_is_no_border : (t : List Event) (i : ℕ) → event_is is_access t i ≡ true → event_is is_barrier_or_join t i ≡ true → ⊥
access_is_no_border t i is border = both_ways (event_is is_barrier_or_join t i) (excludes is_access is_barrier_or_join access_no_border t i is) border

-- two events are of one strand exactly where their cores and their strand numbers agree
pub strand_parts : (mode : Mode) (t : List Event) (i j : ℕ) → same_strand mode t i j ≡ true → (core_at t i ≡ core_at t j) × (strand_number mode t i ≡ strand_number mode t j)
strand_parts mode t i j h = let parts = and_parts (core_at t i == core_at t j) (strand_number mode t i == strand_number mode t j) h in (eqb-true (core_at t i) (core_at t j) parts.0, eqb-true (strand_number mode t i) (strand_number mode t j) parts.1)

pub strand_from : (mode : Mode) (t : List Event) (i j : ℕ) → core_at t i ≡ core_at t j → strand_number mode t i ≡ strand_number mode t j → same_strand mode t i j ≡ true
strand_from mode t i j c n = and_from (core_at t i == core_at t j) (strand_number mode t i == strand_number mode t j) (eq-eqb (core_at t i) (core_at t j) c) (eq-eqb (strand_number mode t i) (strand_number mode t j) n)

pub strand_self : (mode : Mode) (t : List Event) (i : ℕ) → same_strand mode t i i ≡ true
strand_self mode t i = strand_from mode t i i refl refl

pub strand_flip : (mode : Mode) (t : List Event) (i j : ℕ) → same_strand mode t i j ≡ true → same_strand mode t j i ≡ true
strand_flip mode t i j h = let parts = strand_parts mode t i j h in strand_from mode t j i (sym parts.0) (sym parts.1)

pub strand_chain : (mode : Mode) (t : List Event) (i j k : ℕ) → same_strand mode t i j ≡ true → same_strand mode t j k ≡ true → same_strand mode t i k ≡ true
strand_chain mode t i j k h l = let a = strand_parts mode t i j h in let b = strand_parts mode t j k l in strand_from mode t i k (a.0 ∙ b.0) (a.1 ∙ b.1)

strand_alike : (mode : Mode) (t : List Event) (k i j : ℕ) → same_strand mode t i j ≡ true → same_strand mode t k i ≡ same_strand mode t k j
strand_alike mode t k i j h = let parts = strand_parts mode t i j h in cc (parts.0, parts.1)

-- the barriers and joins of the strand are counted alike at both events
pub in_strand_alike : (mode : Mode) (t : List Event) (i j n : ℕ) → same_strand mode t i j ≡ true → count_below n (λ k. event_is is_barrier_or_join t k && same_strand mode t k i) ≡ count_below n (λ k. event_is is_barrier_or_join t k && same_strand mode t k j)
in_strand_alike mode t i j n h = count_agree n (λ k. event_is is_barrier_or_join t k && same_strand mode t k i) (λ k. event_is is_barrier_or_join t k && same_strand mode t k j) (λ k lt. ap (λ x. event_is is_barrier_or_join t k && x) (strand_alike mode t k i j h))

strand_epochs_rise : (mode : Mode) (t : List Event) (i j : ℕ) → same_strand mode t i j ≡ true → i ≤ j → count_below i (λ k. event_is is_barrier_or_join t k && same_strand mode t k i) ≤ count_below j (λ k. event_is is_barrier_or_join t k && same_strand mode t k j)
strand_epochs_rise mode t i j h le = rw (in_strand_alike mode t i j i h) (count_mono i j (λ k. event_is is_barrier_or_join t k && same_strand mode t k j) le)

-- along a strand the epochs never fall
pub epochs_rise : (mode : Mode) (t : List Event) (i j : ℕ) → same_strand mode t i j ≡ true → i ≤ j → epoch mode t i ≤ epoch mode t j
epochs_rise Strict t i j h le = rw ((strand_parts Strict t i j h).0) (count_mono i j (core_event_is is_access (core_at t j) t) le)
epochs_rise Epoch t i j h le = strand_epochs_rise Epoch t i j h le
epochs_rise Strand t i j h le = strand_epochs_rise Strand t i j h le

-- a barrier or join of the strand in between makes the epoch higher
strand_epochs_part : (mode : Mode) (t : List Event) (i k j : ℕ) → same_strand mode t i j ≡ true → i ≤ k → k < j → event_is is_barrier_or_join t k ≡ true → same_strand mode t k j ≡ true → count_below i (λ k. event_is is_barrier_or_join t k && same_strand mode t k i) < count_below j (λ k. event_is is_barrier_or_join t k && same_strand mode t k j)
strand_epochs_part mode t i k j h le lt is of = rw (in_strand_alike mode t i j i h) (count_strict i k j (λ k. event_is is_barrier_or_join t k && same_strand mode t k j) le lt (and_from (event_is is_barrier_or_join t k) (same_strand mode t k j) is of))

-- the event of the core that stands between
pub between_parts : (test : Event → Bool) (core : ℕ) (t : List Event) (a b : ℕ) → stands_between test core t a b ≡ true → (k : ℕ) × (a < k) × (k < b) × (event_is test t k ≡ true) × (core_at t k ≡ core)
between_parts test core t a b h =
    let found = any_true b (λ k. nat_lt a k && core_event_is test core t k) h in
    let parts = and_parts (nat_lt a found.0) (core_event_is test core t found.0) found.2 in
    let inner = and_parts (event_is test t found.0) (core_at t found.0 == core) parts.1 in
    (found.0, ltb-true a found.0 parts.0, found.1, inner.0, eqb-true (core_at t found.0) core inner.1)

pub between_from : (test : Event → Bool) (core : ℕ) (t : List Event) (a b k : ℕ) → a < k → k < b → event_is test t k ≡ true → core_at t k ≡ core → stands_between test core t a b ≡ true
between_from test core t a b k lo hi is c = any_from b (λ k. nat_lt a k && core_event_is test core t k) k hi (and_from (nat_lt a k) (core_event_is test core t k) (lt-ltb a k lo) (and_from (event_is test t k) (core_at t k == core) is (eq-eqb (core_at t k) core c)))

-- where no event of its core from access a up to b begins a strand, the strand's number is the same
pub same_number : (t : List Event) (a b i : ℕ) → event_is is_access t a ≡ true → a ≤ i → i ≤ b → core_at t a ≡ core_at t i → stands_between is_new_strand (core_at t a) t a b ≡ false → strand_number Strand t a ≡ strand_number Strand t i
same_number t a b i is lo hi c none =
    ap (λ x. count_below a (core_event_is is_new_strand x t)) c ∙ sym (count_flat a i (core_event_is is_new_strand (core_at t i) t) lo each)
  where
    each : (k : ℕ) → a ≤ k → k < i → core_event_is is_new_strand (core_at t i) t k ≡ false
    each k l m = elim (cases_eq k a) [
      | inl e ↦ and_left (event_is is_new_strand t k) (core_at t k == core_at t i) (ap (event_is is_new_strand t) e ∙ excludes is_access is_new_strand access_begins_none t a is)
      | inr ne ↦
          let above : a < k = grind arith in
          let below : k < b = omega arith in
          false_from_ne_true (core_event_is is_new_strand (core_at t i) t k) (λ yes_.
          let parts = and_parts (event_is is_new_strand t k) (core_at t k == core_at t i) yes_ in
          true≢false (sym (between_from is_new_strand (core_at t a) t a b k above below parts.0 (eqb-true (core_at t k) (core_at t i) parts.1 ∙ sym c)) ∙ none))
    ]

-- what orders two accesses of a core puts them into one strand, in two epochs, or is a join
pub core_linked : (mode : Mode) (t : List Event) (a b : ℕ) → a < b → event_is is_access t a ≡ true → core_at t a ≡ core_at t b → core_orders mode (core_at t a) t a b ≡ true → ((same_strand mode t a b ≡ true) × (epoch mode t a < epoch mode t b)) ⊎ (stands_between is_join (core_at t a) t a b ≡ true)
core_linked Strict t a b lt is c orders =
    let at : core_event_is is_access (core_at t b) t a ≡ true = and_from (event_is is_access t a) (core_at t a == core_at t b) is (eq-eqb (core_at t a) (core_at t b) c) in
    let higher : count_below a (core_event_is is_access (core_at t a) t) < count_below b (core_event_is is_access (core_at t b) t) = rw c (count_strict a a b (core_event_is is_access (core_at t b) t) (omega arith) lt at) in
    inl (strand_from Strict t a b c refl, higher)
core_linked Epoch t a b lt is c orders =
    let k = between_parts is_barrier_or_join (core_at t a) t a b orders in
    let same : same_strand Epoch t a b ≡ true = strand_from Epoch t a b c refl in
    inl (same, strand_epochs_part Epoch t a k.0 b same (omega (arith, k.1)) k.2 k.3 (strand_from Epoch t k.0 b (k.4 ∙ c) refl))
core_linked Strand t a b lt is c orders =
    elim (or_cases (stands_between is_join (core_at t a) t a b) (stands_between is_barrier (core_at t a) t a b && not (stands_between is_new_strand (core_at t a) t a b)) orders) [
      | inl join ↦ inr join
      | inr apart ↦
          let parts = and_parts (stands_between is_barrier (core_at t a) t a b) (not (stands_between is_new_strand (core_at t a) t a b)) apart in
          let none = not-true (stands_between is_new_strand (core_at t a) t a b) parts.1 in
          let k = between_parts is_barrier (core_at t a) t a b parts.0 in
          let number_b : strand_number Strand t a ≡ strand_number Strand t b = same_number t a b b is (omega arith) (omega arith) c none in
          let number_k : strand_number Strand t a ≡ strand_number Strand t k.0 = same_number t a b k.0 is (omega (arith, k.1)) (omega (arith, k.2)) (sym k.4) none in
          let same : same_strand Strand t a b ≡ true = strand_from Strand t a b c number_b in
          inl (same, strand_epochs_part Strand t a k.0 b same (omega (arith, k.1)) k.2 (weaker is_barrier is_barrier_or_join barrier_either t k.0 k.3) (strand_from Strand t k.0 b (k.4 ∙ c) (sym number_k ∙ number_b)))
    ]

-- an access that comes directly before another: they conflict, or are of one core whose events order them
pub direct_parts : (mode : Mode) (t : List Event) (a b : ℕ) → directly_before mode t a b ≡ true → (a < b) × (event_is is_access t a ≡ true) × (event_is is_access t b ≡ true) × ((conflicts t a b ≡ true) ⊎ ((core_at t a ≡ core_at t b) × (core_orders mode (core_at t a) t a b ≡ true)))
direct_parts mode t a b h =
    let why : Bool = conflicts t a b || ((core_at t a == core_at t b) && core_orders mode (core_at t a) t a b) in
    let one = and_parts (nat_lt a b && event_is is_access t a && event_is is_access t b) why h in
    let two = and_parts (nat_lt a b && event_is is_access t a) (event_is is_access t b) one.0 in
    let three = and_parts (nat_lt a b) (event_is is_access t a) two.0 in (
      ltb-true a b three.0,
      three.1,
      two.1,
      elim (or_cases (conflicts t a b) ((core_at t a == core_at t b) && core_orders mode (core_at t a) t a b) one.1) [
        | inl conflict ↦ inl conflict
        | inr core ↦ let parts = and_parts (core_at t a == core_at t b) (core_orders mode (core_at t a) t a b) core in inr (eqb-true (core_at t a) (core_at t b) parts.0, parts.1)
      ],
    )

-- accesses that conflict are of one word, and one of them is a store
pub conflict_parts : (t : List Event) (a b : ℕ) → conflicts t a b ≡ true
    → (event_is is_access t a ≡ true) × (event_is is_access t b ≡ true) × (word_at t a ≡ word_at t b) × ((event_is is_store t a || event_is is_store t b) ≡ true)
conflict_parts t a b h =
    let one = and_parts (event_is is_access t a && event_is is_access t b && (word_at t a == word_at t b)) (event_is is_store t a || event_is is_store t b) h in
    let two = and_parts (event_is is_access t a && event_is is_access t b) (word_at t a == word_at t b) one.0 in
    let three = and_parts (event_is is_access t a) (event_is is_access t b) two.0 in
    (three.0, three.1, eqb-true (word_at t a) (word_at t b) two.1, one.1)

-- no strand begins between two events of one strand
pub no_begin : (t : List Event) (x j : ℕ) → x < j → same_strand Strand t x j ≡ true → stands_between is_new_strand (core_at t x) t x j ≡ false
no_begin t x j lt same = false_from_ne_true (stands_between is_new_strand (core_at t x) t x j) (λ h.
    let k = between_parts is_new_strand (core_at t x) t x j h in
    let parts = strand_parts Strand t x j same in
    let item : core_event_is is_new_strand (core_at t x) t k.0 ≡ true = and_from (event_is is_new_strand t k.0) (core_at t k.0 == core_at t x) k.3 (eq-eqb (core_at t k.0) (core_at t x) k.4) in
    let less : count_below x (core_event_is is_new_strand (core_at t x) t) < count_below j (core_event_is is_new_strand (core_at t x) t) = count_strict x k.0 j (core_event_is is_new_strand (core_at t x) t) (omega (arith, k.1)) k.2 item in
    let even : count_below x (core_event_is is_new_strand (core_at t x) t) ≡ count_below j (core_event_is is_new_strand (core_at t x) t) = parts.1 ∙ ap (λ c. count_below j (core_event_is is_new_strand c t)) (sym parts.0) in
    omega (arith, less, even))

-- a join between two accesses of one strand divides their epochs
pub core_joined : (mode : Mode) (t : List Event) (a b : ℕ) → a < b → event_is is_access t a ≡ true → same_strand mode t a b ≡ true → stands_between is_join (core_at t a) t a b ≡ true → epoch mode t a < epoch mode t b
core_joined Strict t a b lt is same join =
    let c = (strand_parts Strict t a b same).0 in
    let at : core_event_is is_access (core_at t b) t a ≡ true = and_from (event_is is_access t a) (core_at t a == core_at t b) is (eq-eqb (core_at t a) (core_at t b) c) in
    rw c (count_strict a a b (core_event_is is_access (core_at t b) t) (omega arith) lt at)
core_joined Epoch t a b lt is same join =
    let c = (strand_parts Epoch t a b same).0 in
    let k = between_parts is_join (core_at t a) t a b join in
    strand_epochs_part Epoch t a k.0 b same (omega (arith, k.1)) k.2 (weaker is_join is_barrier_or_join join_either t k.0 k.3) (strand_from Epoch t k.0 b (k.4 ∙ c) refl)
core_joined Strand t a b lt is same join =
    let parts = strand_parts Strand t a b same in
    let k = between_parts is_join (core_at t a) t a b join in
    let number_k : strand_number Strand t a ≡ strand_number Strand t k.0 = same_number t a b k.0 is (omega (arith, k.1)) (omega (arith, k.2)) (sym k.4) (no_begin t a b lt same) in
    strand_epochs_part Strand t a k.0 b same (omega (arith, k.1)) k.2 (weaker is_join is_barrier_or_join join_either t k.0 k.3) (strand_from Strand t k.0 b (k.4 ∙ parts.0) (sym number_k ∙ parts.1))
