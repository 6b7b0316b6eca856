-- Serves persist_order_laws, each of its clauses.
-- What follows from the definitions of persist order, in its own words.
use Rattle.std.proofs.Common.{◌≡◌, ℕ, ◌<◌, ◌≤◌, ◌↔◌, Bool, true, false, ◌&&◌, inl, inr, List, [], ◌∷◌, refl, sym, ap, subst, ◌∙◌, arith}
use Rattle.std.specs.Prelude.{nat_le, not}
use Rattle.std.proofs.lemmas.Bool.{leb-true, and_parts, and_from, or_left, or_right, cases_Bool, le-leb, true≢false}
use Rattle.strand_base.specs.Counting.{count_below, any_below}
use Rattle.strand_base.proofs.BelowBound.{any_true, any_false, count_flat}
use Rattle.strand_inputs.specs.declared.mode.Mode.{Mode}
use Rattle.strand_inputs.specs.declared.mode.Mode.TheVariants.{Strict, Epoch, Strand}
use Rattle.strand_events.specs.declared.event.Event.{Event}
use Rattle.strand_events.specs.Trace.{is_access, is_persist, is_barrier, is_join, is_new_strand, is_barrier_or_join, core_at, word_at, event_is, same_strand, epoch}
use Rattle.strand_events.specs.Order.{stands_between, core_orders, Leads, Before}
use Rattle.strand_events.proofs.PersistOrder.Epochs.{either_passes, access_is_no_border, in_strand_alike, direct_parts, strand_parts, between_from, core_linked, core_joined, no_begin}
use Rattle.strand_events.proofs.PersistOrder.Images.{word_order}

leads_forward : (mode : Mode) (t : List Event) (xs : List ℕ) (a b : ℕ) → Leads mode t a xs b → a < b
leads_forward mode t [] a b leads = (direct_parts mode t a b leads).0
leads_forward mode t (x ∷ xs) a b leads = omega (arith, (direct_parts mode t a x leads.0).0, leads_forward mode t xs x b leads.1)

pub before_forward : (mode : Mode) (t : List Event) (a b : ℕ) → Before mode t a b → a < b
before_forward mode t a b before = leads_forward mode t before.0 a b before.1

leads_on : (mode : Mode) (t : List Event) (xs : List ℕ) (a b c : ℕ) → Leads mode t a xs b → Before mode t b c → Before mode t a c
leads_on mode t [] a b c leads before = (b ∷ before.0, (leads, before.1))
leads_on mode t (x ∷ xs) a b c leads before = let rest = leads_on mode t xs x b c leads.1 before in (x ∷ rest.0, (leads.0, rest.1))

pub before_chain : (mode : Mode) (t : List Event) (a b c : ℕ) → Before mode t a b → Before mode t b c → Before mode t a c
before_chain mode t a b c before after = leads_on mode t before.0 a b c before.1 after

pub words_before : (mode : Mode) (t : List Event) (p q : ℕ) → event_is is_persist t p ≡ true → event_is is_persist t q ≡ true → word_at t p ≡ word_at t q → p < q → Before mode t p q
words_before mode t p q is is' word lt = ([], word_order mode t p q is is' word lt)

-- a count that has risen has counted a number
risen : (i j : ℕ) (f : ℕ → Bool) → i ≤ j → count_below i f < count_below j f → (k : ℕ) × (i ≤ k) × (k < j) × (f k ≡ true)
risen i j f le lt = elim (cases_Bool (any_below j (λ k. nat_le i k && f k))) [
  | inl some ↦
      let found = any_true j (λ k. nat_le i k && f k) some in
      let parts = and_parts (nat_le i found.0) (f found.0) found.2 in
      (found.0, omega (arith, leb-true i found.0 parts.0), found.1, parts.1)
  | inr none ↦
      let flat = count_flat i j f le (λ k low high. ap (λ b. b && f k) (sym (le-leb i k low)) ∙ any_false j (λ k. nat_le i k && f k) none k high) in
      absurd (omega (arith, lt, flat))
]

-- where the epoch has risen from access a to event b of its strand, a barrier or join of the strand stands between
border_between : (mode : Mode) (t : List Event) (a b : ℕ) → a < b → event_is is_access t a ≡ true → same_strand mode t a b ≡ true
    → count_below a (λ k. event_is is_barrier_or_join t k && same_strand mode t k b) < count_below b (λ k. event_is is_barrier_or_join t k && same_strand mode t k b)
    → (k : ℕ) × (a < k) × (k < b) × (event_is is_barrier_or_join t k ≡ true) × (core_at t k ≡ core_at t a)
border_between mode t a b lt is same rises =
    let found = risen a b (λ k. event_is is_barrier_or_join t k && same_strand mode t k b) (omega arith) rises in
    let parts = and_parts (event_is is_barrier_or_join t found.0) (same_strand mode t found.0 b) found.3 in
    let other : found.0 ≡ a → ⊥ = λ e. access_is_no_border t a is (ap (event_is is_barrier_or_join t) (sym e) ∙ parts.0) in
    let above : a < found.0 = grind (arith, other, found.1) in
    (found.0, above, found.2, parts.0, (strand_parts mode t found.0 b parts.1).0 ∙ sym ((strand_parts mode t a b same).0))

-- a higher epoch of the strand is ordered after
ordered_by_epoch : (mode : Mode) (t : List Event) (a b : ℕ) → a < b → event_is is_access t a ≡ true → same_strand mode t a b ≡ true → epoch mode t a < epoch mode t b → core_orders mode (core_at t a) t a b ≡ true
ordered_by_epoch Strict t a b lt is same rises = refl
ordered_by_epoch Epoch t a b lt is same rises =
    let k = border_between Epoch t a b lt is same (subst (λ n. n < epoch Epoch t b) (in_strand_alike Epoch t a b a same) rises) in
    between_from is_barrier_or_join (core_at t a) t a b k.0 k.1 k.2 k.3 k.4
ordered_by_epoch Strand t a b lt is same rises =
    let k = border_between Strand t a b lt is same (subst (λ n. n < epoch Strand t b) (in_strand_alike Strand t a b a same) rises) in
    let core = core_at t a in
    let apart : Bool = stands_between is_barrier core t a b && not (stands_between is_new_strand core t a b) in
    elim (either_passes is_barrier is_join t k.0 k.3) [
      | inl barrier ↦
          or_right (stands_between is_join core t a b) apart (and_from (stands_between is_barrier core t a b) (not (stands_between is_new_strand core t a b)) (between_from is_barrier core t a b k.0 k.1 k.2 barrier k.4) (ap not (no_begin t a b lt same)))
      | inr join ↦ or_left (stands_between is_join core t a b) apart (between_from is_join core t a b k.0 k.1 k.2 join k.4)
    ]

epochs_of_order : (mode : Mode) (t : List Event) (a b : ℕ) → a < b → event_is is_access t a ≡ true → same_strand mode t a b ≡ true → core_orders mode (core_at t a) t a b ≡ true → epoch mode t a < epoch mode t b
epochs_of_order mode t a b lt is same orders = elim (core_linked mode t a b lt is ((strand_parts mode t a b same).0) orders) [ inl linked ↦ linked.1 | inr join ↦ core_joined mode t a b lt is same join ]

-- within a strand, the core orders two accesses exactly where their epochs differ
pub epochs_order : (mode : Mode) (t : List Event) (a b : ℕ) → a < b → event_is is_access t a ≡ true → same_strand mode t a b ≡ true → (core_orders mode (core_at t a) t a b ≡ true) ↔ (epoch mode t a < epoch mode t b)
epochs_order mode t a b lt is same = (epochs_of_order mode t a b lt is same, ordered_by_epoch mode t a b lt is same)

-- between strands of a core only a join orders
pub strands_join : (mode : Mode) (t : List Event) (a b : ℕ) → a < b → event_is is_access t a ≡ true → core_at t a ≡ core_at t b → same_strand mode t a b ≡ false → core_orders mode (core_at t a) t a b ≡ true → stands_between is_join (core_at t a) t a b ≡ true
strands_join mode t a b lt is core other orders = elim (core_linked mode t a b lt is core orders) [ inl linked ↦ absurd (true≢false (sym linked.0 ∙ other)) | inr join ↦ join ]
