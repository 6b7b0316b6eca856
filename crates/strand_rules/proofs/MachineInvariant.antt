-- Serves clause kept of Pipeline::keeps: a step keeps what a machine keeps, which is its invariant.
use Rattle.std.proofs.Common.{◌≡◌, ℕ, ◌+◌, ◌^◌, ◌<◌, ◌≤◌, Bool, true, false, List, [], ◌∷◌, ◌++◌, length, refl, sym, ap, ◌∙◌, arith, inl, inr, length-append, length-set}
use Rattle.std.specs.Prelude.{nat_lt, Some, None, slice_set, slice_index, remove, if◌then◌else◌}
use Rattle.std.specs.declared.option.Option.{Option}
use Rattle.std.proofs.lemmas.Bool.{cases_Bool, cases_eq, ltb-true, ltb-false, true≢false}
use Rattle.std.proofs.lemmas.List.Edits.{length-remove, get_or-remove_below, get_or-remove_above}
use Rattle.strand_base.specs.declared.limits.TheConstants.{MOST_CORES, MOST_MEMORY}
use Rattle.strand_exec.specs.Core.{Core}
use Rattle.strand_events.specs.declared.event.Event.{Event}
use Rattle.strand_events.specs.Places.{LieIn}
use Rattle.strand_events.specs.Trace.{is_persist, event_is}
use Rattle.strand_events.specs.Order.{set_of}
use Rattle.strand_events.proofs.LongerTrace.{event_is_kept}
use Rattle.strand_rules.specs.Visible.{with_event}
use Rattle.strand_rules.specs.Cycle.{State, unmarked, gone, write_after}
use Rattle.strand_rules.specs.Machine.{Machine, made_to}
use Rattle.strand_rules.specs.Kept.{IsKeptMachine}
use Rattle.strand_rules.proofs.Marks.{held_unmarked, held_set, held_other}
use Rattle.strand_events.proofs.EventWithin.{event_within}

grown_length : (t : List Event) (o : Option Event) → length (with_event t o) ≤ length t + 1
grown_length t None = omega arith
grown_length t (Some e) = omega (arith, length-append t (e ∷ []))

grown_is : (t : List Event) (o : Option Event) (k : ℕ) → event_is is_persist t k ≡ true → event_is is_persist (with_event t o) k ≡ true
grown_is t None k is = is
grown_is t (Some e) k is = event_is_kept t e is_persist k (event_within is_persist t k is) ∙ is

pub marks_length : (t : List Event) (o : Option Event) (marks : List Bool) → length marks ≡ length t → length (unmarked marks o) ≡ length (with_event t o)
marks_length t None marks same = same
marks_length t (Some e) marks same = omega (arith, same, length-append t (e ∷ []), length-append marks (false ∷ []))

-- the state after core n retired an instruction that made this event, with these cores
abbrev pub retired_state : State → List Core → ℕ → Option Event → State
retired_state s cores n o = record s {
  now = record s.now { cores = cores; trace = with_event s.now.trace o };
  retired = s.retired ++ n ∷ [];
  buffered = unmarked s.buffered o;
  durable = unmarked s.durable o;
}

pub kept_core : (m : Machine) (cores : List Core) (n : ℕ) (o : Option Event) → length cores ≡ length m.state.now.cores → LieIn (with_event m.state.now.trace o) m.program.sizes.persistent
    → IsKeptMachine m → m.made < m.steps → IsKeptMachine (made_to m (retired_state m.state cores n o))
kept_core m cores n o same placed kept room = record {
  cores = omega (arith, same, kept.cores);
  few_volatile = kept.few_volatile;
  placed = placed;
  made_within = omega arith;
  few_steps = kept.few_steps;
  few_events = omega (arith, grown_length m.state.now.trace o, kept.few_events);
  few_retired = omega (arith, length-append m.state.retired (n ∷ []), kept.few_retired);
  dispatched = kept.dispatched ∙ sym same;
  buffered = marks_length m.state.now.trace o m.state.buffered kept.buffered;
  durable = marks_length m.state.now.trace o m.state.durable kept.durable;
  few_sent = kept.few_sent;
  waiting = λ k marked. grown_is m.state.now.trace o k (kept.waiting k (sym (held_unmarked m.state.buffered o k) ∙ marked));
  sent = λ i lt. grown_is m.state.now.trace o (slice_index m.state.flight i) (kept.sent i lt);
}

-- a step that moves no core
kept_moved : (m : Machine) (dispatched : List ℕ) (buffered : List Bool) (flight : List ℕ) (durable : List Bool) → IsKeptMachine m → m.made < m.steps
    → length dispatched ≡ length m.state.dispatched → length buffered ≡ length m.state.buffered → length durable ≡ length m.state.durable → length flight ≤ m.config.flight
    → ((p : ℕ) → set_of buffered p ≡ true → event_is is_persist m.state.now.trace p ≡ true)
    → ((i : ℕ) → i < length flight → event_is is_persist m.state.now.trace (slice_index flight i) ≡ true)
    → IsKeptMachine (made_to m (record m.state { dispatched = dispatched; buffered = buffered; flight = flight; durable = durable }))
kept_moved m dispatched buffered flight durable kept room d b u few waiting sent = record {
  cores = kept.cores;
  few_volatile = kept.few_volatile;
  placed = kept.placed;
  made_within = omega arith;
  few_steps = kept.few_steps;
  few_events = omega (arith, kept.few_events);
  few_retired = omega (arith, kept.few_retired);
  dispatched = d ∙ kept.dispatched;
  buffered = b ∙ kept.buffered;
  durable = u ∙ kept.durable;
  few_sent = few;
  waiting = waiting;
  sent = sent;
}

kept_marked : (s : State) (t : List Event) (k : ℕ) (b : Bool) → k < length s.buffered → (b ≡ true → event_is is_persist t k ≡ true) → ((p : ℕ) → set_of s.buffered p ≡ true → event_is is_persist t p ≡ true)
    → (p : ℕ) → set_of (slice_set s.buffered k b) p ≡ true → event_is is_persist t p ≡ true
kept_marked s t k b lt is waiting p marked = elim (cases_eq p k) [
  | inl same ↦ rw same (is (sym (held_set s.buffered k b lt) ∙ ap (set_of (slice_set s.buffered k b)) (sym same) ∙ marked))
  | inr other ↦ waiting p (sym (held_other s.buffered k b p other) ∙ marked)
]

-- core n dispatched its item k
pub kept_item : (m : Machine) (n k : ℕ) (b : Bool) → IsKeptMachine m → m.made < m.steps → k < length m.state.now.trace → event_is is_persist m.state.now.trace k ≡ b
    → IsKeptMachine (made_to m (record m.state { dispatched = slice_set m.state.dispatched n (gone m.state n + 1); buffered = if b then slice_set m.state.buffered k true else m.state.buffered }))
kept_item m n k true kept room lt is =
    kept_moved m _ _ m.state.flight m.state.durable kept room (length-set _ _ _) (length-set _ _ _) refl kept.few_sent
    (kept_marked m.state m.state.now.trace k true (omega (arith, kept.buffered)) (λ e. is) kept.waiting) kept.sent
kept_item m n k false kept room lt is =
    kept_moved m _ m.state.buffered m.state.flight m.state.durable kept room (length-set _ _ _) refl refl kept.few_sent kept.waiting kept.sent

sent_less : (t : List Event) (flight : List ℕ) (j : ℕ) → j < length flight → ((i : ℕ) → i < length flight → event_is is_persist t (slice_index flight i) ≡ true)
    → (i : ℕ) → i < length (remove flight j) → event_is is_persist t (slice_index (remove flight j) i) ≡ true
sent_less t flight j lt sent i below =
    let fewer = length-remove flight j lt in
    elim (cases_Bool (nat_lt i j)) [
      | inl yes_ ↦ rw (get_or-remove_below flight j 0 i (ltb-true i j yes_) lt) (sent i (omega (arith, fewer)))
      | inr no_ ↦ rw (get_or-remove_above flight j 0 i (ltb-false i j no_) lt) (sent (i + 1) (omega (arith, fewer)))
    ]

-- persist p, at place j of those in flight, was written
pub kept_write : (m : Machine) (j p : ℕ) → IsKeptMachine m → m.made < m.steps → j < length m.state.flight
    → IsKeptMachine (made_to m (write_after m.state j (Some p)))
kept_write m j p kept room lt =
    kept_moved m m.state.dispatched m.state.buffered _ _ kept room refl refl (length-set _ _ _) (omega (arith, length-remove m.state.flight j lt, kept.few_sent))
    kept.waiting (sent_less m.state.now.trace m.state.flight j lt kept.sent)

-- before the first step
pub record IsStart (m : Machine) : Type 0 where
  pub cores : length m.state.now.cores ≤ MOST_CORES
  pub few_volatile : m.program.sizes.volatile ≤ MOST_MEMORY
  pub few_steps : m.steps < 2 ^ 32
  pub made : m.made ≡ 0
  pub trace : m.state.now.trace ≡ []
  pub retired : m.state.retired ≡ []
  pub dispatched : length m.state.dispatched ≡ length m.state.now.cores
  pub buffered : m.state.buffered ≡ []
  pub flight : m.state.flight ≡ []
  pub durable : m.state.durable ≡ []

pub kept_start : (m : Machine) → IsStart m → IsKeptMachine m
kept_start m s = record {
  cores = s.cores;
  few_volatile = s.few_volatile;
  placed = rw s.trace (λ p is. absurd (true≢false (sym is)));
  made_within = omega (arith, s.made);
  few_steps = s.few_steps;
  few_events = rw s.trace (omega arith);
  few_retired = rw s.retired (omega arith);
  dispatched = s.dispatched;
  buffered = rw (s.buffered, s.trace) refl;
  durable = rw (s.durable, s.trace) refl;
  few_sent = rw s.flight (omega arith);
  waiting = λ p marked. absurd (true≢false (sym marked ∙ ap (λ marks. set_of marks p) s.buffered));
  sent = λ i lt. absurd (omega (arith, ap length s.flight));
}
