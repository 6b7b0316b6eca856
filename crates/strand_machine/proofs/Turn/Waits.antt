-- Serves clause step of Machine::step at a core's turn, by join_waits, must_wait and next_wait.
-- What waits, by the parts: joins by the queue and the counts, accesses by the tags, and what an access is made to wait for.
use Rattle.std.proofs.Common.{◌≡◌, ℕ, zero, suc, ◌<◌, ◌≤◌, Bool, true, false, ◌&&◌, inl, inr, List, [], ◌∷◌, ◌++◌, length, map, refl, sym, ap, ◌∙◌, arith}
use Rattle.std.specs.Prelude.{◌==◌, max, not, nat_lt, slice_index, if◌then◌else◌}
use Rattle.std.proofs.lemmas.Bool.{cases_Bool, and_parts, and_from, false_from_ne_true, true≢false, le-ltb, lt-ltb, ltb-true, ne_eqb}
use Rattle.std.proofs.lemmas.List.{get_or_past, length-map, map-append}
use Rattle.strand_base.specs.declared.limits.TheConstants.{CORE_ROOM}
use Rattle.strand_base.specs.Counting.{any_below, list_below}
use Rattle.strand_base.proofs.BelowBound.{any_agree, any_from, any_true, list_length}
use Rattle.strand_inputs.specs.Settings.{Settings}
use Rattle.strand_inputs.specs.declared.conflict.Conflict.{Conflict}
use Rattle.strand_inputs.specs.declared.conflict.Conflict.TheVariants.{Stall, Tag}
use Rattle.strand_inputs.specs.declared.mode.Mode.{Mode}
use Rattle.strand_events.specs.declared.event.Event.{Event}
use Rattle.strand_events.specs.Fits.{AllFit, EventFits}
use Rattle.strand_events.specs.Order.{Set, directly_before, set_of}
use Rattle.strand_events.specs.Prefixes.{core_persists, durable_prefix}
use Rattle.strand_events.specs.Trace.{is_access, is_persist, core_at, core_of, core_event_is, event_is}
use Rattle.strand_events.specs.Vectors.{WaitEntry, all_waits, core_waits, handed_by_conflicts, next_by_order}
use Rattle.strand_events.specs.Waits.{each_core, handed, is_met, wait}
use Rattle.strand_events.proofs.Waits.Next.{next_wait}
use Rattle.strand_events.proofs.Waits.Prefixes.{met_within}
use Rattle.strand_events.proofs.Waits.Counts.{wait_is}
use Rattle.strand_events.proofs.PersistOrder.Epochs.{direct_parts}
use Rattle.strand_events.proofs.Waits.Greatest.{max_at, max_found, max_most}
use Rattle.strand_events.proofs.TraceInvariant.{last_is}
use Rattle.strand_events.proofs.Waits.DurablePrefix.{missing_up_to}
use Rattle.strand_rules.specs.Cycle.{State, some_wait, some_unmet, join_unmet, must_wait}
use Rattle.strand_rules.proofs.Front.{any_flat}
use Rattle.strand_rules.proofs.IsReached.{reached_good}
use Rattle.strand_tags.specs.Access.{Access, Noted, conflicts_with, covered, part}
use Rattle.strand_tags.specs.WaitEntries.{wait_entry}
use Rattle.strand_tags.specs.Traces.{access_at, noted_at, noted_below, noted_wait}
use Rattle.strand_tags.proofs.ConflictWaits.{conflicts_covered}
use Rattle.strand_tags.proofs.LongerTrace.{noted_before, prefix_kept}
use Rattle.strand_tags.proofs.StandFor.{covered_push}
use Rattle.strand_tags.proofs.Vectors.{none_at, same_each}
use Rattle.strand_tags.proofs.Waits.{alike, waits_alike}
use Rattle.strand_machine.specs.Machine.{IsRingMachine, IsCovered, PartsStand, RingMachine, some_missing}
use Rattle.strand_machine.specs.Stand.{tally_at}

pub all_fit_more : (t : List Event) (e : Event) → AllFit t → EventFits e → AllFit (t ++ e ∷ [])
all_fit_more [] e all fits = (fits, tt)
all_fit_more (x ∷ t) e all fits = (all.0, all_fit_more t e all.1 fits)

-- what adds nothing for a core covers nothing of it
covered_none : (c : ℕ) (b : Access) (f : ℕ → Noted) (n : ℕ) (test : ℕ → Bool) → ((k : ℕ) → k < n → part c b (f k) ≡ 0) → covered c b (map f (list_below n test)) ≡ 0
covered_none c b f zero test none = refl
covered_none c b f (suc n) test none =
    let rest = covered_none c b f n test (λ k lt. none k (omega (arith, lt))) in
    let last = none n (omega arith) in
    elim (cases_Bool (test n)) [
      | inl yes_ ↦ rw (yes_, map-append f (list_below n test) (n ∷ []), covered_push c b (map f (list_below n test)) (f n)) (omega (arith, rest, last))
      | inr no_ ↦ rw no_ rest
    ]

-- where accesses stall, an access adds nothing for another core
stalled_none : (mode : Mode) (t : List Event) (c : ℕ) (b : Access) (k : ℕ) → (core_at t k ≡ c → ⊥) → part c b (noted_at Stall mode t k) ≡ 0
stalled_none mode t c b k other = elim (cases_Bool (conflicts_with (access_at mode t k) b)) [
  | inl yes_ ↦ rw (ne_eqb (core_at t k) c other, yes_, none_at c) (omega arith)
  | inr no_ ↦ rw (ne_eqb (core_at t k) c other, no_) (omega arith)
]

-- The wait of an event that is no access is of no persists.
no_wait : (mode : Mode) (t : List Event) (e : Event) (c : ℕ) → is_access e ≡ false → wait mode (t ++ e ∷ []) c (length t) ≡ 0
no_wait mode t e c no_ =
    let u : List Event = t ++ e ∷ [] in
    let most = max_most (length t) (handed mode u (wait mode u c) c (length t)) 0 (λ a lt.
    let apart : directly_before mode u a (length t) ≡ false = false_from_ne_true (directly_before mode u a (length t)) (λ on. true≢false (sym ((direct_parts mode u a (length t) on).2) ∙ last_is is_access t e ∙ no_)) in
    rw apart (omega arith)) in
    omega (arith, wait_is mode u c (length t), most)

pub no_wait_noted : (conflict : Conflict) (mode : Mode) (t : List Event) (e : Event) → conflict ≡ Tag → is_access e ≡ false → each_core (λ c. 0) ≡ noted_wait conflict mode (t ++ e ∷ []) (length t)
no_wait_noted conflict mode t e tag no_ = same_each (λ c. 0) (λ c. wait mode (t ++ e ∷ []) c (length t)) (λ c. sym (no_wait mode t e c no_)) ∙ ap (λ k. noted_wait k mode (t ++ e ∷ []) (length t)) (sym tag)

-- The wait of some access of core n isn't met where the greatest of them counts, of some core, more persists than lead.
module _ (mode : Mode) (t : List Event) (durable : Set) (cores n : ℕ) (owned : (i : ℕ) → i < length t → core_at t i < cores) where
  -- of core c, access a waits for more than lead
  abbrev is_over : ℕ → ℕ → Bool
  is_over a c = nat_lt (durable_prefix t durable c) (wait mode t c a)

  abbrev own : ℕ → Bool
  own = core_event_is is_access n t

  abbrev own_wait : ℕ → ℕ → ℕ
  own_wait c a = if own a && true then wait mode t c a else 0

  waits_on : (c a : ℕ) → own a ≡ true → own_wait c a ≡ wait mode t c a
  waits_on c a yes_ = rw yes_ refl

  unmet : (a : ℕ) → not (is_met mode t durable a) ≡ any_below cores (is_over a)
  unmet a = ap not (met_within mode t durable cores a owned) ∙ twice (any_below cores (is_over a))
    where
      twice : (b : Bool) → not (not b) ≡ b
      twice true = refl
      twice false = refl

  unmet_from : any_below cores (λ c. nat_lt (durable_prefix t durable c) (all_waits mode t c n)) ≡ true → some_unmet mode t durable n ≡ true
  unmet_from some =
      let core = any_true cores (λ c. nat_lt (durable_prefix t durable c) (all_waits mode t c n)) some in
      let c : ℕ = core.0 in
      let found = max_found (length t) (own_wait c) (durable_prefix t durable c) (ltb-true (durable_prefix t durable c) (all_waits mode t c n) core.2) in
      let a : ℕ = found.0 in
      elim (cases_Bool (own a)) [
        | inl yes_ ↦
            let over : is_over a c ≡ true = lt-ltb (durable_prefix t durable c) (wait mode t c a) (omega (arith, found.2, waits_on c a yes_)) in
            any_from (length t) (λ a. own a && not (is_met mode t durable a)) a found.1 (and_from (own a) (not (is_met mode t durable a)) yes_ (unmet a ∙ any_from cores (is_over a) c core.1 over))
        | inr no_ ↦
            let none : own_wait c a ≡ 0 = rw no_ refl in
            absurd (omega (arith, found.2, none))
      ]

  unmet_to : some_unmet mode t durable n ≡ true → any_below cores (λ c. nat_lt (durable_prefix t durable c) (all_waits mode t c n)) ≡ true
  unmet_to some =
      let found = any_true (length t) (λ a. own a && not (is_met mode t durable a)) some in
      let a : ℕ = found.0 in
      let parts = and_parts (own a) (not (is_met mode t durable a)) found.2 in
      let core = any_true cores (is_over a) (sym (unmet a) ∙ parts.1) in
      let c : ℕ = core.0 in
      let less = ltb-true (durable_prefix t durable c) (wait mode t c a) core.2 in
      let most = max_at (length t) (own_wait c) a found.1 in
      let more : durable_prefix t durable c < all_waits mode t c n = omega (arith, less, most, waits_on c a parts.0) in
      any_from cores (λ c. nat_lt (durable_prefix t durable c) (all_waits mode t c n)) c core.1 (lt-ltb (durable_prefix t durable c) (all_waits mode t c n) more)

  unmet_alike : any_below cores (λ c. nat_lt (durable_prefix t durable c) (all_waits mode t c n)) ≡ some_unmet mode t durable n
  unmet_alike = alike (any_below cores (λ c. nat_lt (durable_prefix t durable c) (all_waits mode t c n))) (some_unmet mode t durable n) unmet_from unmet_to

-- whether more is asked for than leads, by what is counted
pub missing_by_counts : (r : RingMachine) → PartsStand r → (counts : List ℕ)
    → any_below (length r.parts.tallies) (λ c. nat_lt (tally_at r.parts c).first (slice_index counts c)) ≡ some_missing r.machine.state counts
missing_by_counts r stand counts =
    let s = r.machine.state in
    let test : ℕ → Bool = λ c. nat_lt (durable_prefix s.now.trace (set_of s.durable) c) (slice_index counts c) in
    any_agree (length r.parts.tallies) (λ c. nat_lt (tally_at r.parts c).first (slice_index counts c)) test (λ c lt. ap (λ k. nat_lt k (slice_index counts c)) ((stand.tallies c (omega (arith, lt, stand.tally_count))).first))
    ∙ ap (λ k. any_below k test) stand.tally_count

module _ (r : RingMachine) (holds : IsRingMachine r) where
  abbrev g : Settings
  g = r.machine.config

  abbrev s : State
  s = r.machine.state

  abbrev t : List Event
  t = s.now.trace

  -- each event of the trace is of a core that there is
  owned : (i : ℕ) → i < length t → core_at t i < length s.now.cores
  owned = (reached_good g r.machine.program s holds.reached).owned

  -- some persist of a core isn't durable where fewer lead than it made
  pub some_by_counts : (n : ℕ) → n < length r.machine.state.now.cores
      → some_wait r.machine.state.now.trace (set_of r.machine.state.durable) n (length r.machine.state.now.trace) ≡ nat_lt (tally_at r.parts n).first (length (tally_at r.parts n).numbers)
  some_by_counts n core =
      let tally = holds.stand.tallies n core in
      let made : length (tally_at r.parts n).numbers ≡ length (core_persists t n) = ap length tally.numbers ∙ length-map (core_persists t n) _ in
      missing_up_to (core_event_is is_persist n t) (set_of s.durable) (length t) (length t) (omega arith)
      ∙ cc (tally.first, made, list_length (length t) (core_event_is is_persist n t))

  -- under tag, the wait of some access of a core isn't met where fewer persists of some core lead than its greatest waits ask for
  pub unmet_by_counts : (n : ℕ) → r.machine.config.conflict ≡ Tag → n < length r.machine.state.now.cores
      → some_missing r.machine.state (tally_at r.parts n).waits.all.counts ≡ join_unmet r.machine.config.conflict r.machine.config.mode r.machine.state.now.trace (set_of r.machine.state.durable) n
  unmet_by_counts n tag core =
      any_agree (length s.now.cores) (λ c. nat_lt (durable_prefix t (set_of s.durable) c) (slice_index (tally_at r.parts n).waits.all.counts c)) (λ c. nat_lt (durable_prefix t (set_of s.durable) c) (all_waits g.mode t c n))
      (λ c lt. ap (λ (w : WaitEntry). nat_lt (durable_prefix t (set_of s.durable) c) w.all) ((holds.stand.tallies n core).waits tag c (omega (arith, lt, holds.kept.cores))))
      ∙ unmet_alike g.mode t (set_of s.durable) (length s.now.cores) n owned
      ∙ ap (λ k. join_unmet k g.mode t (set_of s.durable) n) (sym tag)

  module _ (e : Event) (access : is_access e ≡ true) (counts : List ℕ) (covers : IsCovered r e counts) where
    abbrev t' : List Event
    t' = r.machine.state.now.trace ++ e ∷ []

    counts_at : (conflict : Conflict) → g.conflict ≡ conflict → (c : ℕ) → c < CORE_ROOM → slice_index counts c ≡ covered c (access_at g.mode t' (length t)) (noted_below conflict g.mode t' (length t))
    counts_at conflict is c lt = covers c lt ∙ ap (λ k. covered c (access_at g.mode t' (length t)) (noted_below k g.mode t' (length t))) is

    -- where accesses stall
    module _ (stall : r.machine.config.conflict ≡ Stall) (fits : AllFit (r.machine.state.now.trace ++ e ∷ [])) where
      undone : set_of s.durable (length t) ≡ false
      undone = get_or_past s.durable (length t) false (omega (arith, holds.kept.durable))

      abbrev test : ℕ → Bool
      test c = nat_lt (durable_prefix t (set_of s.durable) c) (slice_index counts c)

      abbrev eight : ℕ → Bool
      eight c = nat_lt (durable_prefix t' (set_of s.durable) c) (covered c (access_at g.mode t' (length t)) (noted_below Stall g.mode t' (length t)))

      alike_at : (c : ℕ) → c < length s.now.cores → test c ≡ eight c
      alike_at c lt =
          ap (λ k. nat_lt k (slice_index counts c)) (sym (prefix_kept t e (set_of s.durable) c undone))
          ∙ ap (nat_lt (durable_prefix t' (set_of s.durable) c)) (counts_at Stall stall c (omega (arith, lt, holds.kept.cores)))

      -- no access is of a core that isn't there
      past_none : (c : ℕ) → length s.now.cores ≤ c → c < CORE_ROOM → eight c ≡ false
      past_none c le lt =
          let none = covered_none c (access_at g.mode t' (length t)) (noted_at Stall g.mode t) (length t) (event_is is_access t)
          (λ k inside. stalled_none g.mode t c (access_at g.mode t' (length t)) k (λ is. omega (arith, owned k inside, is, le))) in
          let same = ap (covered c (access_at g.mode t' (length t))) (noted_before t e Stall g.mode) in
          le-ltb (durable_prefix t' (set_of s.durable) c) (covered c (access_at g.mode t' (length t)) (noted_below Stall g.mode t' (length t))) (omega (arith, none, same))

      pub must_by_counts : some_missing r.machine.state counts ≡ must_wait r.machine.config.mode (r.machine.state.now.trace ++ e ∷ []) (set_of r.machine.state.durable) (length r.machine.state.now.trace)
      must_by_counts =
          any_agree (length s.now.cores) test eight alike_at
          ∙ sym (any_flat (length s.now.cores) CORE_ROOM eight (omega (arith, holds.kept.cores)) past_none)
          ∙ sym (waits_alike g.mode t' (set_of s.durable) (length t) (last_is is_access t e ∙ access) fits)

    -- where they are tagged, with what the order of the core hands on
    pub wait_by_counts : r.machine.config.conflict ≡ Tag → (n : ℕ) → core_of e ≡ n → n < length r.machine.state.now.cores → (c : ℕ) → c < CORE_ROOM
        → max (slice_index counts c) (next_by_order r.machine.config.mode (c == n) (wait_entry (tally_at r.parts n).waits c)) ≡ wait r.machine.config.mode (r.machine.state.now.trace ++ e ∷ []) c (length r.machine.state.now.trace)
    wait_by_counts tag n own core c lt =
        let conflicts : slice_index counts c ≡ handed_by_conflicts g.mode t' c (length t) = counts_at Tag tag c lt ∙ sym (conflicts_covered g.mode t' (length t) c (last_is is_access t e ∙ access) lt) in
        ap (λ k. max k (next_by_order g.mode (c == n) (wait_entry (tally_at r.parts n).waits c))) conflicts
        ∙ ap (λ w. max (handed_by_conflicts g.mode t' c (length t)) (next_by_order g.mode (c == n) w)) ((holds.stand.tallies n core).waits tag c lt)
        ∙ ap (λ k. max (handed_by_conflicts g.mode t' c (length t)) (next_by_order g.mode (c == k) (core_waits g.mode t c k))) (sym own)
        ∙ sym (next_wait t e g.mode c access)
