-- Serves clause step of Machine::step at a send: whether an entry's wait is met, by what is counted of the cores.
use Rattle.std.proofs.Common.{◌≡◌, ℕ, zero, suc, ◌<◌, ◌≤◌, Bool, false, inl, inr, List, [], length, map, refl, sym, ap, ◌∙◌, arith}
use Rattle.std.specs.Prelude.{not, nat_lt, ◌==◌, slice_index}
use Rattle.std.proofs.lemmas.Bool.{cases_lt, and_parts, eqb-true, ltb-true, false_from_ne_true}
use Rattle.std.proofs.lemmas.List.{get_or_past}
use Rattle.strand_base.specs.declared.limits.TheConstants.{CORE_ROOM}
use Rattle.strand_base.specs.Counting.{list_below, any_below}
use Rattle.strand_base.proofs.BelowBound.{any_true, any_agree}
use Rattle.strand_exec.specs.Core.{Extents}
use Rattle.strand_inputs.specs.Settings.{Settings}
use Rattle.strand_inputs.specs.declared.conflict.Conflict.{Conflict}
use Rattle.strand_inputs.specs.declared.conflict.Conflict.TheVariants.{Stall, Tag}
use Rattle.strand_events.specs.declared.event.Event.{Event}
use Rattle.strand_events.specs.Trace.{is_persist, core_at, event_is, core_event_is}
use Rattle.strand_events.specs.Order.{Set, set_of}
use Rattle.strand_events.specs.Prefixes.{durable_prefix, leading}
use Rattle.strand_events.specs.Waits.{is_met, wait}
use Rattle.strand_events.proofs.Waits.Prefixes.{met_within}
use Rattle.strand_rules.specs.Cycle.{State, persist_unmet}
use Rattle.strand_tags.specs.Traces.{noted_wait}
use Rattle.strand_tags.proofs.Vectors.{each_at, none_at}
use Rattle.strand_machine.specs.Stand.{PartsSeen, Stand, Tally, no_tally, prefixes, tally_at}
use Rattle.strand_machine.proofs.Lists.Eligible.{Meets, not_not}

no_members : (n : ℕ) (test : ℕ → Bool) → ((k : ℕ) → k < n → test k ≡ false) → list_below n test ≡ []
no_members zero test none = refl
no_members (suc n) test none = let last : test n ≡ false = none n (omega arith) in rw last (no_members n test (λ k lt. none k (omega arith)))

-- of a core that isn't there no first persists are durable
none_first : (t : List Event) (durable : Set) (cores c : ℕ) → ((i : ℕ) → i < length t → core_at t i < cores) → cores ≤ c → durable_prefix t durable c ≡ 0
none_first t durable cores c owned past = ap (λ ps. leading (map durable ps)) (no_members (length t) (core_event_is is_persist c t) (λ k lt.
    false_from_ne_true (core_event_is is_persist c t k) (λ h.
    let core = eqb-true (core_at t k) c ((and_parts (event_is is_persist t k) (core_at t k == c) h).1) in
    omega (arith, core, owned k lt, past))))

module _ (g : Settings) (s : State) (x : Extents) (m : PartsSeen) (stand : Stand g x s m) (owned : (i : ℕ) → i < length s.now.trace → core_at s.now.trace i < length s.now.cores) (few : length s.now.cores ≤ CORE_ROOM) where
  -- the counts are those of the first persists that are durable, 0 for a core that isn't there
  pub prefix_at : (c : ℕ) → c < CORE_ROOM → slice_index (prefixes m) c ≡ durable_prefix s.now.trace (set_of s.durable) c
  prefix_at c lt = each_at (λ c. (tally_at m c).first) c lt ∙ (elim (cases_lt c (length s.now.cores)) [
    | inl inside ↦ (stand.tallies c inside).first
    | inr past ↦ ap (λ (t : Tally). t.first) (get_or_past m.tallies c no_tally (omega (arith, past, stand.tally_count))) ∙ sym (none_first s.now.trace (set_of s.durable) (length s.now.cores) c owned past)
  ])

  -- the buffers find the wait of an entry met where the rules do
  pub met_by_counts : Meets g s (prefixes m)
  met_by_counts p = go g.conflict
    where
      go : (conflict : Conflict) → not (any_below CORE_ROOM (λ c. nat_lt (slice_index (prefixes m) c) (slice_index (noted_wait conflict g.mode s.now.trace p) c))) ≡ not (persist_unmet conflict g.mode s.now.trace (set_of s.durable) p)
      go Stall = ap not (false_from_ne_true (any_below CORE_ROOM (λ c. nat_lt (slice_index (prefixes m) c) (slice_index (noted_wait Stall g.mode s.now.trace p) c))) (λ some.
          let found = any_true CORE_ROOM (λ c. nat_lt (slice_index (prefixes m) c) (slice_index (noted_wait Stall g.mode s.now.trace p) c)) some in
          omega (arith, ltb-true (slice_index (prefixes m) found.0) (slice_index (noted_wait Stall g.mode s.now.trace p) found.0) found.2, none_at found.0)))
      go Tag =
          ap not (any_agree CORE_ROOM (λ c. nat_lt (slice_index (prefixes m) c) (slice_index (noted_wait Tag g.mode s.now.trace p) c)) (λ c. nat_lt (durable_prefix s.now.trace (set_of s.durable) c) (wait g.mode s.now.trace c p))
          (λ c lt. cc (prefix_at c lt, each_at (λ core. wait g.mode s.now.trace core p) c lt)))
          ∙ sym (met_within g.mode s.now.trace (set_of s.durable) CORE_ROOM p (λ i lt. let core = owned i lt in omega (arith, core, few)))
          ∙ sym (not_not (is_met g.mode s.now.trace (set_of s.durable) p))
