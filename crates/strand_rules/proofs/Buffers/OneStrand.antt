-- Serves clause buffers of parts_are_kept: a buffer's dispatched persists that aren't durable are of one strand.
use Rattle.std.proofs.Common.{◌≡◌, ℕ, zero, suc, ◌+◌, ◌<◌, ◌≤◌, Bool, true, ◌||◌, inl, inr, List, sym, ap, subst, ◌∙◌, arith}
use Rattle.std.specs.Prelude.{slice_index, ◌%◌, ◌==◌}
use Rattle.std.proofs.lemmas.Bool.{cases_Bool, cases_order, and_parts, or_right, eqb-true, both_ways}
use Rattle.strand_base.specs.Counting.{count_below}
use Rattle.strand_base.proofs.BelowBound.{count_yes, count_no, count_mono}
use Rattle.strand_inputs.specs.Settings.{Settings}
use Rattle.strand_inputs.specs.declared.mode.Mode.{Mode}
use Rattle.strand_inputs.specs.declared.mode.Mode.TheVariants.{Strict, Epoch, Strand}
use Rattle.strand_events.specs.declared.event.Event.{Event}
use Rattle.strand_events.specs.Trace.{is_persist, is_barrier, is_new_strand, core_at, event_is, core_event_is, strand_number}
use Rattle.strand_events.specs.Order.{set_of}
use Rattle.strand_events.proofs.PersistOrder.Epochs.{weaker}
use Rattle.strand_rules.specs.Cycle.{State, is_item, gone, buffer_of}
use Rattle.strand_rules.specs.DispatchedPersists.{IsOpen, FitBuffers}
use Rattle.strand_rules.proofs.Ranks.{rank}
use Rattle.strand_rules.proofs.PartsAreKept.{accepted_rank}
use Rattle.strand_rules.proofs.Buffers.Begin.{Begins}
use Rattle.strand_rules.proofs.Buffers.Run.{IsFit}

-- the last number below n that passes, where some do
last_yes : (n : ℕ) (f : ℕ → Bool) → 0 < count_below n f → (j : ℕ) × (j < n) × (f j ≡ true) × (count_below j f + 1 ≡ count_below n f)
last_yes zero f some = absurd (omega arith)
last_yes (suc n) f some = elim (cases_Bool (f n)) [
  | inl yes_ ↦ (n, omega arith, yes_, omega (arith, count_yes n f yes_))
  | inr no_ ↦
      let fewer : 0 < count_below n f = omega (arith, some, count_no n f no_) in
      let last = last_yes n f fewer in
      (last.0, omega (arith, last.1), last.2, omega (arith, last.3, count_no n f no_))
]

-- the begin of a strand that isn't the first
pub strand_begin : (mode : Mode) (t : List Event) (dispatched : ℕ → ℕ) (q : ℕ) → rank mode t q < dispatched (core_at t q) → 0 < strand_number mode t q
    → (j : ℕ) × Begins mode t dispatched j × (core_at t j ≡ core_at t q) × (strand_number mode t j + 1 ≡ strand_number mode t q)
strand_begin Strict t dispatched q gone some = absurd (omega arith)
strand_begin Epoch t dispatched q gone some = absurd (omega arith)
strand_begin Strand t dispatched q gone some =
    let test = core_event_is is_new_strand (core_at t q) t in
    let last = last_yes q test some in
    let j = last.0 in
    let parts = and_parts (event_is is_new_strand t j) (core_at t j == core_at t q) last.2 in
    let own : core_at t j ≡ core_at t q = eqb-true (core_at t j) (core_at t q) parts.1 in
    let fewer : count_below j (core_event_is (is_item Strand) (core_at t q) t) ≤ count_below q (core_event_is (is_item Strand) (core_at t q) t) = count_mono j q (core_event_is (is_item Strand) (core_at t q) t) (omega (arith, last.1)) in
    let below : rank Strand t j < dispatched (core_at t j) = subst (λ c. count_below j (core_event_is (is_item Strand) c t) < dispatched c) (sym own) (omega (arith, fewer, gone)) in
    let number : count_below j (core_event_is is_new_strand (core_at t j) t) + 1 ≡ count_below q test = ap (λ c. count_below j (core_event_is is_new_strand c t) + 1) own ∙ last.3 in
    (j, record { begins = parts.0; item = weaker is_new_strand (is_item Strand) (λ e h. or_right (is_persist e || is_barrier e) (is_new_strand e) h) t j parts.0; gone = below }, own, number)

-- not of an earlier strand
not_earlier : (g : Settings) (s : State) → IsFit g s → (p q : ℕ) → IsOpen g s p → IsOpen g s q → core_at s.now.trace p ≡ core_at s.now.trace q
    → buffer_of g (strand_number g.mode s.now.trace p) ≡ buffer_of g (strand_number g.mode s.now.trace q) → strand_number g.mode s.now.trace p < strand_number g.mode s.now.trace q → ⊥
not_earlier g s fit p q open_p open_q c same lt =
    let rp = accepted_rank g s p open_p.0 in
    let rq = accepted_rank g s q open_q.0 in
    let begun = strand_begin g.mode s.now.trace (slice_index s.dispatched) q rq.1 (omega (arith, lt)) in
    let done = fit.emptied p begun.0 (record { persist = rp.0; gone = rp.1 }) begun.1 (c ∙ sym begun.2) (omega (arith, lt, begun.3)) (same ∙ ap (λ n. n % g.buffers) (sym begun.3)) in
    both_ways (set_of s.durable p) open_p.1 done

pub fit_buffers : (g : Settings) (s : State) → IsFit g s → FitBuffers g s
fit_buffers g s fit = record {
  one_strand = λ p q open_p open_q c same. elim (cases_order (strand_number g.mode s.now.trace p) (strand_number g.mode s.now.trace q)) [
    | inl e ↦ e
    | inr others ↦ elim others [
      | inl lt ↦ absurd (not_earlier g s fit p q open_p open_q c same lt)
      | inr gt ↦ absurd (not_earlier g s fit q p open_q open_p (sym c) (sym same) gt)
    ]
  ];
  ring = fit.rings;
  requests = fit.requests;
}
