-- Serves clause slot of StrandBuffers::eligible, by is_eligible.
-- The lowest epoch of a buffer that isn't all durable is that of its oldest entry.
use Rattle.std.proofs.Common.{◌≡◌, ℕ, ◌<◌, ◌&&◌, inl, inr, List, length, sym, ap, ◌∙◌, arith}
use Rattle.std.specs.Prelude.{nat_lt, not, ◌==◌}
use Rattle.std.proofs.lemmas.Bool.{cases_Bool, cases_eq, and_parts, and_from, ltb-true, lt-ltb, eq-eqb, ne_eqb, both_ways}
use Rattle.strand_base.proofs.BelowBound.{any_true, any_from}
use Rattle.strand_buffer.specs.declared.entry.Entry.{Entry}
use Rattle.strand_buffer.specs.Entries.{is_open, is_buffered, is_met_by, entry_is, epoch_at, epoch_waits, word_waits, is_eligible}
use Rattle.strand_buffer.specs.Ring.{IsRing}

-- an entry waits for a lower epoch exactly where its epoch isn't the oldest entry's
pub waits_lowest : (entries : List Entry) (i : ℕ) → IsRing entries → i < length entries → not (epoch_waits entries i) ≡ (epoch_at entries i == epoch_at entries 0)
waits_lowest entries i ring lt = elim (cases_Bool (epoch_waits entries i)) [
  | inl yes_ ↦
      let found = any_true (length entries) (λ h. entry_is is_open entries h && nat_lt (epoch_at entries h) (epoch_at entries i)) yes_ in
      let both = and_parts (entry_is is_open entries found.0) (nat_lt (epoch_at entries found.0) (epoch_at entries i)) found.2 in
      let less = ltb-true (epoch_at entries found.0) (epoch_at entries i) both.1 in
      let least = ring.ascending 0 found.0 (omega arith) found.1 in
      ap not yes_ ∙ sym (ne_eqb (epoch_at entries i) (epoch_at entries 0) (λ e. omega (arith, e, less, least)))
  | inr no_ ↦ ap not no_ ∙ sym (elim (cases_eq (epoch_at entries i) (epoch_at entries 0)) [
    | inl e ↦ eq-eqb (epoch_at entries i) (epoch_at entries 0) e
    | inr ne ↦
        let least = ring.ascending 0 i (omega arith) lt in
        let less : epoch_at entries 0 < epoch_at entries i = grind arith in
        absurd (both_ways (epoch_waits entries i) no_ (any_from (length entries) (λ h. entry_is is_open entries h && nat_lt (epoch_at entries h) (epoch_at entries i)) 0 (omega (arith, lt))
        (and_from (entry_is is_open entries 0) (nat_lt (epoch_at entries 0) (epoch_at entries i)) (ring.first (omega (arith, lt))) (lt-ltb (epoch_at entries 0) (epoch_at entries i) less))))
  ])
]

-- so a pass looks at the stage, the epoch, the earlier words and the wait alone
pub eligible_lowest : (durable : List ℕ) (entries : List Entry) (i : ℕ) → IsRing entries → i < length entries
    → is_eligible durable entries i ≡ (entry_is is_buffered entries i && (epoch_at entries i == epoch_at entries 0) && not (word_waits entries i) && entry_is (is_met_by durable) entries i)
eligible_lowest durable entries i ring lt = ap (λ b. entry_is is_buffered entries i && b && not (word_waits entries i) && entry_is (is_met_by durable) entries i) (waits_lowest entries i ring lt)
