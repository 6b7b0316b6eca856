use Rattle.std.proofs.Common.{◌≡◌, length, map, arith, sym, ap, refl, ◌∙◌}
use Rattle.std.specs.Prelude.{replicate}
use Rattle.std.proofs.lemmas.List.{length-map, length-replicate}
use Rattle.strand_exec.specs.Core.{fresh}
use Rattle.strand_events.specs.Order.{set_of}
use Rattle.strand_events.specs.Trace.{persists_of}
use Rattle.strand_rules.specs.Pipeline.{no_memory}
use Rattle.strand_rules.proofs.MachineInvariant.{IsStart, kept_start}
use Rattle.strand_rules.proofs.IsReached.{machine_reached}
use Rattle.strand_rules.proofs.pipeline.Pipeline.new.Goals as goal

pub invariant_of-result : goal.invariant_of-result
invariant_of-result c =
    let items : length c.in_ok-zeros.field-0.items ≡ length c.in_ok-cores.cores.items = ap length c.in_ok-zeros.ensures ∙ length-replicate _ _ ∙ c.len.ensures ∙ c.in_ok-cores.cores.ok.0 in
    let zeros = c.in_ok-zeros.ensures ∙ ap (λ n. replicate n 0) (c.len.ensures ∙ c.in_ok-cores.cores.ok.0) in
    let start : IsStart _ = record {
      cores = omega (arith, ap length c.in_ok-cores.ensures, length-map c.entries.result.now fresh, ap length c.entries.ensures.entries, c.entries.ensures.keeps.limits.cores_within.1);
      few_volatile = omega (arith, ap length c.volatile.ensures.volatile, c.volatile.ensures.keeps.limits.volatile_within.1);
      few_steps = omega arith;
      made = refl;
      trace = c.in_ok-new-2.ensures.empty;
      retired = c.in_ok-with_capacity.ensures.items;
      dispatched = items;
      buffered = c.in_ok-with_capacity-2.ensures.items;
      flight = c.in_ok-with_capacity-3.ensures.items;
      durable = c.in_ok-with_capacity-4.ensures.items;
    } in
    record {
      kept = kept_start _ start;
      reached = (no_memory, machine_reached _ start zeros);
      persisted = c.in_ok-with_capacity-5.ensures.items ∙ sym (ap (λ t. map (set_of c.in_ok-with_capacity-4.field-0.items) (persists_of t)) c.in_ok-new-2.ensures.empty);
      room = c.in_ok-new-2.ensures.room;
      retired_room = c.in_ok-with_capacity.ensures.capacity;
      buffered_room = c.in_ok-with_capacity-2.ensures.capacity;
      durable_room = c.in_ok-with_capacity-4.ensures.capacity;
      persisted_room = c.in_ok-with_capacity-5.ensures.capacity;
      flight_room = omega (arith, c.flight_limit.ensures, c.in_ok-with_capacity-3.ensures.capacity);
    }
