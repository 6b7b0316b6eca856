use Rattle.std.proofs.Common.{◌≡◌, ◌∙◌, ap, arith}
use Rattle.std.specs.Prelude.{not}
use Rattle.strand_base.specs.declared.limits.TheConstants.{CORE_ROOM}
use Rattle.strand_base.specs.Counting.{any_below}
use Rattle.strand_buffer.proofs.EntryWait.{asks_more, met_at}
use Rattle.strand_buffer.proofs.passing.is_met_by.Goals as goal

pub returns : goal.returns
returns c =
    let all : c.loop-c.c ≡ CORE_ROOM = omega (arith, c.loop-c-test.false, c.loop-c.auto.c-end) in
    ap not (c.loop-c.invariant ∙ ap (λ n. any_below n (asks_more c.args.durable.now c.args.entries.now c.args.i)) all)
    ∙ met_at c.args.durable.now c.args.entries.now c.args.i c.requires
