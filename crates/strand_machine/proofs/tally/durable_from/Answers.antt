use Rattle.std.proofs.Common.{◌∙◌, sym, arith}
use Rattle.strand_machine.proofs.DurableFrom.{durable_next, durable_here}
use Rattle.strand_machine.proofs.tally.durable_from.Goals as goal

pub loop-count-smaller : goal.loop-count-smaller
loop-count-smaller c =
    let more = durable_next c.args.durable.now c.args.numbers.now c.loop-count.count c.loop-count.invariant (sym c.is_durable.ensures ∙ c.loop-count-test.true) in
    omega (arith, more)

pub loop-count-preserved : goal.loop-count-preserved
loop-count-preserved c = durable_next c.args.durable.now c.args.numbers.now c.loop-count.count c.loop-count.invariant (sym c.is_durable.ensures ∙ c.loop-count-test.true)

pub returns : goal.returns
returns c = durable_here c.args.durable.now c.args.numbers.now c.loop-count.count c.loop-count.invariant (sym c.is_durable.ensures ∙ c.loop-count-test.false)
