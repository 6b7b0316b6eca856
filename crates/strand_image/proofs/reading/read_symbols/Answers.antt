use Rattle.std.proofs.Common.{sym, ◌∙◌}
use Rattle.strand_image.proofs.SymbolBytes.{spelt_none, spelt_more, spelt_stops, spelt_short, spelt_all, spelt_whole}
use Rattle.strand_image.proofs.reading.read_symbols.Goals as goal

pub loop-init : goal.loop-init
loop-init c = rw c.requires (spelt_none c.args.count c.args.part.now)

pub returns-in_default-clause-symbols : goal.returns-in_default-clause-symbols
returns-in_default-clause-symbols c = spelt_stops c.args.count c.args.part.now c.loop.counter c.loop.into.items c.loop.rest.now c.loop.invariant (sym c.in_default.ensures.gives)

pub returns-in_default-clause-whole : goal.returns-in_default-clause-whole
returns-in_default-clause-whole c = sym (spelt_short c.args.count c.args.part.now c.loop.counter c.loop.into.items c.loop.rest.now c.loop-test.true c.loop.invariant (sym c.in_default.ensures.gives))

pub loop-preserved : goal.loop-preserved
loop-preserved c =
    rw c.in_ok-put_symbol.ensures (spelt_more c.args.count c.args.part.now c.loop.counter c.loop.into.items c.loop.rest.now _ c.in-Some.spelt.rest.now c.loop-test.true c.loop.invariant (sym c.in-Some.ensures.gives))

pub returns : goal.returns
returns c = record {
  symbols = (spelt_all c.args.count c.args.part.now c.loop.counter c.loop.into.items c.loop.rest.now c.loop.invariant c.loop-test.false).0;
  whole = c.is_empty.ensures ∙ spelt_whole c.args.count c.args.part.now c.loop.counter c.loop.into.items c.loop.rest.now c.loop-test.false c.loop.auto.counter-end c.loop.invariant;
}
