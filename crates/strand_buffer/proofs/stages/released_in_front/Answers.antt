use Rattle.std.proofs.Common.{◌≡◌, ◌+◌, suc, ◌∙◌, sym, ap, drop, arith}
use Rattle.strand_buffer.specs.Entries.{trimmed}
use Rattle.strand_buffer.proofs.EntryStages.{trim_past, trim_here}
use Rattle.strand_buffer.proofs.stages.released_in_front.Goals as goal

pub loop-count-preserved : goal.loop-count-preserved
loop-count-preserved c =
    let one : c.loop-count.count + 1 ≡ suc c.loop-count.count = omega arith in
    record {
      same = ap (λ k. trimmed (drop k c.args.entries.now)) one ∙ trim_past c.args.entries.now c.loop-count.count c.loop-count-test.true (sym c.is_open.ensures ∙ c.if-not-is_open.true) ∙ c.loop-count.invariant.same;
      within = omega arith;
    }

pub returns-else-not-is_open-clause-rest : goal.returns-else-not-is_open-clause-rest
returns-else-not-is_open-clause-rest c = sym (trim_here c.args.entries.now c.loop-count.count (sym c.is_open.ensures ∙ c.if-not-is_open.false)) ∙ c.loop-count.invariant.same
