use Rattle.std.proofs.Common.{◌<◌, ◌∙◌, sym, ap, length, arith}
use Rattle.std.specs.Prelude.{nat_lt, slice_index}
use Rattle.std.proofs.lemmas.Bool.{lt-ltb}
use Rattle.std.proofs.lemmas.List.{get_or_default}
use Rattle.strand_base.proofs.BelowBound.{any_from}
use Rattle.strand_machine.specs.Stand.{PartsSeen, Tally, no_tally, tally_at}
use Rattle.strand_machine.proofs.parts.Parts.some_missing.Goals as goal

pub returns-then-first-counts : goal.returns-then-first-counts
returns-then-first-counts c =
    let there : c.loop-c.c < length c.self.inside.tallies.items = omega (arith, c.loop-c-test.true, c.len-c-end.ensures) in
    let first = c.first.ensures ∙ ap (λ (t : Tally). t.first) (c.index-tally.ensures ∙ get_or_default c.self.inside.tallies.items c.loop-c.c c.index-tally.result.now no_tally there) ∙ ap (λ (p : PartsSeen). (tally_at p c.loop-c.c).first) c.self.view_is in
    sym (any_from (length c.args.self.now.tallies) (λ k. nat_lt (tally_at c.args.self.now k).first (slice_index c.args.counts.now k)) c.loop-c.c (omega (arith, there, ap (λ (p : PartsSeen). length p.tallies) c.self.view_is))
    (lt-ltb (tally_at c.args.self.now c.loop-c.c).first (slice_index c.args.counts.now c.loop-c.c) (omega (arith, first, c.if-first-counts.true))))
