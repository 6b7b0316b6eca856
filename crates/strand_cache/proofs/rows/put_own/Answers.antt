-- The row has room once the line is out of it, and the line that goes is one of the row.
use Rattle.std.proofs.Common.{◌≡◌, Some, sym, ap, ◌∙◌, arith}
use Rattle.std.specs.Prelude.{◌-◌, not, ◌==◌, slice_get}
use Rattle.strand_cache.specs.Copies.{others}
use Rattle.strand_cache.proofs.Memory.RowMembers.{length_filter, among_filter, get_among}
use Rattle.strand_cache.proofs.rows.put_own.Goals as goal

pub put-requires-clause-within : goal.put-requires-clause-within
put-requires-clause-within c = rw c.drop_line.ensures (omega (arith, length_filter (λ h. not (c.args.held.line == h.line)) c.args.row.now, c.requires.short))

pub put_line-requires : goal.put_line-requires
put_line-requires c =
    let gone : slice_get (others c.args.held.line c.args.row.now) (c.args.ways - 1) ≡ Some c.in-Some.last = ap (λ row. slice_get row (c.args.ways - 1)) (sym c.drop_line.ensures) ∙ sym c.put.ensures.last ∙ c.in-Some.is in
    let member = among_filter (λ h. not (c.args.held.line == h.line)) c.args.row.now c.in-Some.last (get_among (c.args.ways - 1) (others c.args.held.line c.args.row.now) c.in-Some.last gone) in
    c.requires.low c.in-Some.last member.0
