-- One more copy is cleaned.
use Rattle.std.proofs.Common.{◌<◌, false, [], arith}
use Rattle.std.specs.Prelude.{length, slice_index_or}
use Rattle.std.proofs.lemmas.List.{get_or_default}
use Rattle.std.proofs.lemmas.List.Edits.{map_over_more}
use Rattle.strand_cache.specs.declared.held_line.HeldLine.{HeldLine}
use Rattle.strand_cache.specs.Copies.{cleaned}
use Rattle.strand_cache.proofs.row.Row.clean.Goals as goal

pub loop-held-preserved : goal.loop-held-preserved
loop-held-preserved c =
    let xs = c.as_mut_slice-held-items.result.now in
    let ys = c.loop-held.held-items in
    let i = c.loop-held.held-index in
    let blank : HeldLine = record { line = 0; changed = false; words = [] } in
    let x = slice_index_or ys i blank in
    let lt : i < length xs = c.loop-held-test.true in
    let lt' : i < length ys = omega arith in
    rw c.cleaned.ensures (map_over_more (cleaned c.args.line) xs ys i x lt c.loop-held.invariant (get_or_default ys i blank x lt'))
