use Rattle.std.proofs.Common.{ℕ, ◌++◌, ◌∷◌, [], arith}
use Rattle.std.proofs.lemmas.Result.{err_from_is_err_and}
use Rattle.strand_base.proofs.AppendsFront.{loop_more, loop_all, loop_stops}
use Rattle.strand_asm.specs.Listing.{entry_lines, entry_text}
use Rattle.strand_asm.proofs.ListText.{lines_of_map}
use Rattle.strand_asm.proofs.listing.put_entries.Goals as goal

pub returns-in_err-put_entry : goal.returns-in_err-put_entry
unfolding entry_lines
returns-in_err-put_entry c =
    let p = err_from_is_err_and c.from_residual.result c.from_residual.ensures.1 in
    rw (p.1, lines_of_map entry_text c.args.entries.now) (loop_stops (λ (n : ℕ). entry_text n ++ 10 ∷ []) c.args.entries.now c.loop-entry.entry-index 0 _ _ _ (omega arith) c.loop-entry.invariant c.in_err-put_entry.ensures)

pub loop-entry-preserved : goal.loop-entry-preserved
loop-entry-preserved c = loop_more (λ (n : ℕ). entry_text n ++ 10 ∷ []) c.args.entries.now c.loop-entry.entry-index 0 _ _ _ (omega arith) c.loop-entry.invariant c.in_ok-put_entry.ensures

pub returns : goal.returns
unfolding entry_lines
returns c = rw (lines_of_map entry_text c.args.entries.now) (loop_all (λ (n : ℕ). entry_text n ++ 10 ∷ []) c.args.entries.now c.loop-entry.entry-index _ _ (omega arith) c.loop-entry.invariant)
