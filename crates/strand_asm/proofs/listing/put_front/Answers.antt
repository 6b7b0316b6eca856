use Rattle.std.proofs.lemmas.Result.{err_from_is_err_and}
use Rattle.strand_base.proofs.AppendsFront.{front_before, puts_after}
use Rattle.strand_asm.proofs.listing.put_front.Goals as goal

pub returns-in_err-put_entries-clause-text : goal.returns-in_err-put_entries-clause-text
returns-in_err-put_entries-clause-text c =
    let p = err_from_is_err_and c.from_residual.result c.from_residual.ensures.1 in
    rw (p.1, ← c.entries.ensures.entries) (front_before (_) _ _ _ c.in_err-put_entries.ensures)

pub returns-clause-text : goal.returns-clause-text
returns-clause-text c =
    rw (← c.entries.ensures.entries, ← c.symbols.ensures.symbols, ← c.code.ensures.code) (puts_after c.put_code_section.result (_) _ _ _ _ c.in_ok-put_entries.ensures c.put_code_section.ensures.text)
