use Rattle.std.proofs.lemmas.Result.{err_from_is_err_and}
use Rattle.strand_isa.specs.Print.{instr_text}
use Rattle.strand_asm.proofs.ListText.{line_printed, print_stops}
use Rattle.strand_asm.proofs.listing.put_instr.Goals as goal

pub returns-in_err-print_instr : goal.returns-in_err-print_instr
returns-in_err-print_instr c =
    let p = err_from_is_err_and c.from_residual.result c.from_residual.ensures.1 in
    rw p.1 (print_stops c.in_err-print_instr.field-0.0 (instr_text c.args.i.now) c.args.word _ _ c.in_err-print_instr.ensures)

pub returns-then-branch : goal.returns-then-branch
returns-then-branch c = line_printed c.put.result _ (instr_text c.args.i.now) c.args.word _ _ _ c.if-branch.true c.in_ok-print_instr.ensures c.put.ensures
