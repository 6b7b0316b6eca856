use Rattle.std.proofs.Common.{ap}
use Rattle.std.proofs.lemmas.Result.{err_from_is_err_and}
use Rattle.strand_base.proofs.AppendsFront.{front_before, puts_after}
use Rattle.strand_exec.specs.Core.{Core}
use Rattle.strand_report.specs.Numbered.{numbered_texts}
use Rattle.strand_report.specs.Cores.{core_line, reg_line}
use Rattle.strand_report.proofs.cores.put_core.Goals as goal

pub returns-in_err-put_core_line : goal.returns-in_err-put_core_line
returns-in_err-put_core_line c =
    let p = err_from_is_err_and c.from_residual.result c.from_residual.ensures.1 in
    rw p.1 (front_before (core_line c.args.core c.args.state.now) (numbered_texts (reg_line c.args.core) c.args.state.now.regs) _ _ c.in_err-put_core_line.ensures)

pub returns : goal.returns
returns c = puts_after c.put_regs.result (core_line c.args.core c.args.state.now) _ _ _ _ c.in_ok-put_core_line.ensures (rw (ap (λ (s : Core). s.regs) c.state.view_is) at c.put_regs.ensures)
