use Rattle.std.proofs.Common.{arith}
use Rattle.std.proofs.lemmas.Result.{err_from_is_err_and}
use Rattle.strand_report.specs.Cores.{reg_line}
use Rattle.strand_report.proofs.NumberedLoop.{numbered_more, numbered_stops, numbered_all}
use Rattle.strand_report.proofs.cores.put_regs.Goals as goal

pub returns-in_err-put_reg : goal.returns-in_err-put_reg
returns-in_err-put_reg c =
    let p = err_from_is_err_and c.from_residual.result c.from_residual.ensures.1 in
    rw p.1 (numbered_stops (reg_line c.args.core) c.args.regs.now c.loop-reg.reg 0 _ _ _ (omega arith) c.loop-reg.invariant c.in_err-put_reg.ensures)

pub loop-reg-preserved : goal.loop-reg-preserved
loop-reg-preserved c = numbered_more (reg_line c.args.core) c.args.regs.now c.loop-reg.reg 0 _ _ _ (omega arith) c.loop-reg.invariant c.in_ok-put_reg.ensures

pub returns : goal.returns
returns c = numbered_all (reg_line c.args.core) c.args.regs.now c.loop-reg.reg _ _ (omega arith) c.loop-reg.invariant
