use Rattle.std.proofs.Common.{sym, arith}
use Rattle.strand_control.proofs.controller.Controller.write.Goals as goal

pub overflow_sub-r : goal.overflow_sub-r
overflow_sub-r g c = let lies = c.requires c.args.j c.in-Some.r (sym c.in-Some.ensures) in omega (arith, lies.0)
