use Rattle.std.proofs.Common.{◌*◌, ◌<◌, ◌^◌, arith}
use Rattle.strand_base.proofs.DigitValues.{one_more, stops}
use Rattle.strand_base.proofs.digits.digits_value.Goals as goal

pub returns-in_err-checked_mul : goal.returns-in_err-checked_mul
returns-in_err-checked_mul c =
    let past : c.loop-digit.value * c.args.base < 2 ^ 64 → ⊥ = c.in_err-checked_mul.ensures in
    rw c.from_residual.ensures (stops c.args.base c.args.text.now c.loop-digit.digit-index c.loop-digit.value c.requires.base (omega arith) c.loop-digit.invariant.0 (λ fits. past (omega arith)))

pub returns-in_err-value : goal.returns-in_err-value
returns-in_err-value c =
    rw c.from_residual-in_err-value.ensures (stops c.args.base c.args.text.now c.loop-digit.digit-index c.loop-digit.value c.requires.base (omega arith) c.loop-digit.invariant.0 (λ fits. c.in_err-value.ensures (omega (arith, c.in_ok-checked_mul.ensures, c.digit_value.ensures))))

pub loop-digit-preserved : goal.loop-digit-preserved
loop-digit-preserved c =
    (omega (arith, one_more c.args.base c.args.text.now c.loop-digit.digit-index c.loop-digit.value (omega arith) c.loop-digit.invariant.0, c.in_ok-value.ensures, c.in_ok-checked_mul.ensures, c.digit_value.ensures), omega (arith, c.in_ok-value.ensures))
