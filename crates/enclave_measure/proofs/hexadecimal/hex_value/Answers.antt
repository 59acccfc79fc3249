use Rattle.std.proofs.Common.{◌+◌, ◌*◌, arith}
use Rattle.enclave_measure.proofs.Digits.{hex_more, below_more, below_all}
use Rattle.enclave_measure.proofs.hexadecimal.hex_value.Goals as goal

pub overflow_mul-number : goal.overflow_mul-number
overflow_mul-number c =
    let all = below_all (c.loop-digit.digit-index + 1) (16 * c.loop-digit.number + 0) (omega (arith, c.loop-digit-test.true, c.requires.few)) (below_more c.loop-digit.digit-index c.loop-digit.number 0 c.loop-digit.invariant.1 (omega arith)) in
    omega (arith, all)

pub overflow_add-number : goal.overflow_add-number
overflow_add-number c =
    let all = below_all (c.loop-digit.digit-index + 1) (16 * c.loop-digit.number + c.digit_value.result) (omega (arith, c.loop-digit-test.true, c.requires.few)) (below_more c.loop-digit.digit-index c.loop-digit.number c.digit_value.result c.loop-digit.invariant.1 c.digit_value.ensures.small) in
    omega (arith, all)

pub loop-digit-preserved : goal.loop-digit-preserved
loop-digit-preserved c =
    (hex_more c.args.digits.now c.loop-digit.digit-index c.loop-digit.number c.digit_value.result c.loop-digit-test.true c.loop-digit.invariant.0 c.digit_value.ensures.value, below_more c.loop-digit.digit-index c.loop-digit.number c.digit_value.result c.loop-digit.invariant.1 c.digit_value.ensures.small)
