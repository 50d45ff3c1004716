use Rattle.std.proofs.Common.{◌<◌, get_or, arith}
use Rattle.agc_word.proofs.Numerals.{next_below, sum_fits, product_fits, digit_read, all_digits-more, digits_value-more}
use Rattle.agc_word.proofs.numeral.read_digits.Goals as goal

pub overflow_mul-value : goal.overflow_mul-value
overflow_mul-value c =
    let few : c.loop-b.b-index < 19 = omega arith in
    omega (arith, product_fits c.loop-b.value c.args.base c.loop-b.b-index c.requires.base c.loop-b.invariant.below few)

pub overflow_add-value : goal.overflow_add-value
overflow_add-value c =
    let few : c.loop-b.b-index < 19 = omega arith in
    let digit = digit_read c.args.base (get_or c.args.digits.now c.loop-b.b-index 0) c.in_ok-value.field-0 c.in_ok-value.ensures in
    omega (arith, sum_fits c.loop-b.value c.args.base c.in_ok-value.field-0 c.loop-b.b-index c.requires.base digit.2 c.loop-b.invariant.below few)

pub loop-b-preserved : goal.loop-b-preserved
loop-b-preserved c =
    let digit = digit_read c.args.base (get_or c.args.digits.now c.loop-b.b-index 0) c.in_ok-value.field-0 c.in_ok-value.ensures in
    record {
      digits = all_digits-more _ _ _ c.loop-b-test.true c.loop-b.invariant.digits digit.0;
      value = rw (digits_value-more c.args.base c.args.digits.now c.loop-b.b-index c.loop-b-test.true, c.loop-b.invariant.value, digit.1);
      below = next_below _ _ _ _ digit.2 c.loop-b.invariant.below;
    }
