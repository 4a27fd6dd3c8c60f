use Rattle.std.proofs.Common.{◌∙◌}
use Rattle.sw_app_rmap.proofs.Digits.{all_read, next_digit, no_digit, product_fits, sum_fits, too_large}
use Rattle.sw_app_rmap.proofs.words.digits_of.Goals as goal

pub returns-in_err-digit-clause-value : goal.returns-in_err-digit-clause-value
returns-in_err-digit-clause-value c =
    c.from_residual.ensures
    ∙ no_digit c.args.base c.args.limit c.loop-c.value c.loop-c.c-index c.from.result 0 c.args.digits.now c.loop-c-test.true c.from.ensures c.loop-c.invariant.same c.in_err-digit.ensures.value

pub returns-then-value-limit-clause-value : goal.returns-then-value-limit-clause-value
returns-then-value-limit-clause-value c =
    too_large c.args.base c.args.limit c.loop-c.value c.loop-c.c-index c.from.result 0 c.args.digits.now c.loop-c-test.true c.from.ensures c.loop-c.invariant.same c.from-in-loop-c.result c.from-in-loop-c-2.result
    c.from-in-loop-c.ensures (c.from-in-loop-c-2.ensures ∙ c.in_ok-digit.ensures.value.1) c.if-value-limit.true

pub loop-c-preserved : goal.loop-c-preserved
loop-c-preserved c =
    record {
      same =
          next_digit c.args.base c.args.limit c.loop-c.value c.loop-c.c-index c.from.result 0 c.args.digits.now c.loop-c-test.true c.from.ensures c.loop-c.invariant.same c.from-in-loop-c.result c.from-in-loop-c-2.result
          c.from-in-loop-c.ensures (c.from-in-loop-c-2.ensures ∙ c.in_ok-digit.ensures.value.1) c.in_ok-digit.ensures.value.0 c.if-value-limit.false;
      low = c.if-value-limit.false;
    }

pub returns-clause-value : goal.returns-clause-value
returns-clause-value c =
    all_read c.args.base c.args.limit c.loop-c.value c.loop-c.c-index c.args.digits.now c.is_empty.result c.is_empty.ensures c.if-is_empty.false c.loop-c-test.false c.loop-c.invariant.same

pub overflow_mul-value : goal.overflow_mul-value
overflow_mul-value c = product_fits c.from-in-loop-c.result c.args.base c.loop-c.value c.args.limit c.from-in-loop-c.ensures c.requires.high c.loop-c.invariant.low c.requires.limit

pub overflow_add-value : goal.overflow_add-value
overflow_add-value c =
    sum_fits c.from-in-loop-c.result c.args.base c.loop-c.value c.args.limit c.from-in-loop-c-2.result _ c.from-in-loop-c.ensures c.requires.high c.loop-c.invariant.low c.requires.limit
    (c.from-in-loop-c-2.ensures ∙ c.in_ok-digit.ensures.value.1) c.in_ok-digit.ensures.value.0
