-- `words::value` meets its contract. Assumes nothing.
use Rattle.std.proofs.Common.{sym, ◌∙◌, get_or}
use Rattle.text_words.specs.Steps.Numbers.{worth-end, worth_bad, worth-more, worth-over, digit_range}
use Rattle.text_words.proofs.words.value.Goals as goal

pub returns-then-not-is_digit : goal.returns-then-not-is_digit
returns-then-not-is_digit c = worth_bad c.args.limit c.loop-digit.n c.args.digits.now c.loop-digit.digit-index c.loop-digit-test.true (sym c.is_digit.ensures ∙ c.if-not-is_digit.true) ∙ sym c.loop-digit.invariant.1

pub overflow_sub-n : goal.overflow_sub-n
overflow_sub-n c = (digit_range (get_or c.args.digits.now c.loop-digit.digit-index 0) (sym c.is_digit.ensures ∙ c.if-not-is_digit.false)).0

pub returns-then-n-most : goal.returns-then-n-most
returns-then-n-most c = worth-over c.args.limit c.loop-digit.n c.args.digits.now c.loop-digit.digit-index c.loop-digit-test.true (sym c.is_digit.ensures ∙ c.if-not-is_digit.false) c.if-n-most.true ∙ sym c.loop-digit.invariant.1

pub loop-digit-preserved : goal.loop-digit-preserved
loop-digit-preserved c = (c.if-n-most.false, c.loop-digit.invariant.1 ∙ worth-more c.args.limit c.loop-digit.n c.args.digits.now c.loop-digit.digit-index c.loop-digit-test.true (sym c.is_digit.ensures ∙ c.if-not-is_digit.false))

pub returns : goal.returns
returns c = worth-end c.args.limit c.loop-digit.n c.args.digits.now c.loop-digit.digit-index c.loop-digit-test.false c.loop-digit.invariant.0 ∙ sym c.loop-digit.invariant.1
