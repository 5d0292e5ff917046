-- `Page::put_digits` meets its contract. Assumes nothing.
use Rattle.std.proofs.Common.{sym}
use Rattle.print_writing.specs.Laws.{write_on, writes_as}
use Rattle.print_writing.specs.Steps.{digits-none, digits-few, digits_more}
use Rattle.print_writing.proofs.Page.+put_digits.Goals as goal

pub returns-then-more-eq0 : goal.returns-then-more-eq0
returns-then-more-eq0 t c = writes_as (sym (digits-none _ _ c.if-more-eq0.true)) c.put.ensures

pub returns-then-n-lt10 : goal.returns-then-n-lt10
returns-then-n-lt10 t c = writes_as (sym (digits-few _ _ c.if-more-eq0.false c.if-n-lt10.true)) c.put-then-n-lt10.ensures

pub returns : goal.returns
returns t c = writes_as (sym (digits_more _ _ c.if-more-eq0.false c.if-n-lt10.false)) (write_on c.put_digits.ensures c.put-2.ensures)
