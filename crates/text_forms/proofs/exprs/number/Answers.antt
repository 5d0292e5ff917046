-- `exprs::number` meets its contract. Assumes nothing.
use Rattle.text_forms.specs.Steps.Stores.{near_number, far-number}
use Rattle.text_forms.proofs.exprs.number.Goals as goal

pub returns-then-n-lt-KIND-clause-words : goal.returns-then-n-lt-KIND-clause-words
returns-then-n-lt-KIND-clause-words c = (near_number _ _ _ c.if-n-lt-KIND.true c.push.ensures.next c.push.ensures.words).1

pub returns-then-n-lt-KIND-clause-next : goal.returns-then-n-lt-KIND-clause-next
returns-then-n-lt-KIND-clause-next c = (near_number _ _ _ c.if-n-lt-KIND.true c.push.ensures.next c.push.ensures.words).0

pub returns-clause-words : goal.returns-clause-words
returns-clause-words c = (far-number _ _ _ c.if-n-lt-KIND.false c.push-2.ensures.words c.push-2.ensures.next c.push-3.ensures.next c.push-3.ensures.words).1

pub returns-clause-next : goal.returns-clause-next
returns-clause-next c = (far-number _ _ _ c.if-n-lt-KIND.false c.push-2.ensures.words c.push-2.ensures.next c.push-3.ensures.next c.push-3.ensures.words).0
