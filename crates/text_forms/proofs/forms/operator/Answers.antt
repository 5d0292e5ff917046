-- `forms::operator` meets its contract. Assumes nothing.
use Rattle.text_forms.specs.Laws.Seeing.{op-goes, op-fails}
use Rattle.text_forms.proofs.forms.operator.Goals as goal

pub returns-in_err-operator : goal.returns-in_err-operator
returns-in_err-operator c = rw c.from_residual.ensures (op-fails c.token-t.ensures (λ x q. c.in_err-operator.ensures c.args.text.now x q))

pub returns : goal.returns
returns c = op-goes c.token-t.ensures c.in_ok-operator.operator (λ x q. c.in_ok-operator.ensures c.args.text.now x q)
