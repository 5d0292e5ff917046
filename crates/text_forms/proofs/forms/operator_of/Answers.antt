-- `forms::operator_of` meets its contract. Assumes nothing.
use Rattle.text_forms.specs.Laws.Seeing.{op-by-mark, op-by-key, op-other}
use Rattle.text_forms.proofs.forms.operator_of.Goals as goal

pub returns-in-Mark : goal.returns-in-Mark
returns-in-Mark c = λ s t e. op-by-mark _ c.mark_operator.ensures (rw c.in-Mark.is at e)

pub returns-in-Reserved : goal.returns-in-Reserved
returns-in-Reserved c = λ s t e. op-by-key _ c.key_operator.ensures (rw c.in-Reserved.is at e)

pub returns-in_default : goal.returns-in_default
returns-in_default c = λ s t e. op-other e c.in_default.not-Mark c.in_default.not-Reserved
