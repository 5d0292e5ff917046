-- `forms::number` meets its contract. Assumes nothing.
use Rattle.text_forms.specs.Laws.Seeing.{number-goes, number-fails}
use Rattle.text_forms.proofs.forms.number.Goals as goal

pub returns-in-Number : goal.returns-in-Number
returns-in-Number c = number-goes c.token-t.ensures c.in-Number.n c.in-Number.is

pub returns-in_default : goal.returns-in_default
returns-in_default c = number-fails c.token-t.ensures c.in_default.not-Number
