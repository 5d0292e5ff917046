-- `forms::name` meets its contract. Assumes nothing.
use Rattle.text_forms.specs.Laws.Seeing.{name-goes, name-fails}
use Rattle.text_forms.proofs.forms.name.Goals as goal

pub returns-in-Name : goal.returns-in-Name
returns-in-Name c = name-goes c.token-t.ensures c.in-Name.place c.in-Name.is

pub returns-in_default : goal.returns-in_default
returns-in_default c = name-fails c.token-t.ensures c.in_default.not-Name
