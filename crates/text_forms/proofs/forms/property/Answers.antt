-- `forms::property` meets its contract. Assumes nothing.
use Rattle.text_forms.specs.Laws.Seeing.{property-goes, property-fails}
use Rattle.text_forms.proofs.forms.property.Goals as goal

pub returns-in-Property : goal.returns-in-Property
returns-in-Property c = property-goes c.token-t.ensures c.in-Property.place c.in-Property.is

pub returns-in_default : goal.returns-in_default
returns-in_default c = property-fails c.token-t.ensures c.in_default.not-Property
