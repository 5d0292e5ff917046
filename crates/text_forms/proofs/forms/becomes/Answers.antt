-- `forms::becomes` meets its contract. Assumes nothing.
use Rattle.text_forms.specs.Laws.Seeing.{becomes-goes, becomes-fails}
use Rattle.text_forms.proofs.forms.becomes.Goals as goal

pub returns-in-Becomes : goal.returns-in-Becomes
returns-in-Becomes c = becomes-goes c.token-t.ensures c.in-Becomes.is

pub returns-in_default : goal.returns-in_default
returns-in_default c = becomes-fails c.token-t.ensures c.in_default.not-Becomes
