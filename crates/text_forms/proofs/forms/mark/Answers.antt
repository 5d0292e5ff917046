-- `forms::mark` meets its contract. Assumes nothing.
use Rattle.text_forms.specs.Laws.Seeing.{mark-reads}
use Rattle.text_forms.proofs.forms.mark.Goals as goal

pub returns : goal.returns
returns c = mark-reads c.args.b c.past_mark.ensures
