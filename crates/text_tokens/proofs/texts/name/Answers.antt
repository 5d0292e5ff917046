-- `texts::name` meets its contract: a name is a part of the text. Assumes nothing.
use Rattle.text_tokens.specs.Mirror.Seen.{name_at}
use Rattle.text_tokens.proofs.texts.name.Goals as goal

pub returns : goal.returns
unfolding name_at
returns c = c.part.ensures
