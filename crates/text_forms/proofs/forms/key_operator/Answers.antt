-- `forms::key_operator` meets its contract. Assumes nothing.
use Rattle.text_words.specs.Mirror.Keys.{key_is}
use Rattle.gil.specs.Reading.{op_key}
use Rattle.text_forms.specs.Laws.Seeing.{op-key-none}
use Rattle.text_forms.proofs.forms.key_operator.Goals as goal

pub returns-in-And : goal.returns-in-And
unfolding op_key key_is
returns-in-And c = rw c.in-And.is

pub returns-in-Or : goal.returns-in-Or
unfolding op_key key_is
returns-in-Or c = rw c.in-Or.is

pub returns-in_default : goal.returns-in_default
returns-in_default c = op-key-none c.args.key c.in_default.not-And c.in_default.not-Or
