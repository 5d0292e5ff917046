-- `Row::word` meets its contract. Assumes nothing.
use Rattle.print_parts.specs.Mirror.{row_word}
use Rattle.print_parts.proofs.Row.word.Goals as goal

pub returns : goal.returns
unfolding row_word
returns c = c.word_at.ensures
