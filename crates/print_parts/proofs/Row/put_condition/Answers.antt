-- `Row::put_condition` meets its contract. Assumes nothing.
use Rattle.print_writing.specs.Laws.{write_on}
use Rattle.print_parts.specs.Mirror.{condition_form}
use Rattle.print_parts.proofs.Row.put_condition.Goals as goal

pub returns : goal.returns
unfolding condition_form
returns c = rw (← c.word-k.ensures, ← c.word.ensures) (write_on c.put_unless.ensures c.put.ensures)
