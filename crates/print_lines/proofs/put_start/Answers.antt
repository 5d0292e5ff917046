-- `put_start` meets its contract. Assumes nothing.
use Rattle.print_writing.specs.Laws.{write_on}
use Rattle.print_lines.specs.Mirror.{start_form}
use Rattle.print_lines.proofs.put_start.Goals as goal

pub returns : goal.returns
unfolding start_form
returns c = write_on c.put_on.ensures (write_on c.put.ensures c.put_outcome.ensures)
