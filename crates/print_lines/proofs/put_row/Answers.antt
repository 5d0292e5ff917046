-- `put_row` meets its contract. Assumes nothing.
use Rattle.gil.specs.Printed.{line_end}
use Rattle.print_writing.specs.Laws.{write_on}
use Rattle.print_lines.specs.Mirror.{row_form}
use Rattle.print_lines.proofs.put_row.Goals as goal

pub returns : goal.returns
unfolding row_form line_end
returns c = write_on (write_on (write_on c.put_start.ensures c.put_place.ensures) (write_on c.put.ensures c.put_conditions.ensures)) c.put_all.ensures
