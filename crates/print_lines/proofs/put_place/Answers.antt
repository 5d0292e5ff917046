-- `put_place` meets its contract. Assumes nothing.
use Rattle.print_writing.specs.Laws.{write_on}
use Rattle.print_lines.specs.Mirror.{place_form}
use Rattle.print_lines.proofs.put_place.Goals as goal

pub returns : goal.returns
unfolding place_form
returns c =
    rw (← c.word.ensures, ← c.word-2.ensures, ← c.word-3.ensures)
    (write_on (write_on (write_on c.put.ensures c.put_on.ensures) (write_on c.put-2.ensures c.put_name.ensures)) (write_on c.put-3.ensures c.put_on-2.ensures))
