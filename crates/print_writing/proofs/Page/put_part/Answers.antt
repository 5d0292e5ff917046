-- `Page::put_part` meets its contract. Assumes nothing.
use Rattle.print_writing.specs.Laws.{writes_as}
use Rattle.print_writing.specs.Steps.{part_there}
use Rattle.print_writing.proofs.Page.put_part.Goals as goal

pub returns : goal.returns
returns c = writes_as (part_there _ _ _) (rw (← c.min.ensures, ← c.min-2.ensures) c.put_all.ensures)
