-- `put_cut` meets its contract. Assumes nothing.
use Rattle.gil.specs.Text.{bytes}
use Rattle.print_writing.specs.Laws.{writes_as}
use Rattle.print_parts.specs.Mirror.{cut_form}
use Rattle.print_parts.specs.Reads.{reason_is}
use Rattle.print_parts.proofs.put_cut.Goals as goal

pub returns-in-Steps : goal.returns-in-Steps
unfolding cut_form bytes
returns-in-Steps c = writes_as (reason_is _ _ _ c.try_from.ensures c.unwrap_or.ensures c.in-Steps.is) c.put_all.ensures

pub returns-in-Branches : goal.returns-in-Branches
unfolding cut_form bytes
returns-in-Branches c = writes_as (reason_is _ _ _ c.try_from.ensures c.unwrap_or.ensures c.in-Branches.is) c.put_all-in-Branches.ensures
