-- `Row::put_outcome` meets its contract. Assumes nothing.
use Rattle.gil.specs.Text.{bytes}
use Rattle.print_writing.specs.Laws.{write_on, writes_as}
use Rattle.print_parts.specs.Mirror.{outcome_form}
use Rattle.print_parts.specs.Reads.{outcome_is}
use Rattle.print_parts.proofs.Row.put_outcome.Goals as goal

pub returns-in-Returned : goal.returns-in-Returned
unfolding outcome_form bytes
returns-in-Returned c =
    rw (← c.word.ensures, ← c.word-tag.ensures, ← c.word-x.ensures)
    (writes_as (outcome_is _ _ _ _ _ _ _ c.try_from.ensures c.unwrap_or.ensures c.in-Returned.is) (write_on c.put_all.ensures c.put.ensures))

pub returns-in-Failed : goal.returns-in-Failed
unfolding outcome_form bytes
returns-in-Failed c =
    rw (← c.word.ensures, ← c.word-tag.ensures, ← c.word-x.ensures)
    (writes_as (outcome_is _ _ _ _ _ _ _ c.try_from.ensures c.unwrap_or.ensures c.in-Failed.is) (write_on c.put_all-in-Failed.ensures c.put-in-Failed.ensures))

pub returns-in-Vanished : goal.returns-in-Vanished
unfolding outcome_form bytes
returns-in-Vanished c =
    rw (← c.word.ensures, ← c.word-tag.ensures, ← c.word-x.ensures)
    (writes_as (outcome_is _ _ _ _ _ _ _ c.try_from.ensures c.unwrap_or.ensures c.in-Vanished.is) (c.put_all-in-Vanished.ensures))

pub returns-in-Error : goal.returns-in-Error
unfolding outcome_form bytes
returns-in-Error c =
    rw (← c.word.ensures, ← c.word-tag.ensures, ← c.word-x.ensures)
    (writes_as (outcome_is _ _ _ _ _ _ _ c.try_from.ensures c.unwrap_or.ensures c.in-Error.is) (write_on c.put_all-in-Error.ensures c.put_on.ensures))

pub returns-in-Cut : goal.returns-in-Cut
unfolding outcome_form bytes
returns-in-Cut c =
    rw (← c.word.ensures, ← c.word-tag.ensures, ← c.word-x.ensures)
    (writes_as (outcome_is _ _ _ _ _ _ _ c.try_from.ensures c.unwrap_or.ensures c.in-Cut.is) (c.put_cut.ensures))
