-- `locate::locate` meets its contract. Assumes nothing.
use Rattle.table_locate.specs.Mirror.{locate_in}
use Rattle.table_locate.proofs.locate.Goals as goal

pub returns : goal.returns
unfolding locate_in
returns c = rw (← c.word_at.ensures, ← c.evaluate.ensures, ← c.word_at-2.ensures) c.first_row.ensures
