-- `rows::Row::write` meets its contract. Assumes nothing.
use Rattle.lent_words.specs.Mirror.{put_words}
use Rattle.lent_words.specs.Laws.Parts.{put_parts}
use Rattle.table_rows.specs.Mirror.{held_parts, with_row}
use Rattle.table_rows.proofs.Row.write.Goals as goal

pub returns : goal.returns
unfolding with_row held_parts put_parts put_words
returns c = rw (c.write_cells.ensures, c.write_variables.ensures, c.write_conditions.ensures, c.write_head.ensures)
