-- `rows::Row::write_cells` meets its contract. Assumes nothing.
use Rattle.std.proofs.Common.{◌≡◌, ◌+◌, ◌*◌, drop}
use Rattle.gil.specs.Names.{gather}
use Rattle.lent_words.specs.Mirror.{put_words}
use Rattle.table_rows.specs.Mirror.{cell_of}
use Rattle.table_rows.proofs.Row.write_cells.Given as goal

abbrev pub invariant-loop-i : goal.invariant-loop-i
invariant-loop-i l =
    put_words l.initial.part 320 (gather cell_of l.c-items) ≡ put_words l.part (320 + 16 * l.i) (gather cell_of (drop l.i l.c-items))
