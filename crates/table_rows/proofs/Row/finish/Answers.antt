-- `rows::Row::finish` meets its contract. Assumes nothing.
use Rattle.std.proofs.Common.{lt-ltb, le-ltb, List, ℕ, ◌+◌, ◌*◌}
use Rattle.std.proofs.lemmas.Bool.{lt-leb, le-leb}
use Rattle.table_rows.specs.Mirror.{with_row, with_row_at}
use Rattle.table_rows.specs.Steps.{part-back}
use Rattle.table_rows.proofs.Row.finish.Goals as goal

pub returns-then-number-ge-MOST_ROWS : goal.returns-then-number-ge-MOST_ROWS
unfolding with_row_at
returns-then-number-ge-MOST_ROWS c = simp (le-ltb _ _ c.if-number-ge-MOST_ROWS.true)

pub returns-then-at-table : goal.returns-then-at-table
unfolding with_row_at
returns-then-at-table c = simp (lt-ltb _ _ c.if-number-ge-MOST_ROWS.false, lt-leb _ _ c.if-at-table.true)

pub returns : goal.returns
unfolding with_row_at
returns c = simp (lt-ltb _ _ c.if-number-ge-MOST_ROWS.false, le-leb _ _ c.if-at-table.false)
    (part-back (λ (l : List ℕ). with_row l c.args.self.now.head c.args.self.now.conditions.now c.args.self.now.store.now c.args.self.now.frame c.args.self.now.cells.now) c.args.table.now _ (64 + 1024 * c.args.number) c.if-at-table.false c.write.ensures)
