-- `branch::Branch::finish` meets its contract. Assumes nothing.
use Rattle.table_branch.specs.Steps.{too_many, row_written}
use Rattle.table_branch.proofs.Branch.finish.Goals as goal

pub returns-then-rows-ge-MOST_ROWS : goal.returns-then-rows-ge-MOST_ROWS
returns-then-rows-ge-MOST_ROWS c = too_many _ _ _ _ _ _ _ _ c.args.memory.now c.if-rows-ge-MOST_ROWS.true

pub returns : goal.returns
returns c = row_written _ _ _ _ _ _ _ _ c.args.memory.now _ c.if-rows-ge-MOST_ROWS.false c.cells.ensures.all c.head.ensures c.finish.ensures
