-- `cells::insert` meets its contract: those behind the place move up at once, and past the last place nothing is carried. Assumes nothing.
use Rattle.std.proofs.Common.{sym}
use Rattle.machine_cells.specs.Laws.InUse.{carried_is, carried_all}
use Rattle.machine_cells.proofs.insert.Goals as goal

pub returns-then-at-last : goal.returns-then-at-last
returns-then-at-last c = rw c.copy_within.ensures.after (sym (carried_is c.args.at c.args.last c.args.cell c.args.cells.now c.if-at-last.true c.requires))

pub returns-else-at-last : goal.returns-else-at-last
returns-else-at-last c = sym (carried_all c.args.last c.args.at c.args.cell c.args.cells.now c.if-at-last.false)
