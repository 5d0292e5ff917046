-- `walk` ends: the branches that are left fall at each fork. Assumes nothing.
use Rattle.std.proofs.Common.{◌-◌}
use Rattle.table_walk.proofs.+walk.Given as goal

abbrev pub decreases-walk : goal.decreases-walk
decreases-walk l = l.budgets.branches - l.from.now.branches
