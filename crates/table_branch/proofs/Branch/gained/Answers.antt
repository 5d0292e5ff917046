-- `branch::Branch::gained` meets its contract. Assumes nothing.
use Rattle.std.proofs.Common.{rules, tests}
use Rattle.table_branch.specs.Mirror.{conditions_with}
use Rattle.table_branch.proofs.Branch.gained.Goals as goal

pub returns-then-at-lt-CONDITIONS : goal.returns-then-at-lt-CONDITIONS
unfolding conditions_with
returns-then-at-lt-CONDITIONS c = search (rules, tests)

pub returns-else-at-lt-CONDITIONS : goal.returns-else-at-lt-CONDITIONS
unfolding conditions_with
returns-else-at-lt-CONDITIONS c = search (rules, tests)
