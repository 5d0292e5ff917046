-- `branch::room` meets its contract. Assumes nothing.
use Rattle.std.proofs.Common.{rules, tests}
use Rattle.table_branch.specs.Mirror.{full_in}
use Rattle.table_branch.proofs.room.Goals as goal

pub returns-in-Some : goal.returns-in-Some
unfolding full_in
returns-in-Some c = search (rules, tests)

pub returns-in_default : goal.returns-in_default
unfolding full_in
returns-in_default c = search (rules, tests)

pub returns-in_default-2 : goal.returns-in_default-2
unfolding full_in
returns-in_default-2 c = search (rules, tests)
