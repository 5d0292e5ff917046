-- `locate::op_value` meets its contract. Assumes nothing.
use Rattle.std.proofs.Common.{rules, tests}
use Rattle.table_locate.specs.Mirror.{op_value}
use Rattle.table_locate.proofs.op_value.Goals as goal

pub returns-then-kind : goal.returns-then-kind
unfolding op_value
returns-then-kind c = search (rules, tests)

pub returns-then-kind-2 : goal.returns-then-kind-2
unfolding op_value
returns-then-kind-2 c = search (rules, tests)

pub returns : goal.returns
unfolding op_value
returns c = search (rules, tests)
