-- `locate::input_value` meets its contract. Assumes nothing.
use Rattle.std.proofs.Common.{rules}
use Rattle.table_locate.specs.Mirror.{input_value}
use Rattle.table_locate.proofs.input_value.Goals as goal

pub returns : goal.returns
unfolding input_value
returns c = search rules
