-- `rows::Row::write_head` meets its contract. Assumes nothing.
use Rattle.std.proofs.Common.{rules}
use Rattle.table_rows.specs.Mirror.{head_of}
use Rattle.table_rows.proofs.Row.write_head.Goals as goal

pub returns : goal.returns
unfolding head_of
returns c = search rules
