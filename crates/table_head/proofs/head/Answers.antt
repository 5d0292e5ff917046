-- `head::head` meets its contract. Assumes nothing.
use Rattle.std.proofs.Common.{rules}
use Rattle.table_head.specs.Mirror.{head_in}
use Rattle.table_head.proofs.head.Goals as goal

pub returns : goal.returns
unfolding head_in
returns c = search rules
