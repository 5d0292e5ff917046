-- `locate::condition_holds` meets its contract. Assumes nothing.
use Rattle.std.proofs.Common.{rules}
use Rattle.table_locate.specs.Mirror.{condition_holds}
use Rattle.table_locate.proofs.condition_holds.Goals as goal

pub returns : goal.returns
unfolding condition_holds
returns c = search rules
