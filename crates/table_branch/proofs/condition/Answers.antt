-- `branch::condition` meets its contract. Assumes nothing.
use Rattle.std.proofs.Common.{◌∙◌}
use Rattle.table_branch.specs.Mirror.{condition_on}
use Rattle.table_branch.proofs.condition.Goals as goal

pub returns : goal.returns
unfolding condition_on
returns c = c.wrapping_add_u32-2.ensures.value ∙ rw c.wrapping_add_u32.ensures.value
