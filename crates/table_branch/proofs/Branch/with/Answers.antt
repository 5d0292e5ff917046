-- `branch::Branch::with` meets its contract. Assumes nothing.
use Rattle.table_branch.specs.Mirror.{branch_in}
use Rattle.table_branch.proofs.Branch.with.Goals as goal

pub returns : goal.returns
unfolding branch_in
returns c = rw (← c.wrapping_add_u32.ensures.value, ← c.gained.ensures)
