-- `Memory::new` meets its contract. Assumes nothing.
use Rattle.std.proofs.Common.{refl, arith}
use Rattle.machine_cells.specs.Laws.Order.{empty}
use Rattle.machine_cells.proofs.Memory.new.Goals as goal

pub invariant_of-result : goal.invariant_of-result
invariant_of-result c = record { few = omega arith; whole = refl; order = empty }
