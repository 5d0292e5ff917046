-- `Leaf::size` meets its contract. Assumes nothing.
use Rattle.std.proofs.Common.{arith}
use Rattle.print_values.specs.Leaves.{leaf_length}
use Rattle.print_values.proofs.leaf.Leaf.size.Goals as goal

pub size_of-requires : goal.size_of-requires
size_of-requires c = omega (arith, leaf_length c.args.self.now)

pub overflow_cast-result : goal.overflow_cast-result
overflow_cast-result c = omega (arith, leaf_length c.args.self.now, c.size_of.ensures)

pub returns-clause-few : goal.returns-clause-few
returns-clause-few c = omega (arith, leaf_length c.args.self.now, c.size_of.ensures)
