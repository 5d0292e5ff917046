-- `evaluate::operand` and `evaluate::operator` end: each of the two calls the other with less depth left. Assumes nothing.
use Rattle.std.proofs.Common.{◌+◌}
use Rattle.machine_evaluate.proofs.+operand_operator.Given as goal

abbrev pub decreases-operand : goal.decreases-operand
decreases-operand l = l.depth + l.depth + 1

abbrev pub decreases-operator : goal.decreases-operator
decreases-operator l = l.depth + l.depth
