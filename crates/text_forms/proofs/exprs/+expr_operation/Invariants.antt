-- `exprs::expr`, `reserved` and `operation`, which call each other: the depth left falls.
use Rattle.std.specs.Prelude.{◌*◌, ◌+◌}
use Rattle.text_forms.proofs.exprs.+expr_operation.Given as goal

abbrev pub decreases-expr : goal.decreases-expr
decreases-expr l = 3 * l.depth + 1

abbrev pub decreases-reserved : goal.decreases-reserved
decreases-reserved l = 3 * l.depth

abbrev pub decreases-operation : goal.decreases-operation
decreases-operation l = 3 * l.depth + 2
