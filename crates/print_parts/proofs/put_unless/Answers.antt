-- `put_unless` meets its contract. Assumes nothing.
use Rattle.std.proofs.Common.{ne_eqb}
use Rattle.gil.specs.Text.{bytes}
use Rattle.print_writing.specs.Laws.{write_none}
use Rattle.print_parts.specs.Mirror.{unless_form}
use Rattle.print_parts.proofs.put_unless.Goals as goal

pub returns-then-truth-eq0 : goal.returns-then-truth-eq0
unfolding unless_form bytes
returns-then-truth-eq0 c = rw c.if-truth-eq0.true c.put_all.ensures

pub returns-else-truth-eq0 : goal.returns-else-truth-eq0
unfolding unless_form
returns-else-truth-eq0 c = simp (ne_eqb _ _ c.if-truth-eq0.false) (write_none _)
