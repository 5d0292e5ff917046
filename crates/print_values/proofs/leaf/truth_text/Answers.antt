-- `truth_text` meets its contract. Assumes nothing.
use Rattle.std.proofs.Common.{refl}
use Rattle.gil.specs.Text.{bytes}
use Rattle.gil.specs.Printed.{truth_text}
use Rattle.print_values.proofs.leaf.truth_text.Goals as goal

pub returns-then-b : goal.returns-then-b
unfolding truth_text bytes
returns-then-b c = rw c.if-b.true refl

pub returns-else-b : goal.returns-else-b
unfolding truth_text bytes
returns-else-b c = rw c.if-b.false refl
