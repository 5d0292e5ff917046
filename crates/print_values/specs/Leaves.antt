-- The text of a value without operands. Assumes nothing.
use Rattle.std.specs.Prelude.{ℕ, ◌≤◌, Bool, true, false, List, length}
use Rattle.std.proofs.Common.{arith}
use Rattle.gil.specs.Text.{bytes}
use Rattle.gil.specs.Printed.{decimal, truth_text}
use Rattle.print_writing.specs.Laws.{decimal-length}
use Rattle.print_values.specs.declared.leaf.Leaf.{Leaf}
use Rattle.print_values.specs.declared.leaf.Leaf.TheVariants.{Number, Truth, Location, Input}
use Rattle.print_values.specs.Mirror.{input_form, location_form}

unfoldable pub leaf_form : Leaf → List ℕ
leaf_form (Number n) = decimal n
leaf_form (Truth b) = truth_text b
leaf_form (Location k) = location_form k.0
leaf_form (Input k) = input_form k.0

truth_length : (b : Bool) → length (truth_text b) ≤ 11
unfolding truth_text bytes
truth_length true = omega arith
truth_length false = omega arith

pub leaf_length : (l : Leaf) → length (leaf_form l) ≤ 11
unfolding leaf_form
leaf_length (Number n) = omega (arith, decimal-length n)
leaf_length (Truth b) = truth_length b
leaf_length (Location k) = omega (arith, decimal-length k.0)
leaf_length (Input k) = omega (arith, decimal-length k.0)
