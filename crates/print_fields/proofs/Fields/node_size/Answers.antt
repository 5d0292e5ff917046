-- `Fields::node_size` meets its contract. Assumes nothing.
use Rattle.std.proofs.Common.{ℕ, ◌+◌, ◌≤◌, List, length, arith, ap, ne_eqb}
use Rattle.print_values.specs.Laws.{op_length}
use Rattle.print_values.specs.Kinds.{no_input, no_not}
use Rattle.print_values.specs.Leaves.{leaf_form}
use Rattle.print_fields.specs.Mirror.{node_size}
use Rattle.print_fields.proofs.Fields.node_size.Goals as goal

pub overflow_cast-result : goal.overflow_cast-result
overflow_cast-result c = let h : length c.op_text.result.now ≤ 5 = rw c.op_text.ensures (op_length _) in omega arith

pub overflow_add-result-in_default-2 : goal.overflow_add-result-in_default-2
overflow_add-result-in_default-2 c = let h : length c.op_text.result.now ≤ 5 = rw c.op_text.ensures (op_length _) in omega (arith, c.value_size-in_default.ensures.small)

pub overflow_add-result-in_default-3 : goal.overflow_add-result-in_default-3
overflow_add-result-in_default-3 c =
    let h : length c.op_text.result.now ≤ 5 = rw c.op_text.ensures (op_length _) in
    omega (arith, c.value_size-in_default.ensures.small, c.value_size-in_default-2.ensures.small)

pub returns-in-Input : goal.returns-in-Input
unfolding node_size leaf_form
returns-in-Input c = rw c.in-Input.is c.size.ensures.length

pub returns-in-Not : goal.returns-in-Not
unfolding node_size
returns-in-Not c = rw c.in-Not.is (ap (λ (n : ℕ). 4 + n) c.value_size.ensures.same)

pub returns-in_default : goal.returns-in_default
unfolding node_size
returns-in_default c =
    simp (ne_eqb _ _ (no_input _ c.in_default.not-Input), ne_eqb _ _ (no_not _ c.in_default.not-Not))
    (omega (arith, c.value_size-in_default.ensures.same, ap (λ (l : List ℕ). length l) c.op_text.ensures, c.value_size-in_default-2.ensures.same))
