-- A leaf's text is written. Assumes nothing.
use Rattle.print_writing.specs.Laws.{writes_as, write_on}
use Rattle.print_values.specs.Leaves.{leaf_form}
use Rattle.print_values.proofs.leaf.LeafText.put_on.Goals as goal

pub returns-in-Number : goal.returns-in-Number
unfolding leaf_form
returns-in-Number c = rw c.in-Number.is c.put_on.ensures

pub returns-in-Truth : goal.returns-in-Truth
unfolding leaf_form
returns-in-Truth c = rw c.in-Truth.is (writes_as c.truth_text.ensures c.put_all.ensures)

pub returns-in-Location : goal.returns-in-Location
unfolding leaf_form
returns-in-Location c = rw c.in-Location.is (write_on c.put.ensures c.put_on-in-Location.ensures)

pub returns-in-Input : goal.returns-in-Input
unfolding leaf_form
returns-in-Input c = rw c.in-Input.is (write_on c.put-in-Input.ensures c.put_on-in-Input.ensures)
