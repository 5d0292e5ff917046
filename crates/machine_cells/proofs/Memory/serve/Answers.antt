-- `Memory::serve` meets its contract: whatever is asked, the cells stay in order and at most 32. Assumes nothing.
use Rattle.std.proofs.Common.{◌≡◌, ◌≤◌, ℕ, List, length, Ok, ap, arith, length-take, take}
use Rattle.std.proofs.lemmas.List.{length-map}
use Rattle.gil.specs.Numbers.{most_cells}
use Rattle.gil.specs.Machine as Machine
use Rattle.machine_values.specs.Mirror.{truth_word}
use Rattle.machine_cells.specs.declared.Cell.{Cell}
use Rattle.machine_cells.specs.declared.Ask.{Ask}
use Rattle.machine_cells.specs.declared.Ask.TheVariants.{Mutate, Dispose}
use Rattle.machine_cells.specs.Mirror.{cell_of, held_in}
use Rattle.machine_cells.specs.Laws.Order.{Ordered}
use Rattle.machine_cells.specs.Laws.Served.{Tidy, left_by, stay_tidy}
use Rattle.machine_cells.proofs.Memory.serve.Goals as goal

stays : {held : ℕ} {cells : List Cell} {ds : List (Machine.Cell ℕ)} (a : Ask) → Tidy held cells → held_in held cells ≡ ds
    → Ordered (left_by a ds) × (length (left_by a ds) ≤ most_cells)
stays {held} {cells} {ds} a tidy e =
    stay_tidy a ds (rw e at tidy.order) (omega (arith, ap length e, length-map (take held cells) cell_of, length-take held cells, tidy.few))

pub returns-in-Mutate-clause-ordered : goal.returns-in-Mutate-clause-ordered
returns-in-Mutate-clause-ordered c =
    rw c.mutate.ensures.leaves (stays (Mutate c.in-Mutate.location c.in-Mutate.property c.in-Mutate.value) c.self.invariant c.self.view_is).0

pub returns-in-Mutate-clause-few : goal.returns-in-Mutate-clause-few
returns-in-Mutate-clause-few c =
    rw c.mutate.ensures.leaves (stays (Mutate c.in-Mutate.location c.in-Mutate.property c.in-Mutate.value) c.self.invariant c.self.view_is).1

pub returns-in-Dispose-clause-gives : goal.returns-in-Dispose-clause-gives
unfolding truth_word
returns-in-Dispose-clause-gives c = rw c.in-Dispose.is (ap Ok c.truth.ensures)

pub returns-in-Dispose-clause-ordered : goal.returns-in-Dispose-clause-ordered
returns-in-Dispose-clause-ordered c = rw c.dispose.ensures (stays (Dispose c.in-Dispose.location) c.self.invariant c.self.view_is).0

pub returns-in-Dispose-clause-few : goal.returns-in-Dispose-clause-few
returns-in-Dispose-clause-few c = rw c.dispose.ensures (stays (Dispose c.in-Dispose.location) c.self.invariant c.self.view_is).1
