-- `Memory::mutate` meets its contract. Assumes nothing.
use Rattle.std.proofs.Common.{Ok, ◌∙◌, ap}
use Rattle.machine_values.specs.Mirror.{truth_word}
use Rattle.machine_cells.specs.Laws.Done.{over, between, served}
use Rattle.machine_cells.proofs.Memory.mutate.Goals as goal
use Rattle.machine_cells.proofs.Memory.mutate.Goals.{in-Ok, in-Err+else-self-eq-CELLS}

pub invariant_of-self : goal.invariant_of-self
invariant_of-self c = (served c.self.invariant (over c.args.cell c.in-Ok.at (rw c.self.view_is c.in-Ok.ensures))).2

pub invariant_of-self-in-Err : goal.invariant_of-self-in-Err
invariant_of-self-in-Err c =
    rw c.insert.ensures (served c.self.invariant (between c.args.cell c.in-Err.at (rw c.self.view_is c.in-Err.ensures) c.if-self-eq-CELLS.false)).2

pub returns-clause-gives : goal.returns-clause-gives
unfolding truth_word
returns-clause-gives c =
    elim c.match-find.branch [
      | in-Ok w ↦
          rw (← c.self.view_is)
          (ap Ok c.truth.ensures ∙ (served c.self.invariant (over c.args.cell w.in-Ok.at (rw c.self.view_is w.in-Ok.ensures))).0)
      | in-Err+else-self-eq-CELLS w ↦
          rw (← c.self.view_is)
          (ap Ok c.truth.ensures
          ∙ (served c.self.invariant (between c.args.cell w.in-Err.at (rw c.self.view_is w.in-Err.ensures) w.if-self-eq-CELLS.false)).0)
    ]

pub returns-clause-leaves : goal.returns-clause-leaves
returns-clause-leaves c =
    elim c.match-find.branch [
      | in-Ok w ↦ rw (w.self-is, ← c.self.view_is) (served c.self.invariant (over c.args.cell w.in-Ok.at (rw c.self.view_is w.in-Ok.ensures))).1
      | in-Err+else-self-eq-CELLS w ↦
          rw (w.self-is, ← c.self.view_is)
          (rw w.insert.ensures (served c.self.invariant (between c.args.cell w.in-Err.at (rw c.self.view_is w.in-Err.ensures) w.if-self-eq-CELLS.false)).1)
    ]
