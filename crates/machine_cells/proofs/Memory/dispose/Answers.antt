-- `Memory::dispose` meets its contract: the order is kept. Assumes nothing.
use Rattle.machine_cells.specs.Laws.Done.{removed, served}
use Rattle.machine_cells.proofs.Memory.dispose.Goals as goal

pub invariant_of-self : goal.invariant_of-self
invariant_of-self c =
    let e = c.remove-self-inside.ensures in
    (served c.self.invariant (removed c.args.l _ _ (e.kept, e.cells, e.behind) e.whole)).2
