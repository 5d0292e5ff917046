-- `call_explore::tables::explore` meets its contract. Assumes nothing.
use Rattle.call_explore.specs.Steps.{leaves}
use Rattle.call_explore.proofs.tables.explore.Goals as goal

pub returns : goal.returns
returns c = leaves _ _ _ _ _ c.explore.ensures
