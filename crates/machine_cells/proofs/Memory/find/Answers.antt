-- `Memory::find` meets its contract: the cells in use are in order. Assumes nothing.
use Rattle.machine_cells.proofs.Memory.find.Goals as goal

pub search-requires : goal.search-requires
search-requires c = c.self.invariant.order

pub returns : goal.returns
returns c = rw (← c.self.view_is) c.search.ensures.found
