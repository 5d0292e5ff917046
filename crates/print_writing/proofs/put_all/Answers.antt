-- `put_all` meets its contract. Assumes nothing.
use Rattle.print_writing.specs.Laws.{wrote_none}
use Rattle.print_writing.specs.Steps.{byte_more}
use Rattle.print_writing.proofs.put_all.Goals as goal

pub loop-x-init : goal.loop-x-init
loop-x-init c = wrote_none _ _

pub loop-x-preserved : goal.loop-x-preserved
loop-x-preserved c = byte_more _ _ c.loop-x-test.true c.loop-x.invariant c.put-place.ensures
