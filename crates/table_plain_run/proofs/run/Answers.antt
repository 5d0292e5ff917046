-- `run::run` meets its contract. Assumes nothing.
use Rattle.table_plain_run.specs.Steps.{answers}
use Rattle.table_plain_run.proofs.run.Goals as goal

pub returns-clause-answered : goal.returns-clause-answered
returns-clause-answered c h =
    answers _ _ _ _ c.follow-stop.result _ h c.zero.ensures c.start.ensures c.start_store-store.ensures c.new-memory.ensures c.follow-stop.ensures c.cells.ensures.all
    c.head.ensures c.write.ensures
