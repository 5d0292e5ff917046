-- `begin` meets its contract. Assumes nothing.
use Rattle.call_given.specs.Steps.{begun_budgets, begun_lists, begun-text}
use Rattle.call_given.proofs.begin.Goals as goal

pub returns-then-budgets : goal.returns-then-budgets
returns-then-budgets c zeroed = begun_budgets _ _ c.if-budgets.true

pub returns-then-lists : goal.returns-then-lists
returns-then-lists c zeroed = begun_lists _ _ c.if-budgets.false c.if-lists.true

pub returns : goal.returns
returns c zeroed = begun-text _ _ c.if-budgets.false c.if-lists.false (c.read_program.ensures zeroed (c.new-names.ensures _))
