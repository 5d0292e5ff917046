-- `cells::search` meets its contract: the closure compares a cell with the place sought, and the cells are in order. Assumes nothing.
use Rattle.std.proofs.Common.{rules}
use Rattle.std.proofs.lemmas.Fn.{always_returns_same}
use Rattle.machine_cells.specs.Mirror.{against}
use Rattle.machine_cells.specs.Laws.Searched.{searched, ends}
use Rattle.machine_cells.proofs.search.Goals as goal

pub returns-clause-found : goal.returns-clause-found
returns-clause-found c =
    let facts = c.binary_search_by.ensures in
    let by_order = facts.position (against c.args.l.0 c.args.q) (always_returns_same _ _ _ (λ a r f' called. (search rules, search rules))) in
    searched c.args.l.0 c.args.q _ c.requires _ facts.bound by_order

pub returns-clause-ends : goal.returns-clause-ends
returns-clause-ends c =
    let facts = c.binary_search_by.ensures in
    let by_order = facts.position (against c.args.l.0 c.args.q) (always_returns_same _ _ _ (λ a r f' called. (search rules, search rules))) in
    ends c.args.l.0 c.args.q _ c.requires _ facts.bound by_order
