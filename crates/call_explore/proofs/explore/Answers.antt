-- `explore` meets its contract. Assumes nothing.
use Rattle.std.proofs.Common.{◌≡◌, refl, rules}
use Rattle.call_given.specs.Laws.{not_nought, nought}
use Rattle.call_explore.specs.Steps.{explore-refused, long, explore-explores}
use Rattle.call_explore.proofs.explore.Goals as goal

pub returns-in_err-begin : goal.returns-in_err-begin
returns-in_err-begin c =
    let same : c.from_residual.result ≡ c.begin.result = search rules in
    rw same (explore-refused _ _ _ _ _ c.wrong_budgets-budgets.ensures c.short_tables-lists.ensures (c.begin.ensures refl) (not_nought c.in_err-begin.was))

pub explore-requires : goal.explore-requires
explore-requires c = long _ _ _ c.args.table.now c.args.pool.now c.wrong_budgets-budgets.ensures c.short_tables-lists.ensures (c.begin.ensures refl) (nought c.in_ok-begin.was)

pub returns : goal.returns
returns c = explore-explores _ _ _ _ _ c.wrong_budgets-budgets.ensures c.short_tables-lists.ensures (c.begin.ensures refl) (nought c.in_ok-begin.was) c.explore.ensures
