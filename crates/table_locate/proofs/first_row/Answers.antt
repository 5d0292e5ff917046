-- `locate::first_row` meets its contract. Assumes nothing.
use Rattle.std.proofs.Common.{◌≡◌, ℕ, true, false, rules, tests}
use Rattle.std.proofs.lemmas.Iterator.{first_from_Range}
use Rattle.table_locate.specs.Mirror.{row_holds}
use Rattle.table_locate.specs.Steps.{first_found}
use Rattle.table_locate.proofs.first_row.Goals as goal

pub returns : goal.returns
returns c = rw (← c.at_most.ensures.0) (first_found c.args.table.now c.args.values.now _ _
    (first_from_Range _ _ _ _ (λ (r : ℕ). row_holds c.args.table.now c.args.values.now r ≡ true) (λ (r : ℕ). row_holds c.args.table.now c.args.values.now r ≡ false)
    c.find.ensures.ran (λ x q k. search (rules, tests)) (λ x q k. search (rules, tests))))
