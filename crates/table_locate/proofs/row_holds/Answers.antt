-- `locate::row_holds` meets its contract. Assumes nothing.
use Rattle.std.proofs.Common.{refl, rules, tests}
use Rattle.std.proofs.Math.Nat.{sub-zero}
use Rattle.std.proofs.lemmas.Iterator.{YieldsList-from_range}
use Rattle.std.proofs.lemmas.Iterator.Search.{all_from_yields_List}
use Rattle.table_locate.specs.Mirror.{condition_holds}
use Rattle.table_locate.specs.Steps.{all_hold}
use Rattle.table_locate.proofs.row_holds.Goals as goal

pub returns : goal.returns
returns c = all_hold _ c.args.values.now _ c.word_at-count.ensures c.at_most.ensures.0
    (all_from_yields_List (condition_holds c.args.table.now c.args.values.now c.args.row) _ _ _ c.all.ensures.ran (YieldsList-from_range 0 _ c.at_most.result refl (sub-zero c.at_most.result)) (λ x b q k. search (rules, tests)))
