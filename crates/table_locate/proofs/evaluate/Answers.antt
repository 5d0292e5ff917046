-- `locate::evaluate` meets its contract. Assumes nothing.
use Rattle.std.proofs.Common.{◌∙◌, ap, set}
use Rattle.table_locate.specs.Steps.{values_start, values_more}
use Rattle.table_locate.proofs.evaluate.Goals as goal

pub loop-k-init : goal.loop-k-init
loop-k-init c = values_start _ _ _

pub loop-k-preserved : goal.loop-k-preserved
loop-k-preserved c = ap (set c.loop-k.values c.loop-k.k) c.term_value.ensures ∙ values_more _ _ _ _ _ c.loop-k.invariant
