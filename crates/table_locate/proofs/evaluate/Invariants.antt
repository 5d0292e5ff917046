-- `locate::evaluate` meets its contract. Assumes nothing.
use Rattle.std.proofs.Common.{◌≡◌}
use Rattle.table_locate.specs.Mirror.{values_to}
use Rattle.table_locate.proofs.evaluate.Given as goal

abbrev pub invariant-loop-k : goal.invariant-loop-k
invariant-loop-k l = l.values ≡ values_to l.pool l.inputs l.initial.values l.k
