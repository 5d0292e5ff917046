-- `Fields::over` meets its contract. Assumes nothing.
use Rattle.std.proofs.Common.{◌≡◌}
use Rattle.print_fields.specs.Mirror.{sizes_to}
use Rattle.print_fields.proofs.Fields.over.Given as goal

abbrev pub invariant-loop-k : goal.invariant-loop-k
invariant-loop-k l = record { pool : l.fields.pool.now ≡ l.pool; sizes : l.fields.sizes ≡ sizes_to l.pool l.fn.sizes l.k }
