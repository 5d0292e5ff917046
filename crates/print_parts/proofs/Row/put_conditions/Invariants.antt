-- `Row::put_conditions` meets its contract. Assumes nothing.
use Rattle.std.proofs.Common.{◌-◌}
use Rattle.print_writing.specs.Mirror.{Writes}
use Rattle.print_parts.specs.Mirror.{runs, further_form}
use Rattle.print_parts.proofs.Row.put_conditions.Given as goal

abbrev pub invariant-loop-i : goal.invariant-loop-i
invariant-loop-i l = Writes l.initial.page (runs (further_form l.self.table.now l.self.fields.now.pool.now l.self.fields.now.sizes l.self.number) 1 (l.i - 1)) l.page
