-- `put_rows` meets its contract. Assumes nothing.
use Rattle.print_writing.specs.Mirror.{Writes}
use Rattle.print_parts.specs.Mirror.{runs}
use Rattle.print_lines.specs.Mirror.{row_form}
use Rattle.print_lines.proofs.put_rows.Given as goal

abbrev pub invariant-loop-number : goal.invariant-loop-number
invariant-loop-number l = Writes l.initial.page (runs (row_form l.named.text.now l.named.names.now l.table l.fields.pool.now l.fields.sizes) 0 l.number) l.page
