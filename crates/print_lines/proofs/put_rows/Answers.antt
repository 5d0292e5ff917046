-- `put_rows` meets its contract. Assumes nothing.
use Rattle.print_parts.specs.Laws.{rows_more, runs_none}
use Rattle.print_lines.specs.Mirror.{row_form}
use Rattle.print_lines.proofs.put_rows.Goals as goal

pub loop-number-init : goal.loop-number-init
loop-number-init c = runs_none _ _ _

pub loop-number-preserved : goal.loop-number-preserved
loop-number-preserved c =
    rows_more
    (row_form c.args.named.now.text.now c.args.named.now.names.now c.args.table.now c.args.fields.now.pool.now c.args.fields.now.sizes)
    c.loop-number.number
    c.loop-number.invariant
    c.put_row.ensures
