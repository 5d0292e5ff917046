-- `print_table` meets its contract. Assumes nothing.
use Rattle.std.proofs.Common.{arith, refl, rules}
use Rattle.gil.specs.Refusals.{refusal_number}
use Rattle.gil.specs.Printed.{refusal_line}
use Rattle.print_writing.specs.Mirror.{Wrote}
use Rattle.call_given.specs.Laws.{nought, not_nought}
use Rattle.print_text.specs.Steps.Comes.{prints-refusal, prints-table}
use Rattle.print_text.proofs.print_table.Goals as goal

pub returns-in-Err : goal.returns-in-Err
returns-in-Err c =
    let w : Wrote c.args.out.now 0 (refusal_line (refusal_number c.in-Err.refusal)) c.render_refusal.new.out c.render_refusal.result = search rules in
    prints-refusal _ c.explore-explored.ensures (not_nought c.in-Err.is) (omega arith) (rw c.in-Err.is w)

pub returns : goal.returns
returns c = prints-table _ c.explore-explored.ensures _ (nought c.in_default.is) (c.read_program.ensures refl (c.new-names.ensures _)).named (omega arith) c.render.ensures
