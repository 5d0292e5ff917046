-- `render` meets its contract. Assumes nothing.
use Rattle.std.proofs.Common.{rules, sym, ◌∙◌}
use Rattle.gil.specs.Text.{bytes}
use Rattle.gil.specs.Printed.{line_end, heading}
use Rattle.print_writing.specs.Mirror.{Writes}
use Rattle.print_writing.specs.Laws.{wrote_page}
use Rattle.print_lines.specs.Mirror.{table_form}
use Rattle.print_lines.specs.Steps.{table-by}
use Rattle.print_lines.proofs.render.Goals as goal

pub returns : goal.returns
unfolding heading line_end bytes
returns c =
    let w : Writes c.new-page.result (table_form c.args.text.now c.args.names.now c.args.table.now c.args.pool.now) c.put_rows.new.page =
    table-by _ _ _ _ c.word_at.ensures c.new-fields.ensures.pool c.new-fields.ensures.sizes c.word_at-2.ensures c.at_most-rows.ensures.0 c.put_all.ensures c.put_rows.ensures in
    let same = sym (w.same ∙ c.new-page.ensures.same) in
    wrote_page c.new-page.ensures.bytes c.new-page.ensures.front w (search rules) c.count.ensures
