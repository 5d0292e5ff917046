-- `render_refusal` meets its contract. Assumes nothing.
use Rattle.std.proofs.Common.{rules, sym, ◌∙◌}
use Rattle.gil.specs.Text.{bytes}
use Rattle.gil.specs.Printed.{line_end, refusal_line}
use Rattle.print_writing.specs.Mirror.{Writes}
use Rattle.print_writing.specs.Laws.{write_on, wrote_page}
use Rattle.print_lines.proofs.render_refusal.Goals as goal

pub returns : goal.returns
unfolding refusal_line line_end bytes
returns c =
    let w : Writes c.new-page.result (refusal_line c.args.n) c.put_all-2.new.self = write_on (write_on c.put_all.ensures c.put_on.ensures) c.put_all-2.ensures in
    let same = sym (w.same ∙ c.new-page.ensures.same) in
    wrote_page c.new-page.ensures.bytes c.new-page.ensures.front w (search rules) c.count.ensures
