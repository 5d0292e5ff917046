-- `rows::Row::write_cells` meets its contract. Assumes nothing.
use Rattle.std.proofs.Common.{refl, ap, ◌∙◌, take, arith}
use Rattle.gil.specs.Names.{gather}
use Rattle.lent_words.specs.Mirror.{put_words}
use Rattle.table_rows.specs.Mirror.{cell_of, cells_held}
use Rattle.table_rows.specs.Steps.{thing_more, things_put, four_words, take_least}
use Rattle.table_rows.proofs.Row.write_cells.Goals as goal

pub loop-i-preserved : goal.loop-i-preserved
loop-i-preserved c = thing_more cell_of _ c.loop-i.part (take c.min.result c.args.self.now.cells.now) _ _ _ c.loop-i.i c.loop-i-test.true refl c.loop-i.invariant
    (four_words _ c.tag.ensures c.word.ensures) c.put_words.ensures (omega arith)

pub returns : goal.returns
unfolding cells_held
returns c = things_put cell_of _ _ (take c.min.result c.args.self.now.cells.now) _ c.loop-i.i c.loop-i-test.false c.loop-i.invariant
    ∙ ap (λ l. put_words c.args.part.now 320 (gather cell_of l)) (take_least c.args.self.now.cells.now 32 c.min.ensures)
