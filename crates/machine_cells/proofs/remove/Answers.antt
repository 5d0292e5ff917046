-- `cells::remove` meets its contract: a turn keeps a cell of another location behind those kept, and passes one of the location. Assumes nothing.
use Rattle.std.proofs.Common.{rules, arith, sym, ◌∙◌, drop-set-lt}
use Rattle.machine_cells.specs.Laws.InUse.{removed_skip, removed_keep, removed_all}
use Rattle.machine_cells.proofs.remove.Goals as goal
use Rattle.machine_cells.proofs.remove.Goals.{then-ne, else-ne}

pub loop-i-preserved : goal.loop-i-preserved
loop-i-preserved c =
    elim c.if-ne.branch [
      | then-ne w ↦ record {
        low = omega arith;
        whole = c.if-ne.auto.cells ∙ c.loop-i.invariant.whole;
        kept = simp (w.n-is, w.cells-is) (sym (removed_keep c.args.l.0 c.loop-i.i c.loop-i.n c.args.held c.loop-i.cells c.loop-i.invariant.low c.loop-i-test.true (omega arith) (search rules)) ∙ c.loop-i.invariant.kept);
        behind = simp w.cells-is (drop-set-lt c.args.held c.loop-i.cells c.loop-i.n _ (omega arith) ∙ c.loop-i.invariant.behind);
      }
      | else-ne w ↦ record {
        low = omega arith;
        whole = c.if-ne.auto.cells ∙ c.loop-i.invariant.whole;
        kept = simp (w.n-is, w.cells-is) (sym (removed_skip c.args.l.0 c.loop-i.i c.loop-i.n c.args.held c.loop-i.cells c.loop-i-test.true (omega arith) (search rules)) ∙ c.loop-i.invariant.kept);
        behind = simp w.cells-is c.loop-i.invariant.behind;
      }
    ]

pub returns-clause-kept : goal.returns-clause-kept
returns-clause-kept c = (removed_all c.args.l.0 c.loop-i.i c.loop-i.n c.args.held c.loop-i.cells c.loop-i-test.false (omega arith) _ c.loop-i.invariant.kept).0

pub returns-clause-cells : goal.returns-clause-cells
returns-clause-cells c = (removed_all c.args.l.0 c.loop-i.i c.loop-i.n c.args.held c.loop-i.cells c.loop-i-test.false (omega arith) _ c.loop-i.invariant.kept).1
