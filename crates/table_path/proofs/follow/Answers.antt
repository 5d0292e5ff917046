-- `path::follow` meets its contract. Assumes nothing.
use Rattle.std.proofs.Common.{refl, arith}
use Rattle.table_advance.specs.Steps.{follow-more, follow-stops, follow-cut}
use Rattle.table_path.proofs.follow.Goals as goal

pub loop-steps-init : goal.loop-steps-init
loop-steps-init c = (refl, omega arith)

pub returns-in-Err : goal.returns-in-Err
returns-in-Err c = follow-stops _ _ _ _ _ c.loop-steps.invariant.0 c.loop-steps-test.true c.in-Err.ensures.moved c.in-Err.ensures.goes

pub loop-steps-preserved : goal.loop-steps-preserved
loop-steps-preserved c =
    (follow-more _ _ _ _ _ c.loop-steps.invariant.0 c.loop-steps-test.true c.in-Ok.ensures.moved c.in-Ok.ensures.goes, omega (arith, c.loop-steps-test.true))

pub returns : goal.returns
returns c = follow-cut _ _ _ _ _ c.loop-steps.invariant.0 c.loop-steps-test.false (omega (arith, c.loop-steps.invariant.1, c.max.ensures, c.loop-steps-test.false))
