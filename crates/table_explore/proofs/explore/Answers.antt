-- `walk::explore` meets its contract. Assumes nothing.
use Rattle.std.proofs.Common.{◌∙◌, length, refl, rules, arith}
use Rattle.table_walk.specs.Mirror.{reached}
use Rattle.gil.specs.Refusals.{numbered}
use Rattle.table_explore.specs.Steps.{from-begin, ends-refused, ends_well, zeroed}
use Rattle.table_explore.proofs.explore.Goals as goal

pub returns-in-Ok : goal.returns-in-Ok
returns-in-Ok c =
    ends_well _ _ (reached _ _ _ _ _) refl c.write_heading.ensures
    ∙ from-begin _ _ c.args.table.now c.args.pool.now c.begin.ensures c.start_store.ensures (c.fill.ensures.after (λ y e. search rules)) (c.fill-2.ensures.after (λ y e. search rules)) c.new.ensures c.in-Ok.ensures

pub returns-in-Err : goal.returns-in-Err
returns-in-Err c =
    ends-refused (length c.args.table.now) (length c.args.pool.now) (reached _ _ _ _ _) (numbered c.in-Err.refusal refl)
    (zeroed (length c.walk-walked.new.table) (length c.args.table.now) (c.fill-in-Err.ensures.after (λ y e. search rules)) (omega (arith, c.walk-walked.auto, c.fill.auto)))
    (zeroed (length c.walk-walked.new.pool) (length c.args.pool.now) (c.fill-in-Err-2.ensures.after (λ y e. search rules)) (omega (arith, c.walk-walked.auto, c.fill-2.auto)))
    ∙ from-begin _ _ c.args.table.now c.args.pool.now c.begin.ensures c.start_store.ensures (c.fill.ensures.after (λ y e. search rules)) (c.fill-2.ensures.after (λ y e. search rules)) c.new.ensures c.in-Err.ensures
