-- `walk` meets its contract, the branches that are left falling at each fork. Assumes nothing.
use Rattle.std.proofs.Common.{◌≡◌, ap, rules, arith}
use Rattle.gil.specs.Refusals.{answer_of, numbered}
use Rattle.table_walk.specs.Steps.{no-room, free, a-row, split_is, first-refused, both, next_branches}
use Rattle.table_walk.proofs.+walk.Goals as goal

pub returns-in_err-room : goal.returns-in_err-room
returns-in_err-room t c =
    let same : c.from_residual.result ≡ c.room.result = search rules in
    rw same (no-room c.args.code.now c.args.budgets c.args.from.now c.args.begun.now c.args.cells.now c.args.rows.now c.args.table.now c.args.pool.now c.args.count.now c.follow-stop.result c.copied-memory.ensures c.follow-stop.ensures c.room.ensures c.in_err-room.was)

pub returns-in-None : goal.returns-in-None
returns-in-None t c = a-row c.args.code.now c.args.budgets c.args.from.now c.args.begun.now c.args.cells.now c.args.rows.now c.args.table.now c.args.pool.now c.args.count.now c.follow-stop.result c.copied-memory.ensures c.follow-stop.ensures (free c.args.code.now c.args.budgets c.args.from.now c.args.begun.now c.args.cells.now c.args.rows.now c.args.table.now c.args.pool.now c.args.count.now c.follow-stop.result c.copied-memory.ensures c.follow-stop.ensures c.room.ensures c.in_ok-room.was) c.in-None.ensures c.finish.ensures

pub walk-requires : goal.walk-requires
walk-requires t c =
    let x = split_is _ _ _ _ c.in-Some.ensures in
    let n = next_branches _ _ _ _ x.yes in
    (omega (arith, x.left, n), tt)

pub returns-in_err-walk-in-Some : goal.returns-in_err-walk-in-Some
returns-in_err-walk-in-Some t c =
    let same : c.from_residual-in_err-walk-in-Some.result ≡ c.walk.result = search rules in
    rw same (first-refused c.args.code.now c.args.budgets c.args.from.now c.args.begun.now c.args.cells.now c.args.rows.now c.args.table.now c.args.pool.now c.args.count.now c.follow-stop.result c.copied-memory.ensures c.follow-stop.ensures (free c.args.code.now c.args.budgets c.args.from.now c.args.begun.now c.args.cells.now c.args.rows.now c.args.table.now c.args.pool.now c.args.count.now c.follow-stop.result c.copied-memory.ensures c.follow-stop.ensures c.room.ensures c.in_ok-room.was) (split_is _ _ _ _ c.in-Some.ensures) c.walk.ensures (numbered _ c.in_err-walk-in-Some.was))

pub walk-requires-in-Some : goal.walk-requires-in-Some
walk-requires-in-Some t c =
    let x = split_is _ _ _ _ c.in-Some.ensures in
    let n = next_branches _ _ _ _ x.no in
    (omega (arith, x.left, n), tt)

pub returns-in_ok-walk-in-Some : goal.returns-in_ok-walk-in-Some
returns-in_ok-walk-in-Some t c = both c.args.code.now c.args.budgets c.args.from.now c.args.begun.now c.args.cells.now c.args.rows.now c.args.table.now c.args.pool.now c.args.count.now c.follow-stop.result c.copied-memory.ensures c.follow-stop.ensures (free c.args.code.now c.args.budgets c.args.from.now c.args.begun.now c.args.cells.now c.args.rows.now c.args.table.now c.args.pool.now c.args.count.now c.follow-stop.result c.copied-memory.ensures c.follow-stop.ensures c.room.ensures c.in_ok-room.was) (split_is _ _ _ _ c.in-Some.ensures) c.walk.ensures (ap answer_of c.in_ok-walk-in-Some.was) c.walk-in-Some.ensures
