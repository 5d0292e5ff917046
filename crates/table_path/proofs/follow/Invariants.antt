-- `path::follow` meets its contract. Assumes nothing.
use Rattle.std.proofs.Common.{◌≡◌, ◌-◌, max}
use Rattle.machine_terms.specs.Laws.Engine.{known_in}
use Rattle.table_advance.specs.Mirror.Followed.{one_in, follow_in, spot}
use Rattle.table_path.proofs.follow.Given as goal

abbrev pub invariant-loop-steps : goal.invariant-loop-steps
invariant-loop-steps l =
    let one = one_in l.code (known_in l.known) in
    (follow_in one (l.budget - l.taken) l.taken (spot l.fn.from l.initial.store l.initial.memory l.initial.pool l.initial.count)
    ≡ follow_in one (l.budget - l.steps) l.steps (spot l.control l.store l.memory l.pool l.count))
    × (max l.taken l.budget ≡ max l.steps l.budget)

-- A `for` ends by itself. It is said so that must-fail/action_without_step, which counts by hand, is refused for its count.
abbrev pub decreases-loop-steps : goal.decreases-loop-steps
decreases-loop-steps l = l.budget - l.steps
