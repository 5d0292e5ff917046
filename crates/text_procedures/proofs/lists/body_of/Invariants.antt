-- `lists::body_of`: what was read so far, and the same reference. Assumes nothing.
use Rattle.std.proofs.Common.{◌≡◌, suc, ◌-◌, length}
use Rattle.text_commands.specs.Mirror.{one_past}
use Rattle.text_procedures.specs.Steps.Lists.{Turn}
use Rattle.text_procedures.proofs.lists.body_of.Given as goal

abbrev pub invariant-loop-step : goal.invariant-loop-step
invariant-loop-step l = Turn l.text l.initial.tables.vars l.tables.vars l.initial.tables.props l.tables.props l.initial.tables.calls l.tables.calls l.initial.code.code.now l.code.code.now l.at l.first l.initial.code.out l.code.out l.next l.count (one_past l.jump) × (l.code.code.ghost_name ≡ l.initial.code.code.ghost_name)

abbrev pub decreases-loop-step : goal.decreases-loop-step
decreases-loop-step l = suc (length l.text) - l.next
