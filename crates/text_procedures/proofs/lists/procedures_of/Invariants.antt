-- `lists::procedures_of`: what was read so far, the same reference, and a bound on the commands. Assumes nothing.
use Rattle.std.proofs.Common.{◌≡◌, suc, ◌+◌, ◌*◌, ◌≤◌, ◌-◌, length}
use Rattle.text_procedures.specs.Steps.Procedures.{Round}
use Rattle.gil.specs.Numbers.{most_bytes}
use Rattle.text_procedures.proofs.lists.procedures_of.Given as goal

abbrev pub invariant-loop-declared : goal.invariant-loop-declared
invariant-loop-declared l = Round l.text l.initial.tables.props l.tables.props l.initial.tables.calls l.tables.calls l.initial.procs l.procs l.initial.code.code.now l.code.code.now l.code.out l.next l.tally.procs l.tally.commands l.tally.wide l.tally.past l.tally.unended × (l.code.code.ghost_name ≡ l.initial.code.code.ghost_name) × (l.tally.commands ≤ (most_bytes + 1) * l.tally.procs)

abbrev pub decreases-loop-declared : goal.decreases-loop-declared
decreases-loop-declared l = suc (length l.text) - l.next
