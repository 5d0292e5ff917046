-- `commands::clear` meets its contract. Assumes nothing.
use Rattle.std.proofs.Common.{◌≡◌, ◌+◌, ◌-◌}
use Rattle.machine_commands.specs.Mirror.{zeros_in}
use Rattle.machine_commands.proofs.clear.Given as goal

abbrev pub invariant-loop-i : goal.invariant-loop-i
invariant-loop-i l = zeros_in 16 l.base l.initial.store ≡ zeros_in (16 - l.i) (l.base + l.i) l.store
