-- `main` ends. Assumes nothing.
use Rattle.std.proofs.Common.{◌-◌}
use Rattle.vectors.proofs.main.Given as goal

abbrev pub decreases-loop-i : goal.decreases-loop-i
decreases-loop-i l = 65536 - l.i
