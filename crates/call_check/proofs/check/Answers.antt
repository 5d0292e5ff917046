-- `check` meets its contract. Assumes nothing.
use Rattle.std.proofs.Common.{refl}
use Rattle.call_check.specs.Steps.{checks}
use Rattle.call_check.proofs.check.Goals as goal

pub returns : goal.returns
returns c = checks (c.begin.ensures refl)
