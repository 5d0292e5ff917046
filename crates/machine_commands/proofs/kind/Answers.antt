-- `commands::kind` meets its contract. Assumes nothing.
use Rattle.std.proofs.Common.{◌∙◌}
use Rattle.machine_commands.specs.Steps.{kind-read}
use Rattle.machine_commands.proofs.kind.Goals as goal

pub returns : goal.returns
returns c = c.unwrap_or.ensures ∙ kind-read c.args.word c.try_from.result c.try_from.ensures
