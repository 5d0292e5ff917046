-- `commands::vanishing` meets its contract. Assumes nothing.
use Rattle.text_commands.specs.Steps.Effects.{does_vanish, does_out}
use Rattle.text_commands.proofs.commands.vanishing.Goals as goal

pub returns-clause-done : goal.returns-clause-done
returns-clause-done c = λ s t p k. does_out c.command.ensures.next (does_vanish c.command.ensures.words)
