-- `commands::bare_command` meets its contract. Assumes nothing.
use Rattle.text_commands.specs.Steps.Commands.{bare-setting, bare-none}
use Rattle.text_commands.proofs.commands.bare_command.Goals as goal

pub returns-in-Name-clause-read : goal.returns-in-Name-clause-read
returns-in-Name-clause-read c = bare-setting c.token-t.ensures c.in-Name.place c.in-Name.is c.setting.ensures.read

pub returns-in_default-clause-read : goal.returns-in_default-clause-read
returns-in_default-clause-read c = bare-none c.token-t.ensures c.in_default.not-Name c.in_default.not-Reserved
