-- `commands::read_command` meets its contract. Assumes nothing.
use Rattle.gil.specs.Reading.{◌>>◌}
use Rattle.text_forms.specs.Laws.Goes.{stops, first, then, ended}
use Rattle.text_commands.specs.Steps.Commands.{apart}
use Rattle.text_commands.proofs.commands.read_command.Goals as goal

pub returns-in_err-step-clause-read : goal.returns-in_err-step-clause-read
returns-in_err-step-clause-read c = rw (c.from_residual.ensures, apart c.args.text.now c.args.at) (stops _ c.in_err-step.ensures.read)

pub returns-in_err-at-clause-read : goal.returns-in_err-at-clause-read
unfolding ◌>>◌
returns-in_err-at-clause-read c = rw (c.from_residual-in_err-at.ensures, apart c.args.text.now c.args.at) (first _ c.in_ok-step.ensures.read (λ d w q. stops _ c.in_err-at.ensures))

pub returns-clause-read : goal.returns-clause-read
unfolding ◌>>◌
returns-clause-read c = rw (apart c.args.text.now c.args.at) (first _ c.in_ok-step.ensures.read (λ d w q. then _ c.in_ok-at.ensures (λ u wu qu. ended _ _ wu q)))
