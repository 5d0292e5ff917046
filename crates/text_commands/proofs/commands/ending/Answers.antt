-- `commands::ending` meets its contract. Assumes nothing.
use Rattle.std.proofs.Common.{refl}
use Rattle.gil.specs.Reading.{◌>>=◌, ending_of, expr}
use Rattle.text_forms.specs.Laws.Goes.{stops, first, ended}
use Rattle.text_commands.specs.Steps.Effects.{does_ending, does_out}
use Rattle.text_commands.proofs.commands.ending.Goals as goal

pub returns-in_err-at-clause-read : goal.returns-in_err-at-clause-read
unfolding ending_of ◌>>=◌ expr
returns-in_err-at-clause-read c = λ h p k i. rw c.from_residual.ensures (stops _ c.in_err-at.ensures.read)

pub returns-clause-read : goal.returns-clause-read
unfolding ending_of ◌>>=◌ expr
returns-clause-read c = λ h p k i. first _ c.in_ok-at.ensures.read (λ e w q. ended _ _ w (does_out c.command.ensures.next (does_ending i q c.command.ensures.words refl)))
