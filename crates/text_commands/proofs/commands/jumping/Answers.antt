-- `commands::jumping` meets its contract. Assumes nothing.
use Rattle.std.proofs.Common.{refl}
use Rattle.gil.specs.Reading.{◌>>=◌, jump_of, expr}
use Rattle.text_forms.specs.Laws.Goes.{stops, first, then, ended}
use Rattle.text_commands.specs.Steps.Effects.{does_jump, does_out}
use Rattle.text_commands.proofs.commands.jumping.Goals as goal

pub returns-in_err-at-clause-read : goal.returns-in_err-at-clause-read
unfolding jump_of ◌>>=◌ expr
returns-in_err-at-clause-read c = λ p k. rw c.from_residual.ensures (stops _ c.in_err-at.ensures.read)

pub returns-in_err-to-clause-read : goal.returns-in_err-to-clause-read
unfolding jump_of ◌>>=◌ expr
returns-in_err-to-clause-read c = λ p k. rw c.from_residual-in_err-to.ensures (first _ c.in_ok-at.ensures.read (λ e w q. stops _ c.in_err-to.ensures))

pub returns-clause-read : goal.returns-clause-read
unfolding jump_of ◌>>=◌ expr
returns-clause-read c = λ p k. first _ c.in_ok-at.ensures.read (λ e w q. then _ c.in_ok-to.ensures (λ m wm i. ended _ _ wm (does_out c.command.ensures.next (does_jump q c.command.ensures.words refl i))))
