-- `values::plain` meets its contract. Assumes nothing.
use Rattle.std.proofs.Common.{refl}
use Rattle.gil.specs.Reading.{◌>>=◌, assignment, expr}
use Rattle.text_forms.specs.Laws.Goes.{stops, first, ended}
use Rattle.text_values.specs.Steps.Effects.{sets-plain}
use Rattle.text_values.proofs.values.plain.Goals as goal

pub returns-in_err-at-clause-read : goal.returns-in_err-at-clause-read
unfolding assignment ◌>>=◌ expr
returns-in_err-at-clause-read c = λ v p k. rw c.from_residual.ensures (stops _ c.in_err-at.ensures.read)

pub returns-clause-read : goal.returns-clause-read
unfolding assignment ◌>>=◌ expr
returns-clause-read c = λ v p k. first _ c.in_ok-at.ensures.read (λ e w q. ended _ _ w (sets-plain q refl))
