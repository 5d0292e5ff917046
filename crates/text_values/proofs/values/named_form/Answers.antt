-- `values::named_form` meets its contract. Assumes nothing.
use Rattle.gil.specs.Reading.{◌>>=◌, named}
use Rattle.text_forms.specs.Laws.Goes.{stops}
use Rattle.text_forms.specs.Laws.Seeing.{mark-there, mark-absent}
use Rattle.text_forms.specs.Laws.Wrote.{taken, wrote_var}
use Rattle.text_values.specs.Steps.Forms.{named-call, named-var}
use Rattle.text_values.specs.Steps.Effects.{sets-plain}
use Rattle.std.proofs.Common.{refl}
use Rattle.text_values.proofs.values.named_form.Goals as goal

pub returns-in_err-name-clause-read : goal.returns-in_err-name-clause-read
unfolding named ◌>>=◌
returns-in_err-name-clause-read c = λ v p. rw c.from_residual.ensures (stops _ c.in_err-name.ensures)

pub returns-then-is_some-clause-read : goal.returns-then-is_some-clause-read
returns-then-is_some-clause-read c = λ v p. named-call v c.in_ok-name.ensures (mark-there _ _ 40 _ c.past_mark.ensures c.if-is_some.ensures) (c.call_of.ensures.read v p)

pub returns-clause-read : goal.returns-clause-read
returns-clause-read c = λ v p. named-var v c.in_ok-name.ensures _ (mark-absent _ _ 40 _ c.past_mark.ensures c.if-is_some.ensures) (λ w i. sets-plain (wrote_var (taken c.intern.ensures.interned c.unwrap_or-x.ensures i) c.push.ensures.next c.push.ensures.words) refl)
