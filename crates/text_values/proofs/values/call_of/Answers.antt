-- `values::call_of` meets its contract. Assumes nothing.
use Rattle.std.proofs.Common.{refl}
use Rattle.gil.specs.Reading.{◌>>=◌, ◌>>◌, call_of, expr}
use Rattle.text_forms.specs.Laws.Wrote.{taken}
use Rattle.text_forms.specs.Laws.Goes.{stops, first, then, ended}
use Rattle.text_values.specs.Steps.Effects.{sets-call}
use Rattle.text_values.proofs.values.call_of.Goals as goal

pub returns-in_err-at-clause-read : goal.returns-in_err-at-clause-read
unfolding call_of ◌>>◌
returns-in_err-at-clause-read c = λ v p. rw c.from_residual.ensures (stops _ c.in_err-at.ensures)

pub returns-in_err-at-2-clause-read : goal.returns-in_err-at-2-clause-read
unfolding call_of ◌>>=◌ ◌>>◌ expr
returns-in_err-at-2-clause-read c = λ v p. rw c.from_residual-in_err-at-2.ensures (first _ c.in_ok-at.ensures (λ u w q. stops _ c.in_err-at-2.ensures.read))

pub returns-in_err-at-3-clause-read : goal.returns-in_err-at-3-clause-read
unfolding call_of ◌>>=◌ ◌>>◌ expr
returns-in_err-at-3-clause-read c = λ v p. rw c.from_residual-in_err-at-3.ensures (first _ c.in_ok-at.ensures (λ u w q. then _ c.in_ok-at-2.ensures.read (λ e we qe. stops _ c.in_err-at-3.ensures)))

pub returns-clause-read : goal.returns-clause-read
unfolding call_of ◌>>=◌ ◌>>◌ expr
returns-clause-read c = λ v p. first _ c.in_ok-at.ensures (λ u w q. then _ c.in_ok-at-2.ensures.read (λ e we qe. then _ c.in_ok-at-3.ensures (λ u′ w′ q′. ended _ _ w′ (sets-call (taken c.intern.ensures.interned c.unwrap_or-callee.ensures refl) qe refl))))
