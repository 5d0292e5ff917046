-- `values::lookup_of` meets its contract. Assumes nothing.
use Rattle.std.proofs.Common.{refl}
use Rattle.gil.specs.Tree.{lookup}
use Rattle.gil.specs.Reading.{◌>>=◌, ◌>>◌, done, the_mark, lookup_of}
use Rattle.text_forms.specs.Laws.Goes.{stops, then, ended}
use Rattle.text_values.specs.Mirror.{opening}
use Rattle.text_values.specs.Steps.Forms.{opens-stops, opens-first}
use Rattle.text_values.specs.Steps.Effects.{sets-lookup}
use Rattle.text_values.proofs.values.lookup_of.Goals as goal

pub returns-in_err-property-clause-read : goal.returns-in_err-property-clause-read
unfolding lookup_of opening ◌>>=◌ ◌>>◌
returns-in_err-property-clause-read c = λ v k. rw c.from_residual.ensures (opens-stops (λ e p. the_mark 93 >> (the_mark 41 >> done (lookup v e p))) c.in_err-property.ensures.read)

pub returns-in_err-at-clause-read : goal.returns-in_err-at-clause-read
unfolding lookup_of opening ◌>>=◌ ◌>>◌
returns-in_err-at-clause-read c = λ v k. rw c.from_residual-in_err-at.ensures (opens-first (λ e p. the_mark 93 >> (the_mark 41 >> done (lookup v e p))) c.in_ok-property.ensures.read (λ e p x y. stops _ c.in_err-at.ensures))

pub returns-in_err-at-2-clause-read : goal.returns-in_err-at-2-clause-read
unfolding lookup_of opening ◌>>=◌ ◌>>◌
returns-in_err-at-2-clause-read c = λ v k. rw c.from_residual-in_err-at-2.ensures (opens-first (λ e p. the_mark 93 >> (the_mark 41 >> done (lookup v e p))) c.in_ok-property.ensures.read (λ e p x y. then _ c.in_ok-at.ensures (λ u w q. stops _ c.in_err-at-2.ensures)))

pub returns-clause-read : goal.returns-clause-read
unfolding lookup_of opening ◌>>=◌ ◌>>◌
returns-clause-read c = λ v k. opens-first (λ e p. the_mark 93 >> (the_mark 41 >> done (lookup v e p))) c.in_ok-property.ensures.read (λ e p x y. then _ c.in_ok-at.ensures (λ u w q. then _ c.in_ok-at-2.ensures (λ u′ w′ q′. ended _ _ w′ (sets-lookup y x refl))))
