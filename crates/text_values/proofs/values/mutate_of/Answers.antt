-- `values::mutate_of` meets its contract. Assumes nothing.
use Rattle.std.proofs.Common.{refl}
use Rattle.gil.specs.Tree.{mutate}
use Rattle.gil.specs.Reading.{◌>>=◌, ◌>>◌, done, the_mark, mutate_of, expr}
use Rattle.text_forms.specs.Laws.Goes.{stops, then, ended}
use Rattle.text_values.specs.Mirror.{opening}
use Rattle.text_values.specs.Steps.Forms.{opens-stops, opens-first}
use Rattle.text_values.specs.Steps.Effects.{sets-mutate}
use Rattle.text_values.proofs.values.mutate_of.Goals as goal

pub returns-in_err-property-clause-read : goal.returns-in_err-property-clause-read
unfolding mutate_of opening ◌>>=◌ ◌>>◌ expr
returns-in_err-property-clause-read c = λ v k. rw c.from_residual.ensures (opens-stops (λ e p. the_mark 44 >> (expr >>= λ d. the_mark 93 >> (the_mark 41 >> done (mutate v e p d)))) c.in_err-property.ensures.read)

pub returns-in_err-at-clause-read : goal.returns-in_err-at-clause-read
unfolding mutate_of opening ◌>>=◌ ◌>>◌ expr
returns-in_err-at-clause-read c = λ v k. rw c.from_residual-in_err-at.ensures (opens-first (λ e p. the_mark 44 >> (expr >>= λ d. the_mark 93 >> (the_mark 41 >> done (mutate v e p d)))) c.in_ok-property.ensures.read (λ e p x y. stops _ c.in_err-at.ensures))

pub returns-in_err-at-2-clause-read : goal.returns-in_err-at-2-clause-read
unfolding mutate_of opening ◌>>=◌ ◌>>◌ expr
returns-in_err-at-2-clause-read c = λ v k. rw c.from_residual-in_err-at-2.ensures (opens-first (λ e p. the_mark 44 >> (expr >>= λ d. the_mark 93 >> (the_mark 41 >> done (mutate v e p d)))) c.in_ok-property.ensures.read (λ e p x y. then _ c.in_ok-at.ensures (λ u w q. stops _ c.in_err-at-2.ensures.read)))

pub returns-in_err-at-3-clause-read : goal.returns-in_err-at-3-clause-read
unfolding mutate_of opening ◌>>=◌ ◌>>◌ expr
returns-in_err-at-3-clause-read c = λ v k. rw c.from_residual-in_err-at-3.ensures (opens-first (λ e p. the_mark 44 >> (expr >>= λ d. the_mark 93 >> (the_mark 41 >> done (mutate v e p d)))) c.in_ok-property.ensures.read (λ e p x y. then _ c.in_ok-at.ensures (λ u w q. then _ c.in_ok-at-2.ensures.read (λ d wd qd. stops _ c.in_err-at-3.ensures))))

pub returns-in_err-at-4-clause-read : goal.returns-in_err-at-4-clause-read
unfolding mutate_of opening ◌>>=◌ ◌>>◌ expr
returns-in_err-at-4-clause-read c = λ v k. rw c.from_residual-in_err-at-4.ensures (opens-first (λ e p. the_mark 44 >> (expr >>= λ d. the_mark 93 >> (the_mark 41 >> done (mutate v e p d)))) c.in_ok-property.ensures.read (λ e p x y. then _ c.in_ok-at.ensures (λ u w q. then _ c.in_ok-at-2.ensures.read (λ d wd qd. then _ c.in_ok-at-3.ensures (λ u′ w′ q′. stops _ c.in_err-at-4.ensures)))))

pub returns-clause-read : goal.returns-clause-read
unfolding mutate_of opening ◌>>=◌ ◌>>◌ expr
returns-clause-read c = λ v k. opens-first (λ e p. the_mark 44 >> (expr >>= λ d. the_mark 93 >> (the_mark 41 >> done (mutate v e p d)))) c.in_ok-property.ensures.read (λ e p x y. then _ c.in_ok-at.ensures (λ u w q. then _ c.in_ok-at-2.ensures.read (λ d wd qd. then _ c.in_ok-at-3.ensures (λ u′ w′ q′. then _ c.in_ok-at-4.ensures (λ u″ w″ q″. ended _ _ w″ (sets-mutate y x qd refl refl))))))
