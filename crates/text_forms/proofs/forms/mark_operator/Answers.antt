-- `forms::mark_operator` meets its contract. Assumes nothing.
use Rattle.std.proofs.Common.{ne_eqb}
use Rattle.gil.specs.Reading.{op_mark}
use Rattle.text_forms.proofs.forms.mark_operator.Goals as goal

pub returns-in-43 : goal.returns-in-43
unfolding op_mark
returns-in-43 c = rw c.in-43.is

pub returns-in-45 : goal.returns-in-45
unfolding op_mark
returns-in-45 c = rw c.in-45.is

pub returns-in-61 : goal.returns-in-61
unfolding op_mark
returns-in-61 c = rw c.in-61.is

pub returns-in-60 : goal.returns-in-60
unfolding op_mark
returns-in-60 c = rw c.in-60.is

pub returns-in_default : goal.returns-in_default
unfolding op_mark
returns-in_default c = let r = c.in_default.in_default-own.rest in rw (ne_eqb c.args.b 43 r.0.0.0.1, op_mark) (rw (ne_eqb c.args.b 45 r.0.0.1) (rw (ne_eqb c.args.b 61 r.0.1) (rw (ne_eqb c.args.b 60 r.1))))
