-- `classes::is_white` meets its contract. Assumes nothing.
use Rattle.std.proofs.Common.{arith, ne_eqb}
use Rattle.gil.specs.Text.{white}
use Rattle.text_words.proofs.classes.is_white.Goals as goal

pub returns-in-32 : goal.returns-in-32
unfolding white
returns-in-32 c = rw c.in-32.is

pub returns-in-10 : goal.returns-in-10
unfolding white
returns-in-10 c = rw c.in-10.is

pub returns-in-13 : goal.returns-in-13
unfolding white
returns-in-13 c = rw c.in-13.is

pub returns-in-9 : goal.returns-in-9
unfolding white
returns-in-9 c = rw c.in-9.is

pub returns-in_default : goal.returns-in_default
unfolding white
returns-in_default c = simp (ne_eqb c.args.b 32 (λ e. omega arith), ne_eqb c.args.b 10 (λ e. omega arith), ne_eqb c.args.b 13 (λ e. omega arith), ne_eqb c.args.b 9 (λ e. omega arith))
