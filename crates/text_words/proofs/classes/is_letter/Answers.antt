-- `classes::is_letter` meets its contract. Assumes nothing.
use mathlib.Core.Bool.{true, false}
use native.Mathlib.Omega.{arith}
use mathlib.Core.Path.{refl}
use Rattle.text_words.specs.Steps.Classes.{on, everywhere}
use Rattle.gil.specs.Text.{letter}
use Rattle.text_words.proofs.classes.is_letter.Goals as goal

pub returns-in-65-to-90 : goal.returns-in-65-to-90
unfolding everywhere letter
returns-in-65-to-90 c = on letter true 65 26 c.args.b refl (omega arith) (omega arith)

pub returns-in-97-to-122 : goal.returns-in-97-to-122
unfolding everywhere letter
returns-in-97-to-122 c = on letter true 97 26 c.args.b refl (omega arith) (omega arith)

pub returns-in_default : goal.returns-in_default
unfolding everywhere letter
returns-in_default c = on letter false 0 65 c.args.b refl (omega arith) (omega arith)

pub returns-in_default-2 : goal.returns-in_default-2
unfolding everywhere letter
returns-in_default-2 c = on letter false 91 6 c.args.b refl (omega arith) (omega arith)

pub returns-in_default-3 : goal.returns-in_default-3
unfolding everywhere letter
returns-in_default-3 c = on letter false 123 133 c.args.b refl (omega arith) (omega arith)
