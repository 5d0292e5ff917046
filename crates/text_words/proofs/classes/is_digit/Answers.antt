-- `classes::is_digit` meets its contract. Assumes nothing.
use mathlib.Core.Bool.{true, false}
use native.Mathlib.Omega.{arith}
use mathlib.Core.Path.{refl}
use Rattle.text_words.specs.Steps.Classes.{on, everywhere}
use Rattle.gil.specs.Text.{digit}
use Rattle.text_words.proofs.classes.is_digit.Goals as goal

pub returns-in-48-to-57 : goal.returns-in-48-to-57
unfolding everywhere digit
returns-in-48-to-57 c = on digit true 48 10 c.args.b refl (omega arith) (omega arith)

pub returns-in_default : goal.returns-in_default
unfolding everywhere digit
returns-in_default c = on digit false 0 48 c.args.b refl (omega arith) (omega arith)

pub returns-in_default-2 : goal.returns-in_default-2
unfolding everywhere digit
returns-in_default-2 c = on digit false 58 198 c.args.b refl (omega arith) (omega arith)
