-- `classes::in_run` meets its contract. Assumes nothing.
use Rattle.std.specs.Prelude.{refl, true, false}
use Rattle.std.proofs.Common.{arith, ◌∙◌, le-leb}
use Rattle.std.proofs.lemmas.Bool.{lt-leb}
use Rattle.std.proofs.Math.Decide.{dec_le}
use Rattle.text_words.specs.Steps.Classes.{on, everywhere}
use Rattle.gil.specs.Text.{letter, digit, in_run}
use Rattle.text_words.proofs.classes.in_run.Goals as goal

pub returns-then-b-ge97 : goal.returns-then-b-ge97
unfolding everywhere in_run letter digit
returns-then-b-ge97 c = elim (dec_le c.args.b 122) [ yes h ↦ le-leb c.args.b 122 h ∙ on in_run true 97 26 c.args.b refl (omega arith) (omega arith) | no h ↦ lt-leb c.args.b 122 (omega arith) ∙ on in_run false 123 133 c.args.b refl (omega arith) (omega arith) ]

pub returns-in-65-to-90 : goal.returns-in-65-to-90
unfolding everywhere in_run letter digit
returns-in-65-to-90 c = on in_run true 95 1 c.args.b refl (omega arith) (omega arith)

pub returns-in-65-to-90-2 : goal.returns-in-65-to-90-2
unfolding everywhere in_run letter digit
returns-in-65-to-90-2 c = on in_run true 48 10 c.args.b refl (omega arith) (omega arith)

pub returns-in-65-to-90-3 : goal.returns-in-65-to-90-3
unfolding everywhere in_run letter digit
returns-in-65-to-90-3 c = on in_run true 65 26 c.args.b refl (omega arith) (omega arith)

pub returns-in_default : goal.returns-in_default
unfolding everywhere in_run letter digit
returns-in_default c = on in_run false 0 48 c.args.b refl (omega arith) (omega arith)

pub returns-in_default-2 : goal.returns-in_default-2
unfolding everywhere in_run letter digit
returns-in_default-2 c = on in_run false 58 7 c.args.b refl (omega arith) (omega arith)

pub returns-in_default-3 : goal.returns-in_default-3
unfolding everywhere in_run letter digit
returns-in_default-3 c = elim (dec_le c.args.b 94) [ yes h ↦ on in_run false 91 4 c.args.b refl (omega arith) (omega arith) | no h ↦ on in_run false 96 1 c.args.b refl (omega arith) (omega arith) ]
