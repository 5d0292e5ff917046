-- `call_given::wrong_budget` meets its contract. Assumes nothing.
use mathlib.Core.Path.{refl}
use Rattle.gil.specs.Calls.{wrong_budget}
use Rattle.call_given.proofs.wrong_budget.Goals as goal

pub returns : goal.returns
unfolding wrong_budget
returns c = refl
