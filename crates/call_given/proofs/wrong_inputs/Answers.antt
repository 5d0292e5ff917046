-- `call_given::wrong_inputs` meets its contract. Assumes nothing.
use mathlib.Core.Path.{refl}
use Rattle.gil.specs.Calls.{wrong_inputs}
use Rattle.call_given.proofs.wrong_inputs.Goals as goal

pub returns : goal.returns
unfolding wrong_inputs
returns c = refl
