-- What the operator of a token is to the definitions. Assumes nothing.
use Rattle.std.specs.Prelude.{ℕ, ◌≡◌, List, Option, None, Some}
use Rattle.gil.specs.Text as Text
use Rattle.gil.specs.Tree.{Op}
use Rattle.gil.specs.Reading as Reading
use Rattle.gil.specs.Reading.{Reader, done, nothing}
use Rattle.machine_code.specs.declared.kinds.Operator.{Operator}
use Rattle.machine_code.specs.Kinds.{op_of}
use Rattle.text_tokens.specs.declared.tokens.Token.{Token}
use Rattle.text_tokens.specs.Mirror.Seen.{Seen}

abbrev pub ReadsOp : Reader Op → Option Operator → Type 0
ReadsOp r None = ◌≡◌ {A = Reader Op} r nothing
ReadsOp r (Some o) = ◌≡◌ {A = Reader Op} r (done (op_of o))

-- the operator of a token of the code
abbrev pub OperatorOf : Token → Option Operator → Type 0
OperatorOf k o = (s : List ℕ) (t : Text.Token) → Seen s t k → ReadsOp (Reading.op_of t) o
