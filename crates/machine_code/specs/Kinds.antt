-- The code's enums by the numbers of Code. Assumes nothing.
use Rattle.std.specs.Prelude.{ℕ, ◌≡◌, refl, ◌<◌, ◌⊎◌, Result, MatchResult}
use Rattle.gil.specs.Tree.{Op, plus, minus, equal, less, and, or}
use Rattle.gil.specs.Codes.{Reads}
use Rattle.gil.specs.declared.Unknown.{Unknown}
use Rattle.machine_code.specs.Code.{assign_kind, jump_kind, call_kind, lookup_kind, mutate_kind, dispose_kind, u_sym_kind, i_sym_kind, return_kind, fail_kind, vanish_kind}
use Rattle.machine_code.specs.Code.{op_word, plus_node, minus_node, equal_node, less_node, and_node, or_node}
use Rattle.machine_code.specs.declared.kinds.CommandKind.{CommandKind}
use Rattle.machine_code.specs.declared.kinds.CommandKind.TheVariants.{Assign, Jump, Call, Lookup, Mutate, Dispose, USym, ISym, Return, Fail, Vanish}
use Rattle.machine_code.specs.declared.kinds.Operator.{Operator}
use Rattle.machine_code.specs.declared.kinds.Operator.TheVariants.{Plus, Minus, Equal, Less, And, Or}

abbrev pub command_number : CommandKind → ℕ
command_number Assign = assign_kind
command_number Jump = jump_kind
command_number Call = call_kind
command_number Lookup = lookup_kind
command_number Mutate = mutate_kind
command_number Dispose = dispose_kind
command_number USym = u_sym_kind
command_number ISym = i_sym_kind
command_number Return = return_kind
command_number Fail = fail_kind
command_number Vanish = vanish_kind

-- an operator of the code is one of the definitions, and its node is of that one's kind
abbrev pub op_of : Operator → Op
op_of Plus = plus
op_of Minus = minus
op_of Equal = equal
op_of Less = less
op_of And = and
op_of Or = or

abbrev pub operator_number : Operator → ℕ
operator_number Plus = plus_node
operator_number Minus = minus_node
operator_number Equal = equal_node
operator_number Less = less_node
operator_number And = and_node
operator_number Or = or_node

pub operator-word : (o : Operator) → op_word (op_of o) ≡ operator_number o
unfolding op_word
operator-word Plus = refl
operator-word Minus = refl
operator-word Equal = refl
operator-word Less = refl
operator-word And = refl
operator-word Or = refl

abbrev pub IsCommandOf : ℕ → Result CommandKind Unknown → Type 0
IsCommandOf = Reads command_number vanish_kind

-- a kind below `+` is no operator's
abbrev pub IsOperatorOf : ℕ → Result Operator Unknown → Type 0
IsOperatorOf kind r = MatchResult r (λ o. operator_number o ≡ kind) (λ e. (e.0 ≡ kind) × ((kind < plus_node) ⊎ (or_node < kind)))
