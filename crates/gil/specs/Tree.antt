-- "The text": the program tree, with the type of names as a parameter. Reading a text gives names as their characters;
-- an accepted program has numbers in their place (Names). Assumes nothing.
use Rattle.std.specs.Prelude.{ℕ, Bool, List}

-- "op one of `+ - = < and or`"
pub data Op : Type 0 where
  plus minus equal less and or : Op

-- "Expressions: a number, `true`, `false`, a variable, `not e`, or `(e op e)`"
pub data Expr (N : Type 0) : Type 0 where
  num : ℕ → Expr N
  bool : Bool → Expr N
  var : N → Expr N
  neg : Expr N → Expr N
  bin : Op → Expr N → Expr N → Expr N

-- the commands, in the order of document 01's table
pub data Cmd (N : Type 0) : Type 0 where
  assign : N → Expr N → Cmd N
  ifgoto : Expr N → ℕ → Cmd N
  call : N → N → Expr N → Cmd N
  lookup : N → Expr N → N → Cmd N
  mutate : N → Expr N → N → Expr N → Cmd N
  dispose : N → Expr N → Cmd N
  u_sym : N → ℕ → Cmd N
  i_sym : N → ℕ → Cmd N
  return : Expr N → Cmd N
  fail : Expr N → Cmd N
  vanish : Cmd N

-- "A procedure is a name, its one parameter in round brackets, and one or more commands in braces"
pub record Proc (N : Type 0) : Type 0 where
  pub name : N
  pub parameter : N
  pub body : List (Cmd N)

-- a name as it stands in the text
abbrev pub Name : Type 0
Name = List ℕ
