-- What the engine may assume of a program: the limits of document 01 that every accepted text meets (refusals 4 to 7), so that its words
-- fit `Code`'s array and its numbers fit 32 bits. That an accepted text is well formed is proved by the reader. Assumes nothing.
use Rattle.std.specs.Prelude.{ℕ, suc, ◌<◌, ◌≤◌, Bool, List, [], ◌∷◌, length}
use Rattle.gil.specs.Numbers.{most_depth, most_properties, most_variables, most_procedures, most_commands}
use Rattle.gil.specs.Tree.{Op, Expr, num, bool, var, neg, bin, Cmd, assign, ifgoto, call, lookup, mutate, dispose, u_sym, i_sym, return, fail, vanish}
use Rattle.gil.specs.Names.{gather, Procedure, Program}
use Rattle.machine_code.specs.Code.{cmd_nodes, all_commands, nodes_room}

-- something holds of every element
pub data Each {A : Type 0} (P : A → Type 0) : List A → Type 0 where
  none : Each P []
  more : {a : A} {l : List A} → P a → Each P l → Each P (a ∷ l)

-- `ExprFits variables d e`: `e` is at most `d` deep, and its variables are below `variables`
pub data ExprFits (variables : ℕ) : ℕ → Expr ℕ → Type 0 where
  a_number : {d n : ℕ} → n < 4294967296 → ExprFits variables (suc d) (num n)
  a_truth : {d : ℕ} {b : Bool} → ExprFits variables (suc d) (bool b)
  a_variable : {d x : ℕ} → x < variables → ExprFits variables (suc d) (var x)
  a_not : {d : ℕ} {e : Expr ℕ} → ExprFits variables d e → ExprFits variables (suc d) (neg e)
  an_operator : {d : ℕ} {o : Op} {a b : Expr ℕ} → ExprFits variables d a → ExprFits variables d b → ExprFits variables (suc d) (bin o a b)

-- a command of a procedure with so many variables, in a program with so many procedures
pub data CmdFits (variables procedures : ℕ) : Cmd ℕ → Type 0 where
  an_assign : {x : ℕ} {e : Expr ℕ} → x < variables → ExprFits variables most_depth e → CmdFits variables procedures (assign x e)
  a_jump : {n : ℕ} {e : Expr ℕ} → ExprFits variables most_depth e → n < 4294967296 → CmdFits variables procedures (ifgoto e n)
  a_call :
      {x f : ℕ} {e : Expr ℕ} → x < variables → f < procedures → ExprFits variables most_depth e → CmdFits variables procedures (call x f e)
  a_lookup : {x q : ℕ} {e : Expr ℕ} → x < variables → ExprFits variables most_depth e → q < most_properties → CmdFits variables procedures (lookup x e q)
  a_mutate :
      {x q : ℕ} {e d : Expr ℕ}
      → x < variables
      → ExprFits variables most_depth e
      → q < most_properties
      → ExprFits variables most_depth d
      → CmdFits variables procedures (mutate x e q d)
  a_dispose : {x : ℕ} {e : Expr ℕ} → x < variables → ExprFits variables most_depth e → CmdFits variables procedures (dispose x e)
  a_u_sym : {x j : ℕ} → x < variables → j < 4294967296 → CmdFits variables procedures (u_sym x j)
  an_i_sym : {x j : ℕ} → x < variables → j < 4294967296 → CmdFits variables procedures (i_sym x j)
  a_return : {e : Expr ℕ} → ExprFits variables most_depth e → CmdFits variables procedures (return e)
  a_fail : {e : Expr ℕ} → ExprFits variables most_depth e → CmdFits variables procedures (fail e)
  a_vanish : CmdFits variables procedures vanish

pub record ProcedureFits (procedures : ℕ) (q : Procedure) : Type 0 where
  pub some_variable : 1 ≤ q.variables
  pub few_variables : q.variables ≤ most_variables
  pub some_command : 1 ≤ length q.body
  pub commands : Each (CmdFits q.variables procedures) q.body

pub record WellFormed (p : Program) : Type 0 where
  pub few_procedures : length p.procedures ≤ most_procedures
  pub few_commands : length (all_commands p) ≤ most_commands
  pub few_nodes : length (gather cmd_nodes (all_commands p)) ≤ nodes_room
  pub main_there : p.main < length p.procedures
  pub procedures : Each (ProcedureFits (length p.procedures)) p.procedures
