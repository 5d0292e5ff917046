-- How large a program tree is: expressions at most so deep, with numbers of 32 bits, and as many words as `Code` writes for them.
-- Assumes nothing.
use Rattle.std.specs.Prelude.{ℕ, suc, ◌+◌, ◌≤◌, ◌<◌, Bool, length}
use Rattle.gil.specs.Tree.{Op, Expr, num, bool, var, neg, bin, Cmd, assign, ifgoto, call, lookup, mutate, dispose, u_sym, i_sym, return, fail, vanish, Proc, Name}
use Rattle.machine_code.specs.Code.{number_words}
use Rattle.machine_code.specs.WellFormed.{Each}
use Rattle.machine_code.proofs.Accepted.Lists.{total}

-- the words of an expression, and of a command's, a procedure's and a text's expressions
module _ {N : Type 0} where
  unfoldable pub expr_size : Expr N → ℕ
  expr_size (num n) = length (number_words n)
  expr_size (bool b) = 1
  expr_size (var x) = 1
  expr_size (neg e) = 1 + expr_size e
  expr_size (bin o a b) = 1 + (expr_size a + expr_size b)

  unfoldable pub cmd_size : Cmd N → ℕ
  cmd_size (assign x e) = expr_size e
  cmd_size (ifgoto e n) = expr_size e
  cmd_size (call x f e) = expr_size e
  cmd_size (lookup x e q) = expr_size e
  cmd_size (mutate x e q d) = expr_size e + expr_size d
  cmd_size (dispose x e) = expr_size e
  cmd_size (u_sym x j) = 0
  cmd_size (i_sym x j) = 0
  cmd_size (return e) = expr_size e
  cmd_size (fail e) = expr_size e
  cmd_size vanish = 0

abbrev pub proc_size : Proc Name → ℕ
proc_size p = total cmd_size p.body

-- `ExprSmall d e`: `e` is at most `d` deep, and its numbers have 32 bits
pub data ExprSmall : ℕ → Expr Name → Type 0 where
  small_number : {d n : ℕ} → n < 4294967296 → ExprSmall (suc d) (num n)
  small_truth : {d : ℕ} {b : Bool} → ExprSmall (suc d) (bool b)
  small_variable : {d : ℕ} {x : Name} → ExprSmall (suc d) (var x)
  small_not : {d : ℕ} {e : Expr Name} → ExprSmall d e → ExprSmall (suc d) (neg e)
  small_operator : {d : ℕ} {o : Op} {a b : Expr Name} → ExprSmall d a → ExprSmall d b → ExprSmall (suc d) (bin o a b)

pub data CmdSmall : Cmd Name → Type 0 where
  small_assign : {x : Name} {e : Expr Name} → ExprSmall 8 e → CmdSmall (assign x e)
  small_jump : {n : ℕ} {e : Expr Name} → ExprSmall 8 e → n < 4294967296 → CmdSmall (ifgoto e n)
  small_call : {x f : Name} {e : Expr Name} → ExprSmall 8 e → CmdSmall (call x f e)
  small_lookup : {x q : Name} {e : Expr Name} → ExprSmall 8 e → CmdSmall (lookup x e q)
  small_mutate : {x q : Name} {e d : Expr Name} → ExprSmall 8 e → ExprSmall 8 d → CmdSmall (mutate x e q d)
  small_dispose : {x : Name} {e : Expr Name} → ExprSmall 8 e → CmdSmall (dispose x e)
  small_u_sym : {x : Name} {j : ℕ} → j < 256 → CmdSmall (u_sym x j)
  small_i_sym : {x : Name} {j : ℕ} → j < 256 → CmdSmall (i_sym x j)
  small_return : {e : Expr Name} → ExprSmall 8 e → CmdSmall (return e)
  small_fail : {e : Expr Name} → ExprSmall 8 e → CmdSmall (fail e)
  small_vanish : CmdSmall vanish

pub record ProcSmall (p : Proc Name) : Type 0 where
  pub small : Each CmdSmall p.body
  pub some : 1 ≤ length p.body
