-- What reading an expression does to the table of variables and to the words of the program. Assumes nothing.
use Rattle.std.specs.Prelude.{ℕ, ◌+◌, ◌≤◌, ◌≡◌, List, ◌++◌, length}
use Rattle.std.proofs.lemmas.List.Edits.{sets}
use Rattle.gil.specs.Tree.{Expr, Name}
use Rattle.gil.specs.Names.{expr_vars, rename_expr, with_name, with_names}
use Rattle.machine_code.specs.Code.{expr_words, code_words}
use Rattle.machine_code.proofs.Accepted.Sizes.{expr_size}
use Rattle.gil.specs.Numbers.{most_variables}
use Rattle.text_names.specs.declared.Names.{Names}
use Rattle.text_names.specs.Mirror.Tables.{Kept, number_in, Grows}

-- an expression's words, its variables numbered by a table that took in `all` names
unfoldable pub nodes_of : List Name → Expr Name → List ℕ
nodes_of all e = expr_words (rename_expr (number_in most_variables all) e)

-- a name is taken into a table, and has the number `r` there, or the table's limit where it found no room
pub record Takes (s : List ℕ) (cap : ℕ) (t t' : Names) (w : Name) (r : ℕ) : Type 0 where
  pub kept : (all : List Name) → Kept s cap t all → Kept s cap t' (with_name all w)
  pub number : (all : List Name) → Kept s cap t all → r ≡ number_in cap (with_name all w) w

-- an expression: its variables, in the table `t`, and its words, from `out` on; `more` are the names that the table takes in later
pub record Wrote (s : List ℕ) (t t' : Names) (code code' : List ℕ) (out out' : ℕ) (e : Expr Name) : Type 0 where
  pub vars : Grows s most_variables t t' (expr_vars e)
  pub long : length code' ≡ length code
  pub size : out + expr_size e ≤ code_words → out' ≡ out + expr_size e
  pub words : (all more : List Name) → Kept s most_variables t all → length code ≡ code_words → out + expr_size e ≤ code_words → code' ≡ sets code out (nodes_of (with_names all (expr_vars e ++ more)) e)
