-- What demand 3 speaks of: a row with inputs put in, what it is for a list of rows to account for a list of inputs, and the exploration
-- after so many commands. The theorems are in Demand3. Assumes nothing.
use Rattle.std.specs.Prelude.{ℕ, zero, suc, Bool, true, ◌≡◌, List, [], ◌∷◌, map}
use Rattle.std.proofs.Math.Option.{Option, none, some}
use Rattle.gil.specs.Names.{Program}
use Rattle.gil.specs.Values.{Constant, Value, const}
use Rattle.gil.specs.Machine.{Cell, Store, End, returned, failed, vanished, error}
use Rattle.gil.specs.Rows.{Condition, Outcome, ended, cut, steps, Row}
use Rattle.gil.specs.Plain.{plain_run}
use Rattle.gil.specs.Explore.{Exploring, after_commands}
use Rattle.gil.specs.Pool.{Ref, Pool, pooled, value_of, pool_values, meets}

-- variables, cells and ends with other values in them
module _ {T U : Type 0} (value : Value T → Value U) where
  unfoldable pub put_variable : Option (Value T) → Option (Value U)
  put_variable none = none
  put_variable (some v) = some (value v)

  unfoldable pub put_cell : Cell T → Cell U
  put_cell c = record { location = c.location; property = c.property; value = value c.value }

  unfoldable pub put_end : End T → End U
  put_end (returned v) = returned (value v)
  put_end (failed v) = failed (value v)
  put_end vanished = vanished
  put_end (error n) = error n

-- a row's numbers, with an outcome, conditions, variables and cells
unfoldable pub row_with : {T U : Type 0} → Row T → Outcome U → List (Condition U) → Store U → List (Cell U) → Row U
row_with r o ds ρ cs =
    record {
      outcome = o;
      steps = r.steps;
      procedure = r.procedure;
      command = r.command;
      inputs = r.inputs;
      conditions = ds;
      variables = ρ;
      cells = cs;
    }

-- a row as the plain run gives it: each value is the constant it comes to, conditions are gone, and a cut by either budget is a cut
module _ {T : Type 0} (value : Value T → Constant) where
  abbrev pub put_value : Value T → Value ⊥
  put_value v = const (value v)

  unfoldable pub put_outcome : Outcome T → Outcome ⊥
  put_outcome (ended e) = ended (put_end put_value e)
  put_outcome (cut why) = cut steps

  unfoldable pub put_in : Row T → Row ⊥
  put_in r =
      row_with r (put_outcome r.outcome) [] (map (put_variable put_value) r.variables) (map (put_cell put_value) r.cells)

-- `Stands k a l`: `a` is the k-th of the list
pub data Stands {A : Type 0} : ℕ → A → List A → Type 0 where
  here : {a : A} {l : List A} → Stands zero a (a ∷ l)
  further : {k : ℕ} {a b : A} {l : List A} → Stands k a l → Stands (suc k) a (b ∷ l)

-- Exactly one of the rows has its conditions met, and the run with that row's step count as budget is that row with the inputs put in:
-- so it uses all of its steps and has its outcome, value or error, position, inputs read, variables and cells.
pub record Accounted
    {T : Type 0} (meets : List (Condition T) → Bool) (value : Value T → Constant) (run : ℕ → Row ⊥) (rows : List (Row T))
    : Type 0 where
  pub place : ℕ
  pub row : Row T
  pub stands : Stands place row rows
  pub met : meets row.conditions ≡ true
  pub only : (k : ℕ) (r : Row T) → Stands k r rows → meets r.conditions ≡ true → k ≡ place
  pub ran : run row.steps ≡ put_in value row

-- rows over a pool account for a list of inputs to a program
abbrev pub Accounts : Program → List ℕ → Pool → List (Row Ref) → Type 0
Accounts p inputs w rows = Accounted (meets (pool_values inputs w)) (value_of (pool_values inputs w)) (plain_run p inputs) rows

-- a program's exploration after `n` commands
unfoldable pub exploration_after : Program → (budget most : ℕ) → ℕ → Exploring Pool Ref
unfolding pooled
exploration_after p budget most n = after_commands pooled p budget most [] n
