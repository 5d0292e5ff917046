-- The plain run: the machine over constants alone, with the sixteen inputs known and a step budget. Its answer is a row without
-- conditions. Assumes nothing.
use Rattle.std.specs.Prelude.{ℕ, zero, suc, false, List, [], get_or}
use Rattle.gil.specs.Names.{Program}
use Rattle.gil.specs.Values.{number, boolean, Sort, Value, const, Node, input, neg, bin}
use Rattle.gil.specs.Machine.{Model, State, Next, on, ends, fork, move, start}
use Rattle.gil.specs.Rows.{Row, row_of, Path, ended, cut_for, steps}

-- there is no term
unfoldable pub no_sort : ⊥ → Sort
no_sort t = absurd t

-- `iSym` yields the input itself. No operator is ever asked to make a term here: all its operands are constants.
unfoldable pub known : List ℕ → Unit {0} → Node ⊥ → Unit {0} × Value ⊥
known inputs w (input k) = (tt, const (number (get_or inputs k 0)))
known inputs w (neg a) = (tt, const (boolean false))
known inputs w (bin o a b) = (tt, const (boolean false))

unfoldable pub plain : List ℕ → Model
plain inputs = record { World = Unit {0}; Term = ⊥; sort = no_sort; made = λ w. 0; make = known inputs }

-- a plain run is a path with no conditions
unfoldable pub ran : ℕ → State ⊥ → Path ⊥
ran n s = record { state = s; steps = n; conditions = [] }

unfoldable pub ran_to : (ℕ → State ⊥ → Row ⊥) → ℕ → State ⊥ → Next ⊥ → Row ⊥
ran_to run n s (on s') = run (suc n) s'
ran_to run n s (ends e) = row_of (ended e) (suc n) (ran n s)
ran_to run n s (fork t a b) = absurd t

-- "Each command executed counts one step; a command that ends the path counts too": `k` steps are left and `n` are taken
unfoldable pub run_for : List ℕ → Program → ℕ → ℕ → State ⊥ → Row ⊥
unfolding plain
run_for inputs p zero n s = cut_for steps (ran n s)
run_for inputs p (suc k) n s = ran_to (run_for inputs p k) n s (move (plain inputs) p tt s).next

unfoldable pub plain_run : Program → List ℕ → ℕ → Row ⊥
plain_run p inputs budget = run_for inputs p budget 0 (start p)
