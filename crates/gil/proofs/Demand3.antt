-- Demand 3, as theorems about the definitions: every order is accounted for, at every moment, also when a budget ends. For every program,
-- budgets and list of inputs (the calls take sixteen; past its end a list is 0). What the words mean is in Accounts and in the files
-- that it names; the proofs are in Theory. Assumes nothing.
use Rattle.std.specs.Prelude.{ℕ, suc, ◌*◌, ◌≤◌, ◌≡◌, List, [], ◌++◌, map}
use Rattle.gil.specs.Names.{Program}
use Rattle.gil.specs.Rows.{Path, Row, cut_for, steps}
use Rattle.gil.specs.Explore.{exploring, explored, waiting_on, explore}
use Rattle.gil.specs.Pool.{Ref, Pool, table, pool_values, placed}
use Rattle.gil.specs.Accounts.{Accounts, exploration_after}
use Rattle.gil.proofs.Theory.Trees.{value_in, trees}
use Rattle.gil.proofs.Theory.ReadBack.{trees_of, pool_values_lem}
use Rattle.gil.proofs.Theory.PoolTree.{counted}
use Rattle.gil.proofs.Theory.AsTerms.{as_terms, table-read}
use Rattle.gil.proofs.Theory.Pooled.{commands-accounted, commands-table, table-accounted, placed-only}

-- after every command of the exploration, the finished rows with the waiting branches read as cut account for the inputs
pub after_every_command :
    (p : Program) (budget most : ℕ) (inputs : List ℕ) (n : ℕ) (w : Pool) (rows : List (Row Ref)) (waiting : List (Path Ref))
    → exploration_after p budget most n ≡ exploring w rows waiting → Accounts p inputs w (rows ++ map (cut_for steps) waiting)
after_every_command = commands-accounted

-- so does the finished table, where it is not refused; and `placed` is that row's place
pub of_the_table :
    (p : Program) (budget most : ℕ) (inputs : List ℕ) (w : Pool) (rows : List (Row Ref))
    → table p budget most ≡ explored w rows → (a : Accounts p inputs w rows) × (placed inputs w rows ≡ a.place)
of_the_table p budget most inputs w rows e =
    let a = table-accounted p budget most inputs w rows e in
    (a, placed-only p inputs w rows a)

-- the exploration ends: after 65 × (budget + 1) commands nothing waits, and it has come to the table, or to its refusal
pub ends-at_the_table :
    (p : Program) (budget most n : ℕ) → 65 * suc budget ≤ n → exploration_after p budget most n ≡ waiting_on [] (table p budget most)
ends-at_the_table = commands-table

-- evaluating the pool front to back gives each term the value of the tree that it reads as
pub values_of_the_pool : (inputs : List ℕ) (w : Pool) → pool_values inputs w ≡ map (value_in inputs) (trees_of w)
values_of_the_pool = pool_values_lem

-- the table read as terms is what exploring over trees gives: the same rows, or the same refusal
pub table_as_terms : (p : Program) (budget most : ℕ) → as_terms (table p budget most) ≡ explore (trees counted) p budget most []
table_as_terms = table-read
