-- What `tables::explore` returns and leaves: the exploration of the needed parts, and the surplus as it was. Definitions only. Assumes nothing.
use Rattle.std.specs.Prelude.{ℕ, ◌≡◌, List, ◌++◌, take, drop}
use Rattle.gil.specs.Numbers.{table_length, pool_length}
use Rattle.table_explore.specs.Mirror.{explore_in}

pub record Leaves (code : List ℕ) (steps branches : ℕ) (t w : List ℕ) (r : ℕ) (t' w' : List ℕ) : Type 0 where
  pub answers : r ≡ (explore_in code steps branches (take table_length t) (take pool_length w)).refusal
  pub table : t' ≡ (explore_in code steps branches (take table_length t) (take pool_length w)).table ++ drop table_length t
  pub pool : w' ≡ (explore_in code steps branches (take table_length t) (take pool_length w)).pool ++ drop pool_length w
