-- On words: the row of a path that stopped, whether the pool is overfull, a branch's conditions and the two branches of a fork. Assumes nothing.
use Rattle.std.specs.Prelude.{ℕ, ◌+◌, ◌%◌, Bool, false, List, map, nat_le, nat_lt, slice_set, Option, None, Some, Result, Ok, Err}
use Rattle.gil.specs.Numbers.{most_branches, most_rows, most_terms, for_rows}
use Rattle.gil.specs.Machine as Machine
use Rattle.gil.specs.declared.refusals.Refusal.{Refusal}
use Rattle.gil.specs.declared.refusals.Refusal.TheVariants.{Terms}
use Rattle.machine_code.specs.Mirror.{if?}
use Rattle.machine_cells.specs.declared.Cell.{Cell}
use Rattle.machine_cells.specs.Mirror.{word_of}
use Rattle.machine_commands.specs.declared.Control.{Control}
use Rattle.machine_commands.specs.declared.Next.{Next}
use Rattle.machine_commands.specs.declared.Next.TheVariants.{On, Returned, Failed, Vanished, Error, Fork}
use Rattle.table_head.specs.Mirror.{ended_in, head_in}
use Rattle.table_rows.specs.Mirror.{with_row_at}
use Rattle.table_branch.specs.declared.Branch.{Branch}

-- a cell in use, as the row writer takes it
abbrev pub cell_back : Machine.Cell ℕ → Cell
cell_back c = record { location = record { 0 = c.location }; property = c.property; value = word_of c.value }

-- 9: "a 65th row would be finished"
pub record Finished : Type 0 where
  pub refusal : ℕ
  pub rows : ℕ
  pub table : List ℕ

abbrev pub finished : ℕ → ℕ → List ℕ → Finished
finished n r t = record { refusal = n; rows = r; table = t }

-- the row of a path that stopped so
unfoldable pub finish_in : List ℕ → ℕ → List ℕ → ℕ → List ℕ → Option Next → Control → ℕ → List ℕ → List (Machine.Cell ℕ) → Finished
finish_in code branches conditions rows table next c n store cells =
    if? (nat_le most_rows rows) (finished for_rows rows table)
    (finished 0 (rows + 1)
    (with_row_at table rows (head_in code (ended_in next n) c branches) conditions store c.frame (map cell_back cells)))

-- 10: "a 2,049th term would be made"; where the steps are used up none is made
unfoldable pub full_in : Option Next → ℕ → Bool
full_in None count = false
full_in (Some next) count = nat_lt most_terms count

abbrev pub room_in : Option Next → ℕ → Result (Unit {0}) Refusal
room_in next count = if? (full_in next count) (Err Terms) (Ok tt)

-- one condition more: 2 × term + truth
unfoldable pub condition_on : ℕ → ℕ → ℕ
condition_on t truth = ((t + t) % 4294967296 + truth) % 4294967296

unfoldable pub conditions_with : ℕ → ℕ → List ℕ → List ℕ
conditions_with at w conditions = if? (nat_lt at most_branches) (slice_set conditions at w) conditions

-- a branch of a path that stopped after `steps`
unfoldable pub branch_in : Branch → Control → (steps condition : ℕ) → Branch
branch_in b c steps condition =
    record {
      control = c;
      steps = (steps + 1) % 4294967296;
      branches = b.branches + 1;
      conditions = conditions_with b.branches condition b.conditions;
    }

-- the two branches of a fork, while there are branches left
unfoldable pub split_in : Branch → Option Next → (steps most : ℕ) → Option (Branch × Branch)
split_in b None n most = None
split_in b (Some (On d)) n most = None
split_in b (Some (Returned t w)) n most = None
split_in b (Some (Failed t w)) n most = None
split_in b (Some Vanished) n most = None
split_in b (Some (Error e)) n most = None
split_in b (Some (Fork t x y)) n most =
    if? (nat_le most b.branches) None (Some (branch_in b x n (condition_on t 1), branch_in b y n (condition_on t 0)))
