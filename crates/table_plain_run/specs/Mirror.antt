-- The plain run on words: what `run` leaves. Assumes nothing.
use Rattle.std.specs.Prelude.{ℕ, ◌≡◌, List, [], ◌∷◌, ◌++◌, map, drop, replicate, Some}
use Rattle.gil.specs.Numbers.{most_branches, answer_length}
use Rattle.machine_cells.specs.declared.Cell.{Cell}
use Rattle.machine_cells.specs.Mirror.{cell_of}
use Rattle.machine_commands.specs.Mirror.{start_in, start_store}
use Rattle.table_rows.specs.Mirror.{with_row}
use Rattle.table_head.specs.Mirror.{ended_in, head_in}
use Rattle.table_advance.specs.Mirror.Followed.{spot, Stopped, follow_in, one_in}

-- a path followed with known inputs; there is no pool
unfoldable pub run_in : List ℕ → List ℕ → ℕ → Stopped
run_in code inputs budget = follow_in (one_in code (Some inputs)) budget 0 (spot (start_in code) start_store [] (0 ∷ []) 0)

-- "plain run": the row of the path's end, without conditions, written over zeros
pub record Answered (code inputs : List ℕ) (budget : ℕ) (answer left : List ℕ) : Type 0 where
  pub cells : List Cell
  pub in_use : map cell_of cells ≡ (run_in code inputs budget).cells
  pub written :
      let f = run_in code inputs budget in
      left ≡ with_row (replicate answer_length 0 ++ drop answer_length answer) (head_in code (ended_in f.next f.steps) f.control 0)
      (replicate most_branches 0) f.store f.control.frame cells
