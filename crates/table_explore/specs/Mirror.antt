-- The exploration on words: where it begins, and what `explore` answers and leaves. Assumes nothing.
use Rattle.std.specs.Prelude.{ℕ, List, [], ◌∷◌, length, replicate, eqb}
use Rattle.gil.specs.Numbers.{most_branches}
use Rattle.machine_code.specs.Mirror.{if?}
use Rattle.machine_commands.specs.Mirror.{start_in, start_store}
use Rattle.table_advance.specs.Mirror.Followed.{spot}
use Rattle.lent_words.specs.Mirror.{put_words}
use Rattle.table_branch.specs.declared.Branch.{Branch}
use Rattle.table_walk.specs.Mirror.{Reached, walk_in}

-- the branch where every path begins
unfoldable pub begin_in : List ℕ → Branch
begin_in code = record { control = start_in code; steps = 0; branches = 0; conditions = replicate most_branches 0 }

-- what `explore` returns and leaves
pub record Explored : Type 0 where
  pub refusal : ℕ
  pub table : List ℕ
  pub pool : List ℕ

abbrev pub explored : ℕ → List ℕ → List ℕ → Explored
explored n t p = record { refusal = n; table = t; pool = p }

unfoldable pub explored_by : ℕ → ℕ → Reached → Explored
explored_by table_length pool_length r =
    if? (eqb r.refusal 0)
    (explored 0 (put_words r.table 0 (r.rows ∷ r.count ∷ [])) r.pool)
    (explored r.refusal (replicate table_length 0) (replicate pool_length 0))

unfoldable pub explore_in : List ℕ → ℕ → ℕ → List ℕ → List ℕ → Explored
explore_in code budget most table pool =
    explored_by (length table) (length pool)
    (walk_in code budget most 0 0 (replicate most_branches 0)
    (spot (start_in code) start_store [] (replicate (length pool) 0) 0) 0 (replicate (length table) 0))
