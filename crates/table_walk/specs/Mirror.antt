-- The exploration on words, from a path on: what `walk` answers and leaves. Assumes nothing.
use Rattle.std.specs.Prelude.{ℕ, zero, suc, ◌+◌, ◌-◌, ◌%◌, List, eqb, Option, None, Some}
use Rattle.gil.specs.Machine as Machine
use Rattle.gil.specs.Numbers.{for_terms}
use Rattle.machine_code.specs.Mirror.{if?}
use Rattle.machine_commands.specs.declared.Control.{Control}
use Rattle.machine_commands.specs.declared.Next.{Next}
use Rattle.machine_commands.specs.declared.Next.TheVariants.{On, Returned, Failed, Vanished, Error, Fork}
use Rattle.table_advance.specs.Mirror.Followed.{Spot, spot, Stopped, follow_in, one_in}
use Rattle.table_branch.specs.declared.Branch.{Branch}
use Rattle.table_branch.specs.Mirror.{finish_in, full_in, condition_on, conditions_with}
use Rattle.table_walk.specs.declared.Budgets.{Budgets}

-- how far an exploration is: 0 or its refusal, the rows written, and the lent memory
pub record Reached : Type 0 where
  pub refusal : ℕ
  pub rows : ℕ
  pub table : List ℕ
  pub pool : List ℕ
  pub count : ℕ

abbrev pub reached : ℕ → ℕ → List ℕ → List ℕ → ℕ → Reached
reached n r t p k = record { refusal = n; rows = r; table = t; pool = p; count = k }

unfoldable pub row_in : List ℕ → ℕ → List ℕ → ℕ → List ℕ → Stopped → Reached
row_in code branches conditions rows table f =
    let w = finish_in code branches conditions rows table f.next f.control f.steps f.store f.cells in
    reached w.refusal w.rows w.table f.pool f.count

-- the other branch, where the first was not refused
unfoldable pub after_first : Reached → (Reached → Reached) → Reached
after_first r f = if? (eqb r.refusal 0) (f r) r

-- what a path that stopped comes to, where a fork's branches are known
unfoldable pub turn_by : (ℕ → Control → Control → Reached) → Reached → Option Next → Reached
turn_by forks row None = row
turn_by forks row (Some (On d)) = row
turn_by forks row (Some (Returned t w)) = row
turn_by forks row (Some (Failed t w)) = row
turn_by forks row (Some Vanished) = row
turn_by forks row (Some (Error e)) = row
turn_by forks row (Some (Fork t a b)) = forks t a b

unfoldable pub settle_by : (ℕ → Control → Control → Reached) → Reached → ℕ → List ℕ → Stopped → Reached
settle_by forks row rows table f =
    if? (full_in f.next f.count) (reached for_terms rows table f.pool f.count) (turn_by forks row f.next)

-- a path's branches: the number of its steps, its conditions, where it stands, the exploration so far
abbrev pub Walk : Type 0
Walk = ℕ → ℕ → List ℕ → Spot → ℕ → List ℕ → Reached

module _ (code : List ℕ) (budget : ℕ) where
  abbrev pub onwards : ℕ → Spot → Stopped
  onwards n s = follow_in (one_in code None) (budget - n) n s

  -- "true branch first, to its end, and then the false one"
  unfoldable pub fork_by : Walk → ℕ → List ℕ → ℕ → List ℕ → Stopped → ℕ → Control → Control → Reached
  fork_by walk branches conditions rows table f t a b =
      after_first
      (walk ((f.steps + 1) % 4294967296) (branches + 1) (conditions_with branches (condition_on t 1) conditions) (spot a f.store f.cells f.pool f.count) rows table)
      (λ r. walk ((f.steps + 1) % 4294967296) (branches + 1) (conditions_with branches (condition_on t 0) conditions)
      (spot b f.store f.cells r.pool r.count) r.rows r.table)

  -- `k` branches are left: the rows that a path adds
  unfoldable pub walk_in : ℕ → Walk
  walk_in zero n branches conditions s rows table =
      let f = onwards n s in
      let row = row_in code branches conditions rows table f in
      settle_by (λ t a b. row) row rows table f
  walk_in (suc k) n branches conditions s rows table =
      let f = onwards n s in
      settle_by (fork_by (walk_in k) branches conditions rows table f) (row_in code branches conditions rows table f) rows table f

unfoldable pub walks_in : List ℕ → Budgets → Branch → List ℕ → List (Machine.Cell ℕ) → ℕ → List ℕ → List ℕ → ℕ → Reached
walks_in code budgets b store cells rows table pool count =
    walk_in code budgets.steps (budgets.branches - b.branches) b.steps b.branches b.conditions (spot b.control store cells pool count) rows table
