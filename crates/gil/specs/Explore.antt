-- "Exploring", over any model of terms: one command at a time over finished rows and waiting branches, and the table as a total
-- function, depth first, true branch first. Refusals 9 and 10 are the first to come. Assumes nothing.
use Rattle.std.specs.Prelude.{ℕ, zero, suc, Bool, true, false, List, [], ◌∷◌, ◌++◌, length, ltb, leb}
use Rattle.gil.specs.Numbers.{most_rows, most_terms, for_rows, for_terms}
use Rattle.gil.specs.Names.{Program}
use Rattle.gil.specs.Machine.{Model, State, Next, on, ends, fork, Moved, move, start}
use Rattle.gil.specs.Rows.{Path, Row, row_of, cut_for, ended, steps, branches}

-- what a path comes to by one command: a finished row, itself one step on, or its two branches
pub data Turn (T : Type 0) : Type 0 where
  finishes : Row T → Turn T
  goes : Path T → Turn T
  forks : Path T → Path T → Turn T

module _ {T : Type 0} where
  unfoldable pub stepped : State T → Path T → Path T
  stepped s q = record { state = s; steps = suc q.steps; conditions = q.conditions }

  unfoldable pub branched : T → Bool → State T → Path T → Path T
  branched t b s q =
      record { state = s; steps = suc q.steps; conditions = q.conditions ++ (record { term = t; truth = b } ∷ []) }

  -- "for `branches` when a jump's condition is a boolean term and the path already has as many conditions as the branch budget; that
  -- jump is not counted as a step"
  unfoldable pub turned : ℕ → Path T → Next T → Turn T
  turned most q (on s) = goes (stepped s q)
  turned most q (ends e) = finishes (row_of (ended e) (suc q.steps) q)
  turned most q (fork t a b) =
      elim (leb most (length q.conditions)) [
        | true ↦ finishes (cut_for branches q)
        | false ↦ forks (branched t true a q) (branched t false b q)
      ]

-- an exploration: refused, or the world of terms and the finished rows so far
pub data Explored (W T : Type 0) : Type 0 where
  refused : ℕ → Explored W T
  explored : W → List (Row T) → Explored W T

-- the same, with the branches that wait: the first is the one to go on with
pub data Exploring (W T : Type 0) : Type 0 where
  stopped : ℕ → Exploring W T
  exploring : W → List (Row T) → List (Path T) → Exploring W T

module _ {W T : Type 0} where
  -- 9: "a 65th row would be finished"
  unfoldable pub finish : W → List (Row T) → Row T → Explored W T
  finish w rows r = elim (leb most_rows (length rows)) [ true ↦ refused for_rows | false ↦ explored w (rows ++ (r ∷ [])) ]

  unfoldable pub waiting_on : List (Path T) → Explored W T → Exploring W T
  waiting_on qs (refused n) = stopped n
  waiting_on qs (explored w rows) = exploring w rows qs

  unfoldable pub on_turn : W → List (Row T) → List (Path T) → Turn T → Exploring W T
  on_turn w rows qs (finishes r) = waiting_on qs (finish w rows r)
  on_turn w rows qs (goes q) = exploring w rows (q ∷ qs)
  on_turn w rows qs (forks a b) = exploring w rows (a ∷ b ∷ qs)

  unfoldable pub walk_turn : (Path T → Explored W T → Explored W T) → W → List (Row T) → Turn T → Explored W T
  walk_turn walk w rows (finishes r) = finish w rows r
  walk_turn walk w rows (goes q) = walk q (explored w rows)
  walk_turn walk w rows (forks a b) = walk b (walk a (explored w rows))

module _ (M : Model) (p : Program) where
  -- 10: "a 2,049th term would be made"; "a command makes its terms before it finishes a row"
  unfoldable pub overfull : M.World → Bool
  overfull w = ltb most_terms (M.made w)

  unfoldable pub turn_in : ℕ → Path M.Term → Moved M → Turn M.Term
  turn_in most q m = turned most q m.next

  -- one command of the exploration
  unfoldable pub after_move : ℕ → List (Row M.Term) → Path M.Term → List (Path M.Term) → Moved M → Exploring M.World M.Term
  after_move most rows q qs m =
      elim (overfull m.world) [ true ↦ stopped for_terms | false ↦ on_turn m.world rows qs (turn_in most q m) ]

  -- "Steps are tested first."
  unfoldable pub advance : (budget most : ℕ) → Exploring M.World M.Term → Exploring M.World M.Term
  advance budget most (stopped n) = stopped n
  advance budget most (exploring w rows []) = exploring w rows []
  advance budget most (exploring w rows (q ∷ qs)) =
      elim (leb budget q.steps) [
        | true ↦ waiting_on qs (finish w rows (cut_for steps q))
        | false ↦ after_move most rows q qs (move M p w q.state)
      ]

  unfoldable pub begin : Path M.Term
  begin = record { state = start p; steps = 0; conditions = [] }

  -- the exploration after `n` commands (a cut for steps counts as one)
  unfoldable pub after_commands : (budget most : ℕ) → M.World → ℕ → Exploring M.World M.Term
  after_commands budget most w zero = exploring w [] (begin ∷ [])
  after_commands budget most w (suc n) = advance budget most (after_commands budget most w n)

  -- the rows that a path adds, with `k` steps left: "true branch first, to its end, and then the false one"
  unfoldable pub walk_move :
      ℕ → (Path M.Term → Explored M.World M.Term → Explored M.World M.Term)
      → Path M.Term → List (Row M.Term) → Moved M → Explored M.World M.Term
  walk_move most walk q rows m =
      elim (overfull m.world) [ true ↦ refused for_terms | false ↦ walk_turn walk m.world rows (turn_in most q m) ]

  unfoldable pub walk : ℕ → ℕ → Path M.Term → Explored M.World M.Term → Explored M.World M.Term
  walk most zero q (refused n) = refused n
  walk most zero q (explored w rows) = finish w rows (cut_for steps q)
  walk most (suc k) q (refused n) = refused n
  walk most (suc k) q (explored w rows) = walk_move most (walk most k) q rows (move M p w q.state)

  -- the table
  unfoldable pub explore : (budget most : ℕ) → M.World → Explored M.World M.Term
  explore budget most w = walk most budget begin (explored w [])
