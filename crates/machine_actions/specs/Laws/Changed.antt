-- What the actions on cells answer and leave, on words, as document 01 has them: one evaluation and test after another; the cells in use are
-- the machine's cells with words for values. Assumes nothing.
use Rattle.std.specs.Prelude.{ℕ, suc, ◌/◌, ◌%◌, Bool, true, false, ◌≡◌, refl, List, [], ◌∷◌, length, Option, Result, ltb, eqb}
use Rattle.std.proofs.Common.{ap}
use Rattle.gil.specs.Numbers.{most_cells, location_tag}
use Rattle.gil.specs.Values.{Value, term}
use Rattle.gil.specs.Machine as Machine
use Rattle.gil.specs.Machine.{is_at, is_before, put_cell, without_cells}
use Rattle.gil.specs.declared.errors.Error as Errors
use Rattle.gil.specs.declared.errors.Error.TheVariants.{WrongSort, ThirtyThirdCell}
use Rattle.machine_code.specs.declared.kinds.CommandKind.{CommandKind}
use Rattle.machine_code.specs.declared.kinds.CommandKind.TheVariants.{Lookup, Mutate, Dispose}
use Rattle.machine_code.specs.Mirror.{if?}
use Rattle.machine_terms.specs.Mirror.{Did}
use Rattle.machine_evaluate.specs.Mirror.{by_result, evaluate_in}
use Rattle.machine_cells.specs.Laws.Served.{looked_in}
pub use Rattle.machine_cells.specs.Laws.Served.{put-length}
use Rattle.machine_commands.specs.declared.Control.{Control}
use Rattle.machine_commands.specs.declared.Command.{Command}
use Rattle.machine_commands.specs.declared.Next.TheVariants.{Error}
use Rattle.machine_commands.specs.Mirror.{Acted, acted, After, assign_in, on_value, step_in}
pub use Rattle.machine_actions.specs.Mirror.{Kept, kept, keeping, Changed, changed}
use Rattle.machine_actions.specs.Mirror.{told_in}

-- `lookup`: 2 wrong sort, 3 no such cell
unfoldable pub look_at : Control → Command → ℕ → List (Machine.Cell ℕ) → List ℕ → Acted
look_at c m v ds store =
    if? (eqb (v / 4294967296) location_tag) (told_in c m.target store (looked_in (v % 4294967296) m.other ds)) (acted (Error WrongSort) store)

unfoldable pub lookup_in : List ℕ → Control → Command → List (Machine.Cell ℕ) → List ℕ → List ℕ → ℕ → After
lookup_in code c m ds store pool count =
    on_value (evaluate_in code store c.frame m.first pool count) store (λ v. look_at c m v ds store)

-- `mutate`: 2 wrong sort, 7 a thirty-third cell
unfoldable pub mutate_at : Control → Command → ℕ → ℕ → List (Machine.Cell ℕ) → List ℕ → Kept
mutate_at c m v u ds store =
    if? (eqb (v / 4294967296) location_tag)
    (if? (ltb most_cells (length (put_cell (v % 4294967296) m.other (term 0) ds))) (keeping (acted (Error ThirtyThirdCell) store) ds)
    (keeping (assign_in c m.target 8589934593 store) (put_cell (v % 4294967296) m.other (term u) ds)))
    (keeping (acted (Error WrongSort) store) ds)

unfoldable pub dispose_at : Control → Command → ℕ → List (Machine.Cell ℕ) → List ℕ → Kept
dispose_at c m v ds store =
    if? (eqb (v / 4294967296) location_tag)
    (keeping (assign_in c m.target 8589934593 store) (without_cells (v % 4294967296) ds))
    (keeping (acted (Error WrongSort) store) ds)

-- a command that leaves the cells as they are
abbrev pub of_after : After → List (Machine.Cell ℕ) → Changed
of_after a ds = changed (record { next = a.next; store = a.store; cells = ds }) a.pool a.count

unfoldable pub on_operand : Did (Result ℕ Errors.Error) → List ℕ → List (Machine.Cell ℕ) → (ℕ → List ℕ → ℕ → Changed) → Changed
on_operand d store ds f = by_result d.out (λ v. f v d.pool d.count) (λ e. changed (keeping (acted (Error e) store) ds) d.pool d.count)

module _ (code : List ℕ) (c : Control) (m : Command) (ds : List (Machine.Cell ℕ)) (store : List ℕ) where
  unfoldable pub mutate_second : ℕ → List ℕ → ℕ → Changed
  mutate_second v pool count =
      on_operand (evaluate_in code store c.frame m.second pool count) store ds (λ u p n. changed (mutate_at c m v u ds store) p n)

  unfoldable pub mutate_in : List ℕ → ℕ → Changed
  mutate_in pool count = on_operand (evaluate_in code store c.frame m.first pool count) store ds mutate_second

  unfoldable pub dispose_in : List ℕ → ℕ → Changed
  dispose_in pool count =
      on_operand (evaluate_in code store c.frame m.first pool count) store ds (λ v p n. changed (dispose_at c m v ds store) p n)

-- a choice by a command's kind: the three actions on cells, or another
abbrev pub by_kind : {A : Type 0} → CommandKind → A → A → A → A → A
by_kind Lookup a b d e = a
by_kind Mutate a b d e = b
by_kind Dispose a b d e = d
by_kind _ a b d e = e

-- the engine's move: the actions on cells, and `step` for every other command
unfoldable pub engine_in : List ℕ → Control → Command → Option (List ℕ) → List (Machine.Cell ℕ) → List ℕ → List ℕ → ℕ → Changed
engine_in code c m known ds store pool count =
    by_kind m.kind (of_after (lookup_in code c m ds store pool count) ds) (mutate_in code c m ds store pool count) (dispose_in code c m ds store pool count)
    (of_after (step_in code c m known store pool count) ds)
