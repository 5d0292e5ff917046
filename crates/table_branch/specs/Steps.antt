-- The row of a path that stopped, as the functions' own proofs need it, and that the cells in use are all that a row shows. Assumes nothing.
use Rattle.std.specs.Prelude.{◌≡◌, ℕ, ◌+◌, ◌<◌, ◌≤◌, List, [], ◌∷◌, map, length, take, min, refl, Option}
use Rattle.std.proofs.Common.{◌∙◌, ap, arith, le-leb, length-take, take_all}
use Rattle.std.proofs.lemmas.Bool.{lt-leb}
use Rattle.gil.specs.Machine as Machine
use Rattle.gil.specs.Numbers.{most_rows, most_cells, for_rows}
use Rattle.machine_cells.specs.declared.Cell.{Cell}
use Rattle.machine_cells.specs.Mirror.{cell_of, held_in}
use Rattle.machine_commands.specs.declared.Control.{Control}
use Rattle.machine_commands.specs.declared.Next.{Next}
use Rattle.table_rows.specs.declared.Head.{Head}
use Rattle.table_head.specs.Mirror.{ended_in, head_in}
use Rattle.table_rows.specs.Mirror.{head_of, cells_held, held_parts, with_row, with_row_at}
use Rattle.table_rows.specs.Steps.{take_least}
use Rattle.table_branch.specs.Mirror.{cell_back, finished, finish_in}

-- the cells in use are all that a row shows
back_and_forth : (l : List Cell) → map cell_back (map cell_of l) ≡ l
back_and_forth [] = refl
back_and_forth (c ∷ l) = ap (λ (r : List Cell). c ∷ r) (back_and_forth l)

shown : (cells : List Cell) → map cell_back (held_in (min (length cells) most_cells) cells) ≡ take most_cells cells
shown cells = back_and_forth (take (min (length cells) most_cells) cells) ∙ take_least cells most_cells refl

row-shown : (h : Head) (cells : List Cell) (part conditions store : List ℕ) (frame : ℕ)
    → with_row part h conditions store frame cells ≡ with_row part h conditions store frame (map cell_back (held_in (min (length cells) most_cells) cells))
unfolding with_row held_parts head_of cells_held
row-shown h cells part conditions store frame =
    let count : min (length (take most_cells cells)) most_cells ≡ min (length cells) most_cells = omega (arith, length-take most_cells cells) in
    let all : take most_cells (take most_cells cells) ≡ take most_cells cells = take_all most_cells (take most_cells cells) (omega (arith, length-take most_cells cells)) in
    rw (shown cells, count, all)

-- as many as the row's head counts
pub row-shown-at : (h : Head) (cells : List Cell) (table conditions store : List ℕ) (k frame : ℕ)
    → with_row_at table k h conditions store frame cells
    ≡ with_row_at table k h conditions store frame (map cell_back (held_in (min (length cells) most_cells) cells))
unfolding with_row_at
row-shown-at h cells table conditions store k frame = simp (← row-shown h cells)

module _ (code : List ℕ) (branches : ℕ) (conditions table : List ℕ) (next : Option Next) (c : Control) (n : ℕ) (store : List ℕ) (ds : List (Machine.Cell ℕ)) where
  pub too_many : {rows : ℕ} → most_rows ≤ rows
      → finished for_rows rows table ≡ finish_in code branches conditions rows table next c n store ds
  unfolding finish_in
  too_many {rows} h = simp (le-leb most_rows rows h)

  pub row_written : {rows : ℕ} {h : Head} {table' : List ℕ} (cells : List Cell) → rows < most_rows → map cell_of cells ≡ ds
      → h ≡ head_in code (ended_in next n) c branches
      → table' ≡ with_row_at table rows h conditions store c.frame cells
      → finished 0 (rows + 1) table' ≡ finish_in code branches conditions rows table next c n store ds
  unfolding finish_in
  row_written {rows} cells few same e w = simp (lt-leb most_rows rows few) (rw (w, e, ← same, back_and_forth cells))
