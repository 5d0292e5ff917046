-- An action done on an array of cells, step by step: what the variable is given and which cells are left are Machine's, and the array stays tidy.
-- The methods of a memory go by it. Assumes nothing.
use Rattle.std.specs.Prelude.{ℕ, ◌+◌, ◌<◌, ◌≡◌, refl, List, map, length, set, take, slice_index_or, Result, Ok, Err}
use Rattle.std.proofs.Common.{◌∙◌, ap, arith, length-take, get_or-take}
use Rattle.std.proofs.lemmas.List.{length-map, get_or-map}
use Rattle.gil.specs.Numbers.{most_cells}
use Rattle.gil.specs.Machine as Machine
use Rattle.gil.specs.declared.errors.Error.{Error}
use Rattle.gil.specs.declared.errors.Error.TheVariants.{NoSuchCell, ThirtyThirdCell}
use Rattle.machine_values.specs.declared.Location.{Location}
use Rattle.machine_cells.specs.declared.Cell.{Cell}
use Rattle.machine_cells.specs.declared.Ask.{Ask}
use Rattle.machine_cells.specs.declared.Ask.TheVariants.{Lookup, Mutate, Dispose}
use Rattle.machine_cells.specs.Mirror.{cell_of, no_cell, held_in, word_of, StandsAt, LacksAt, carried_in, Removed}
use Rattle.machine_cells.specs.Laws.InUse.{without_fewer}
use Rattle.machine_cells.specs.Laws.Order.{without_keeps}
use Rattle.machine_cells.specs.Laws.Served.{Tidy, value_or, given_by, left_by}
use Rattle.machine_cells.specs.Laws.Written.{in_use, over_holds, over_fits, over_tidy, lacks_room, between_holds, between_fits, between_tidy, between_is}

-- what is given, how many cells are in use then, and the array: where a search found the cell, or where it belongs, it is read, written over or put
-- in between; or a location's cells are taken out
pub data Done (held : ℕ) (cells : List Cell) : Ask → Result ℕ Error → ℕ → List Cell → Type 0 where
  read : (l : Location) (q at : ℕ) → StandsAt l.0 q (held_in held cells) at → Done held cells (Lookup l q) (Ok (slice_index_or cells at no_cell).value) held cells
  missed : (l : Location) (q at : ℕ) → LacksAt l.0 q (held_in held cells) at → Done held cells (Lookup l q) (Err NoSuchCell) held cells
  over : (c : Cell) (at : ℕ) → StandsAt c.location.0 c.property (held_in held cells) at
      → Done held cells (Mutate c.location c.property c.value) (Ok 8589934593) held (set cells at c)
  between : (c : Cell) (at : ℕ) → LacksAt c.location.0 c.property (held_in held cells) at → (held ≡ most_cells → ⊥)
      → Done held cells (Mutate c.location c.property c.value) (Ok 8589934593) (held + 1) (carried_in at held c cells)
  full : (c : Cell) (at : ℕ) → LacksAt c.location.0 c.property (held_in held cells) at → held ≡ most_cells
      → Done held cells (Mutate c.location c.property c.value) (Err ThirtyThirdCell) held cells
  removed : (l : Location) (kept : ℕ) (after : List Cell) → Removed l.0 held cells kept after → length after ≡ length cells
      → Done held cells (Dispose l) (Ok 8589934593) kept after

pub served : {a : Ask} {held n : ℕ} {cells after : List Cell} {given : Result ℕ Error} → Tidy held cells → Done held cells a given n after
    → (given ≡ given_by a (held_in held cells)) × (held_in n after ≡ left_by a (held_in held cells)) × Tidy n after
served {held = held} {cells = cells} tidy (read l q at s) =
    let inside : at < held = omega (arith, s.inside, in_use held at cells no_cell tidy) in
    let e : slice_index_or (held_in held cells) at (cell_of no_cell) ≡ cell_of (slice_index_or cells at no_cell) =
    get_or-map cell_of (take held cells) at no_cell (cell_of no_cell) (omega (arith, s.inside, length-map (take held cells) cell_of))
    ∙ ap cell_of (get_or-take held cells at no_cell inside) in
    (simp (s.found, e), refl, tidy)
served tidy (missed l q at s) = (simp s.found, refl, tidy)
served {held = held} {cells = cells} tidy (over c at s) =
    let e = over_fits held at cells c tidy s in
    (simp e, simp e (over_holds held at cells c tidy s), over_tidy held at cells c tidy s)
served {held = held} {cells = cells} tidy (between c at s less) =
    let e = between_fits held at cells c tidy s less in
    let f = between_is held at cells c tidy s less in
    (simp e, rw f (simp e (between_holds held at cells c tidy s less)), rw f (between_tidy held at cells c tidy s less))
served {held = held} {cells = cells} tidy (full c at s e) =
    let f = lacks_room held at cells c tidy s e in
    (simp f, simp f, tidy)
served {held = held} {cells = cells} tidy (removed l kept after r len) = (
  refl,
  r.1,
  record {
    few = omega (arith, r.0, without_fewer l.0 (held_in held cells), length-map (take held cells) cell_of, length-take held cells, tidy.few);
    whole = len ∙ tidy.whole;
    order = rw r.1 (without_keeps l.0 (held_in held cells) tidy.order);
  },
)
