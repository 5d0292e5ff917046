-- The cells in use, as the machine's cells: a value is its word. Assumes nothing.
use Rattle.std.specs.Prelude.{ℕ, zero, suc, ◌+◌, ◌-◌, ◌<◌, ◌≤◌, Bool, true, false, ◌||◌, List, [], ◌∷◌, ◌++◌, map, ◌≡◌, length, slice_index_or, set, take, drop}
use Rattle.std.specs.List.{insert}
use Rattle.std.specs.declared.cmp.Ordering.{Ordering}
use Rattle.std.specs.Ordering.{nat_cmp, ordering_then}
use Rattle.std.proofs.Math.Option.{Option, none, some}
use Rattle.gil.specs.Values.{Value, const, term}
use Rattle.gil.specs.Machine as Machine
use Rattle.gil.specs.Machine.{is_at, is_before, cell_at, put_cell, without_cells}
use Rattle.machine_cells.specs.declared.Cell.{Cell}

abbrev pub cell_of : Cell → Machine.Cell ℕ
cell_of c = record { location = c.location.0; property = c.property; value = term c.value }

-- what an array of cells begins with
abbrev pub no_cell : Cell
no_cell = record { location = record { 0 = 0 }; property = 0; value = 0 }

abbrev pub held_in : ℕ → List Cell → List (Machine.Cell ℕ)
held_in n cells = map cell_of (take n cells)

-- those from a place on
abbrev pub from_in : ℕ → ℕ → List Cell → List (Machine.Cell ℕ)
from_in i n cells = map cell_of (drop i (take n cells))

-- a value's word, and 0 where there is none
abbrev pub word_of : Value ℕ → ℕ
word_of (const c) = 0
word_of (term w) = w

abbrev pub found_in : Option (Value ℕ) → ℕ
found_in none = 0
found_in (some v) = word_of v

abbrev pub cell : ℕ → ℕ → Value ℕ → Machine.Cell ℕ
cell l q v = record { location = l; property = q; value = v }

-- a cell against a place, as cells are kept in order
abbrev pub against : ℕ → ℕ → Cell → Ordering
against l q c = ordering_then (nat_cmp c.location.0 l) (nat_cmp c.property q)

-- what a search answers: the place of the cell sought
pub record StandsAt (l q : ℕ) (cs : List (Machine.Cell ℕ)) (i : ℕ) : Type 0 where
  pub inside : i < length cs
  pub found : cell_at l q cs ≡ some (slice_index_or cs i (cell_of no_cell)).value
  pub put : (v : Value ℕ) → put_cell l q v cs ≡ set cs i (cell l q v)

-- or, where it is not among them, the place before the first beyond it
pub record LacksAt (l q : ℕ) (cs : List (Machine.Cell ℕ)) (i : ℕ) : Type 0 where
  pub inside : i ≤ length cs
  pub found : cell_at l q cs ≡ none
  pub put : (v : Value ℕ) → put_cell l q v cs ≡ insert cs i (cell l q v)

-- where a search ends: at the cell sought, or at the first beyond it
unfoldable pub reaches : ℕ → ℕ → Machine.Cell ℕ → Bool
reaches l q c = is_at l q c || is_before l q c

-- the first place, counted from `k`, where it ends
unfoldable pub place_from : ℕ → ℕ → ℕ → List (Machine.Cell ℕ) → ℕ
place_from l q k [] = k
place_from l q k (c ∷ cs) = elim (reaches l q c) [ true ↦ k | false ↦ place_from l q (suc k) cs ]

-- whether the first cell is the one sought
unfoldable pub leads : ℕ → ℕ → List (Machine.Cell ℕ) → Bool
leads l q [] = false
leads l q (c ∷ cs) = is_at l q c

-- where a search from the front ends, and whether the cell sought stands there
pub record EndsAt (l q : ℕ) (there : Bool) (cs : List (Machine.Cell ℕ)) (i : ℕ) : Type 0 where
  pub place : i ≡ place_from l q 0 cs
  pub stands : leads l q (drop i cs) ≡ there

-- a cell pushed in front of the first `k`, the last of which drops out
unfoldable pub shift_in : {A : Type 0} → ℕ → A → List A → List A
shift_in zero c l = l
shift_in (suc k) c [] = []
shift_in (suc k) c (x ∷ l) = c ∷ shift_in k x l

-- a cell put in at a place, the cells from there up to the place `last` moved up
unfoldable pub carried_in : ℕ → ℕ → Cell → List Cell → List Cell
carried_in at last c cells = take at cells ++ shift_in (last + 1 - at) c (drop at cells)

-- a location's cells taken out of the first `among`, `kept` of them left; those behind them stay
abbrev pub Removed : ℕ → ℕ → List Cell → ℕ → List Cell → Type 0
Removed l among before kept after =
    (kept ≡ length (without_cells l (held_in among before)))
    × (held_in kept after ≡ without_cells l (held_in among before))
    × (drop among after ≡ drop among before)
