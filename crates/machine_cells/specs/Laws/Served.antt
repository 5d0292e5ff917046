-- What an action comes to on the cells, by Machine's `cell_at`, `put_cell` and `without_cells`; and what is true of every memory. Assumes nothing.
use Rattle.std.specs.Prelude.{ℕ, suc, ◌≤◌, Bool, true, false, ◌≡◌, refl, List, [], ◌∷◌, nat_lt, length, Result, Ok, Err}
use Rattle.std.proofs.Common.{ap, arith, ltb-false}
use Rattle.std.proofs.Math.Option.{Option, none, some}
use Rattle.gil.specs.Numbers.{most_cells}
use Rattle.gil.specs.Values.{Value, term}
use Rattle.gil.specs.Machine as Machine
use Rattle.gil.specs.Machine.{is_at, is_before, cell_at, put_cell, without_cells}
use Rattle.gil.specs.declared.errors.Error.{Error}
use Rattle.gil.specs.declared.errors.Error.TheVariants.{NoSuchCell, ThirtyThirdCell}
use Rattle.machine_code.specs.Mirror.{if?}
use Rattle.machine_values.specs.declared.Location.{Location}
use Rattle.machine_cells.specs.declared.Cell.{Cell}
use Rattle.machine_cells.specs.declared.Ask.{Ask}
use Rattle.machine_cells.specs.declared.Ask.TheVariants.{Lookup, Mutate, Dispose}
use Rattle.machine_cells.specs.Mirror.{held_in, word_of}
use Rattle.machine_cells.specs.Laws.Order.{Ordered, empty, put_keeps, without_keeps}
use Rattle.machine_cells.specs.Laws.InUse.{without_fewer}

-- an array whose first `held` cells are in use and in order
pub record Tidy (held : ℕ) (cells : List Cell) : Type 0 where
  pub few : held ≤ most_cells
  pub whole : length cells ≡ most_cells
  pub order : Ordered (held_in held cells)

-- the value of the cell that was found
abbrev pub value_or : Error → Option (Value ℕ) → Result ℕ Error
value_or e none = Err e
value_or e (some v) = Ok (word_of v)

abbrev pub looked_in : ℕ → ℕ → List (Machine.Cell ℕ) → Result ℕ Error
looked_in l q ds = value_or NoSuchCell (cell_at l q ds)

-- there is no room for the cell
abbrev pub full_for : ℕ → ℕ → List (Machine.Cell ℕ) → Bool
full_for l q ds = nat_lt most_cells (length (put_cell l q (term 0) ds))

abbrev pub mutated_in : ℕ → ℕ → List (Machine.Cell ℕ) → Result ℕ Error
mutated_in l q ds = if? (full_for l q ds) (Err ThirtyThirdCell) (Ok 8589934593)

abbrev pub put_in : ℕ → ℕ → ℕ → List (Machine.Cell ℕ) → List (Machine.Cell ℕ)
put_in l q w ds = if? (full_for l q ds) ds (put_cell l q (term w) ds)

-- what an action's variable is given, or the error
abbrev pub given_by : Ask → List (Machine.Cell ℕ) → Result ℕ Error
given_by (Lookup l q) ds = looked_in l.0 q ds
given_by (Mutate l q w) ds = mutated_in l.0 q ds
given_by (Dispose l) ds = Ok 8589934593

-- the cells after it
abbrev pub left_by : Ask → List (Machine.Cell ℕ) → List (Machine.Cell ℕ)
left_by (Lookup l q) ds = ds
left_by (Mutate l q w) ds = put_in l.0 q w ds
left_by (Dispose l) ds = without_cells l.0 ds

-- what an action of each kind gives and leaves
module _ {a : Ask} (ds : List (Machine.Cell ℕ)) where
  pub given_look : (l : Location) (q : ℕ) → a ≡ Lookup l q → given_by a ds ≡ value_or NoSuchCell (cell_at l.0 q ds)
  given_look l q e = rw e refl

  pub given_write : (l : Location) (q w : ℕ) → a ≡ Mutate l q w → {b : Bool} → full_for l.0 q ds ≡ b → given_by a ds ≡ if? b (Err ThirtyThirdCell) (Ok 8589934593)
  given_write l q w e f = rw e (ap (λ (b : Bool). if? b (Err ThirtyThirdCell) (Ok 8589934593)) f)

  pub given-drop : (l : Location) → a ≡ Dispose l → given_by a ds ≡ Ok 8589934593
  given-drop l e = rw e refl

  pub left_write : (l : Location) (q w : ℕ) → a ≡ Mutate l q w → {b : Bool} → full_for l.0 q ds ≡ b → left_by a ds ≡ if? b ds (put_cell l.0 q (term w) ds)
  left_write l q w e f = rw e (ap (λ (b : Bool). if? b ds (put_cell l.0 q (term w) ds)) f)

  pub left-drop : (l : Location) → a ≡ Dispose l → left_by a ds ≡ without_cells l.0 ds
  left-drop l e = rw e refl

  pub left-same : (l : Location) (q : ℕ) → a ≡ Lookup l q → left_by a ds ≡ ds
  left-same l q e = rw e refl

-- how many cells there are after a put does not depend on the value
module _ {T : Type 0} (l q : ℕ) (u v : Value T) where
  put_lengths : (c : Machine.Cell T) (cs : List (Machine.Cell T)) (a b : Bool) → is_at l q c ≡ a → is_before l q c ≡ b
      → length (put_cell l q u cs) ≡ length (put_cell l q v cs)
      → length (put_cell l q u (c ∷ cs)) ≡ length (put_cell l q v (c ∷ cs))
  unfolding put_cell
  put_lengths c cs true b e f h = simp (e, put_cell)
  put_lengths c cs false true e f h = simp (e, f, put_cell)
  put_lengths c cs false false e f h = simp (e, f, put_cell) (ap suc h)

  pub put-length : (cs : List (Machine.Cell T)) → length (put_cell l q u cs) ≡ length (put_cell l q v cs)
  unfolding put_cell
  put-length [] = refl
  put-length (c ∷ cs) = put_lengths c cs (is_at l q c) (is_before l q c) refl refl (put-length cs)

-- what holds on both sides of a test
both : {A : Type 0} (P : A → Type 0) (t : Bool) {x y : A} → P x → P y → P (if? t x y)
both P true p q = p
both P false p q = q

-- whatever is asked, cells in order stay so
pub left_ordered : (a : Ask) (ds : List (Machine.Cell ℕ)) → Ordered ds → Ordered (left_by a ds)
left_ordered (Lookup l q) ds o = o
left_ordered (Mutate l q w) ds o = both Ordered (full_for l.0 q ds) o (put_keeps l.0 q (term w) ds o)
left_ordered (Dispose l) ds o = without_keeps l.0 ds o

-- and at most 32, where they were
pub stay_tidy : (a : Ask) (ds : List (Machine.Cell ℕ)) → Ordered ds → length ds ≤ most_cells → Ordered (left_by a ds) × (length (left_by a ds) ≤ most_cells)
stay_tidy (Lookup l q) ds o few = (o, few)
stay_tidy (Mutate l q w) ds o few = by (full_for l.0 q ds) refl
  where
    by : (b : Bool) → full_for l.0 q ds ≡ b → Ordered (put_in l.0 q w ds) × (length (put_in l.0 q w ds) ≤ most_cells)
    by true e = rw e (o, few)
    by false e = rw e (put_keeps l.0 q (term w) ds o, omega (arith, put-length l.0 q (term w) (term 0) ds, ltb-false most_cells (length (put_cell l.0 q (term 0) ds)) e))
stay_tidy (Dispose l) ds o few = (without_keeps l.0 ds o, omega (arith, without_fewer l.0 ds, few))

pub no_cells : (cells : List Cell) → length cells ≡ most_cells → Tidy 0 cells
no_cells cells whole = record { few = omega arith; whole = whole; order = empty }
