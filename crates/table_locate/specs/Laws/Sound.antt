-- A sound table: what holds of every table and pool that exploring gives (Exploring), and what a reader of their words relies on (Laws).
-- Counts, numbers and codes are within document 01's limits; a term's operands stand earlier in the pool and have the sorts that its
-- operator needs; every reference in a row is to a term that is there, by the tag of its sort, and a condition's to a boolean one.
-- Each clause can be decided by itself. Assumes nothing.
use Rattle.std.specs.Prelude.{ℕ, ◌≤◌, ◌<◌, ◌≡◌, Bool, List, [], ◌∷◌, ◌++◌, length, get_or}
use Rattle.std.proofs.Math.Option.{Option, none, some}
use Rattle.gil.specs.Numbers.{most_procedures, most_variables, most_properties, most_steps, most_branches, most_rows, most_terms, most_inputs, most_locations, most_cells, last_error}
use Rattle.gil.specs.Tree.{Op}
use Rattle.gil.specs.Values.{number, boolean, location, Sort, booleans, sort_of, right, fit, Value, const, term, Node, input, neg, bin, gives_number}
use Rattle.gil.specs.Machine.{Cell, Store, End, returned, failed, vanished, error}
use Rattle.gil.specs.Rows.{Condition, Reason, Outcome, ended, cut, Row}
use Rattle.gil.specs.Pool.{Ref, ref_sort, place_in, ref_to, Pool}
use Rattle.machine_code.specs.WellFormed.{Each}

unfoldable pub value_sort : Value Ref → Sort
value_sort (const c) = sort_of c
value_sort (term r) = ref_sort r

-- a reference into a pool: its term is there, and it has that term's sort
pub record RefFits (w : Pool) (r : Ref) : Type 0 where
  pub there : place_in r < length w
  pub sort : r ≡ ref_to (gives_number (get_or w (place_in r) (input 0))) (place_in r)

-- a value over a pool: numbers have 32 bits, and there are sixteen locations
pub data ValueFits (w : Pool) : Value Ref → Type 0 where
  fits_number : {n : ℕ} → n < 4294967296 → ValueFits w (const (number n))
  fits_truth : {b : Bool} → ValueFits w (const (boolean b))
  fits_location : {l : ℕ} → l < most_locations → ValueFits w (const (location l))
  fits_term : {r : Ref} → RefFits w r → ValueFits w (term r)

-- a term, over the pool of the terms before it
pub data NodeFits (before : Pool) : Node Ref → Type 0 where
  fits_input : {k : ℕ} → k < most_inputs → NodeFits before (input k)
  fits_not : {a : Value Ref} → ValueFits before a → value_sort a ≡ booleans → NodeFits before (neg a)
  fits_op :
      {o : Op} {a b : Value Ref}
      → ValueFits before a
      → ValueFits before b
      → fit o (value_sort a) (value_sort b) ≡ right
      → NodeFits before (bin o a b)

-- the terms of a pool from some place on, after those before
pub data TermsFit : (before terms : Pool) → Type 0 where
  no_term : {before : Pool} → TermsFit before []
  next_term : {before terms : Pool} {n : Node Ref} → NodeFits before n → TermsFit (before ++ (n ∷ [])) terms → TermsFit before (n ∷ terms)

pub record ConditionFits (w : Pool) (c : Condition Ref) : Type 0 where
  pub reference : RefFits w c.term
  pub sort : ref_sort c.term ≡ booleans

-- a variable, bound or not
pub data VariableFits (w : Pool) : Option (Value Ref) → Type 0 where
  unbound : VariableFits w none
  bound : {v : Value Ref} → ValueFits w v → VariableFits w (some v)

pub record StoreFits (w : Pool) (ρ : Store Ref) : Type 0 where
  pub some_variable : 1 ≤ length ρ
  pub few_variables : length ρ ≤ most_variables
  pub variables : Each (VariableFits w) ρ

pub record CellFits (w : Pool) (c : Cell Ref) : Type 0 where
  pub location : c.location < most_locations
  pub property : c.property < most_properties
  pub value : ValueFits w c.value

pub record CellsFit (w : Pool) (cs : List (Cell Ref)) : Type 0 where
  pub few_cells : length cs ≤ most_cells
  pub cells : Each (CellFits w) cs

pub data EndFits (w : Pool) : End Ref → Type 0 where
  fits_returned : {v : Value Ref} → ValueFits w v → EndFits w (returned v)
  fits_failed : {v : Value Ref} → ValueFits w v → EndFits w (failed v)
  fits_vanished : EndFits w vanished
  fits_error : {n : ℕ} → 1 ≤ n → n ≤ last_error → EndFits w (error n)

pub data OutcomeFits (w : Pool) : Outcome Ref → Type 0 where
  fits_ended : {e : End Ref} → EndFits w e → OutcomeFits w (ended e)
  fits_cut : {why : Reason} → OutcomeFits w (cut why)

pub record RowFits (w : Pool) (r : Row Ref) : Type 0 where
  pub outcome : OutcomeFits w r.outcome
  pub steps : r.steps ≤ most_steps
  pub procedure : r.procedure < most_procedures
  pub command : r.command < 4294967296
  pub inputs : r.inputs ≤ most_inputs
  pub few_conditions : length r.conditions ≤ most_branches
  pub conditions : Each (ConditionFits w) r.conditions
  pub variables : StoreFits w r.variables
  pub cells : CellsFit w r.cells

pub record Sound (w : Pool) (table : List (Row Ref)) : Type 0 where
  pub few_terms : length w ≤ most_terms
  pub terms : TermsFit [] w
  pub some_row : 1 ≤ length table
  pub few_rows : length table ≤ most_rows
  pub rows : Each (RowFits w) table
