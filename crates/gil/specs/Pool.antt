-- Exploring's terms: "Terms stand in the pool in the order made. Nothing is shared or simplified." A term is a reference into the pool.
-- The table of document 01, what the pool's terms come to on given inputs, and the row that a list of inputs falls in. Assumes nothing.
use Rattle.std.specs.Prelude.{ℕ, suc, Bool, true, false, ◌&&◌, List, [], ◌∷◌, ◌++◌, length, get_or}
use Rattle.gil.specs.Names.{Program}
use Rattle.gil.specs.Values.{Constant, number, boolean, Sort, numbers, booleans, truth_in, same_truth, work, work_not, Value, const, term, Node, input, neg, bin, gives_number}
use Rattle.gil.specs.Machine.{Model}
use Rattle.gil.specs.Rows.{Condition, Row}
use Rattle.gil.specs.Explore.{Explored, explore}

-- a number term or a boolean term, by its place in the pool: no term is ever a location
pub data Ref : Type 0 where
  number_term boolean_term : ℕ → Ref

unfoldable pub ref_sort : Ref → Sort
ref_sort (number_term k) = numbers
ref_sort (boolean_term k) = booleans

unfoldable pub place_in : Ref → ℕ
place_in (number_term k) = k
place_in (boolean_term k) = k

abbrev pub Pool : Type 0
Pool = List (Node Ref)

unfoldable pub ref_to : Bool → ℕ → Ref
ref_to true k = number_term k
ref_to false k = boolean_term k

unfoldable pub added : Pool → Node Ref → Pool × Value Ref
added w n = (w ++ (n ∷ []), term (ref_to (gives_number n) (length w)))

unfoldable pub pooled : Model
pooled = record { World = Pool; Term = Ref; sort = ref_sort; made = length; make = added }

unfoldable pub table : Program → (budget most : ℕ) → Explored Pool Ref
unfolding pooled
table p budget most = explore pooled p budget most []

-- the pool evaluated front to back on inputs, each term once: `vs` are the values of the terms before
unfoldable pub value_of : List Constant → Value Ref → Constant
value_of vs (const c) = c
value_of vs (term r) = get_or vs (place_in r) (boolean false)

unfoldable pub node_value : List ℕ → List Constant → Node Ref → Constant
node_value inputs vs (input k) = number (get_or inputs k 0)
node_value inputs vs (neg a) = work_not (value_of vs a)
node_value inputs vs (bin o a b) = work o (value_of vs a) (value_of vs b)

unfoldable pub values_from : List ℕ → List Constant → Pool → List Constant
values_from inputs vs [] = vs
values_from inputs vs (n ∷ ns) = values_from inputs (vs ++ (node_value inputs vs n ∷ [])) ns

unfoldable pub pool_values : List ℕ → Pool → List Constant
pool_values inputs w = values_from inputs [] w

-- inputs meet a row's conditions if each term has the truth it must have
unfoldable pub meets : List Constant → List (Condition Ref) → Bool
meets vs [] = true
meets vs (c ∷ cs) = same_truth c.truth (truth_in (value_of vs (term c.term))) && meets vs cs

-- "which row a list of inputs falls in": the first whose conditions hold (demand 3: the only one)
unfoldable pub place_among : List Constant → List (Row Ref) → ℕ
place_among vs [] = 0
place_among vs (r ∷ rs) = elim (meets vs r.conditions) [ true ↦ 0 | false ↦ suc (place_among vs rs) ]

unfoldable pub placed : List ℕ → Pool → List (Row Ref) → ℕ
placed inputs w rows = place_among (pool_values inputs w) rows
