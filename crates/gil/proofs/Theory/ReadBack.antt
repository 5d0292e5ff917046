-- Reading a pool back, front to back: the tree that stands in each reference's place, and its value on inputs. Assumes nothing.
use Rattle.std.specs.Prelude.{ℕ, ◌+◌, ◌<◌, true, false, ◌≡◌, length}
use Rattle.std.proofs.Math.Path.{refl, sym, ap, ap₂}
use Rattle.std.proofs.Common.{◌∙◌, length-append, arith}
use mathlib.Core.List.{List, [], ◌∷◌, ◌++◌, map}
use Rattle.std.proofs.Math.ListN.{get_or, get_or-append, get_or-map}
use Rattle.gil.specs.Values.{Constant, boolean, truth_in, work, work_not, Value, const, term, Node, input, neg, bin}
use Rattle.gil.specs.Pool.{Ref, ref_sort, place_in, Pool, value_of, node_value, values_from, pool_values}
use Rattle.gil.proofs.Theory.Trees
use Rattle.gil.proofs.Theory.Trees.{Tree, planted, tree_sort, value_in, operand_in, operand}

-- what is read where no term stands: false on all inputs, as the pool's values are past their end
unfoldable pub nothing : Tree
nothing = Trees.neg (Trees.leaf (boolean true))

unfoldable pub read_value : List Tree → Value Ref → Value Tree
read_value ts (const c) = const c
read_value ts (term r) = term (get_or ts (place_in r) nothing)

unfoldable pub read_node : List Tree → Node Ref → Node Tree
read_node ts (input k) = input k
read_node ts (neg a) = neg (read_value ts a)
read_node ts (bin o a b) = bin o (read_value ts a) (read_value ts b)

-- `ts` are the trees of the terms before
unfoldable pub trees_from : List Tree → Pool → List Tree
trees_from ts [] = ts
trees_from ts (n ∷ ns) = trees_from (ts ++ (planted (read_node ts n) ∷ [])) ns

-- the trees that a pool's terms read as
unfoldable pub trees_of : Pool → List Tree
trees_of w = trees_from [] w

from-append :
    (ts : List Tree) (w : Pool) (n : Node Ref)
    → trees_from ts (w ++ (n ∷ [])) ≡ trees_from ts w ++ (planted (read_node (trees_from ts w) n) ∷ [])
unfolding trees_from
from-append ts [] n = refl
from-append ts (m ∷ w) n = from-append (ts ++ (planted (read_node ts m) ∷ [])) w n

from-length : (ts : List Tree) (w : Pool) → length (trees_from ts w) ≡ length ts + length w
unfolding trees_from
from-length ts [] = omega arith
from-length ts (m ∷ w) =
    let us = ts ++ (planted (read_node ts m) ∷ []) in
    let e : length (trees_from us w) ≡ length us + length w = from-length us w in
    let d : length us ≡ length ts + 1 = length-append ts (planted (read_node ts m) ∷ []) in
    omega arith

pub of_length : (w : Pool) → length (trees_of w) ≡ length w
unfolding trees_of
of_length w = from-length [] w ∙ omega arith

pub of_append : (w : Pool) (n : Node Ref) → trees_of (w ++ (n ∷ [])) ≡ trees_of w ++ (planted (read_node (trees_of w) n) ∷ [])
unfolding trees_of
of_append w n = from-append [] w n

-- a reference reads as a tree
pub record Reads (w : Pool) (r : Ref) (t : Tree) : Type 0 where
  pub reads : get_or (trees_of w) (place_in r) nothing ≡ t
  pub sorts : ref_sort r ≡ tree_sort t
  pub within : place_in r < length w

-- in a pool with one more term it reads so still
pub reads-still : (w : Pool) (n : Node Ref) (r : Ref) (t : Tree) → Reads w r t → Reads (w ++ (n ∷ [])) r t
reads-still w n r t h =
    let i : place_in r < length w = h.within in
    let j : place_in r < length (trees_of w) = omega (arith, of_length w) in
    record {
      reads =
          ap (λ (ts : List Tree). get_or ts (place_in r) nothing) (of_append w n)
          ∙ get_or-append (trees_of w) (planted (read_node (trees_of w) n) ∷ []) nothing (place_in r) j
          ∙ h.reads;
      sorts = h.sorts;
      within = omega (arith, length-append w (n ∷ []));
    }

-- evaluating the pool front to back gives each term the value of the tree that it reads as
module _ (inputs : List ℕ) where
  value_read : (ts : List Tree) (a : Value Ref) → value_of (map (value_in inputs) ts) a ≡ operand_in inputs (operand (read_value ts a))
  unfolding value_of read_value operand_in operand nothing work_not truth_in
  value_read ts (const c) = refl
  value_read ts (term r) = get_or-map (value_in inputs) ts (place_in r) nothing

  node-read : (ts : List Tree) (n : Node Ref) → node_value inputs (map (value_in inputs) ts) n ≡ value_in inputs (planted (read_node ts n))
  unfolding node_value read_node planted value_in
  node-read ts (input k) = refl
  node-read ts (neg a) = ap work_not (value_read ts a)
  node-read ts (bin o a b) = ap₂ (work o) (value_read ts a) (value_read ts b)

  map-append : (ts : List Tree) (t : Tree) → map (value_in inputs) (ts ++ (t ∷ [])) ≡ map (value_in inputs) ts ++ (value_in inputs t ∷ [])
  map-append [] t = refl
  map-append (u ∷ ts) t = ap {B = List Constant} (λ vs. value_in inputs u ∷ vs) (map-append ts t)

  from_values : (ts : List Tree) (w : Pool) → values_from inputs (map (value_in inputs) ts) w ≡ map (value_in inputs) (trees_from ts w)
  unfolding values_from trees_from
  from_values ts [] = refl
  from_values ts (n ∷ w) =
      ap (λ (vs : List Constant). values_from inputs vs w)
      (ap (λ (v : Constant). map (value_in inputs) ts ++ (v ∷ [])) (node-read ts n) ∙ sym (map-append ts (planted (read_node ts n))))
      ∙ from_values (ts ++ (planted (read_node ts n) ∷ [])) w

  pub pool_values_lem : (w : Pool) → pool_values inputs w ≡ map (value_in inputs) (trees_of w)
  unfolding pool_values trees_of
  pool_values_lem w = from_values [] w

  pub reads-value : (w : Pool) (r : Ref) (t : Tree) → Reads w r t → value_of (pool_values inputs w) (term r) ≡ value_in inputs t
  unfolding value_of nothing work_not truth_in value_in operand_in
  reads-value w r t h =
      ap (λ (vs : List Constant). get_or vs (place_in r) (boolean false)) (pool_values_lem w)
      ∙ get_or-map (value_in inputs) (trees_of w) (place_in r) nothing
      ∙ ap (value_in inputs) h.reads
