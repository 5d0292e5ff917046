-- Terms as trees, the model in which rows are "read as terms": nothing is shared, and there is nothing to be well-formed. The world is
-- the list of the trees made, in order; what counts as made is a parameter (all of them; for a pool that keeps each once, the different
-- ones). Assumes nothing.
use Rattle.std.specs.Prelude.{ℕ, Bool, true, false, ◌≡◌, refl, List, [], ◌∷◌, ◌++◌, get_or}
use Rattle.std.proofs.Common.{sym}
use Rattle.std.proofs.Math.Path.{subst⁻¹}
use Rattle.gil.specs.Tree.{Op, plus, minus, equal, less, and, or}
use Rattle.gil.specs.Values.{Constant, number, boolean, location, Sort, numbers, booleans, sort_of, work, work_not, Value, const, term, Node, op_gives_number}
use Rattle.gil.specs.Values as Values
use Rattle.gil.specs.Machine.{Model}

mutual
  pub data Tree : Type 0 where
    input : ℕ → Tree
    neg : Operand → Tree
    bin : Op → Operand → Operand → Tree

  pub data Operand : Type 0 where
    leaf : Constant → Operand
    branch : Tree → Operand

unfoldable pub operand : Value Tree → Operand
operand (const c) = leaf c
operand (term t) = branch t

unfoldable pub planted : Node Tree → Tree
planted (Values.input k) = input k
planted (Values.neg a) = neg (operand a)
planted (Values.bin o a b) = bin o (operand a) (operand b)

unfoldable pub sort_for : Bool → Sort
sort_for true = numbers
sort_for false = booleans

unfoldable pub tree_sort : Tree → Sort
tree_sort (input k) = numbers
tree_sort (neg a) = booleans
tree_sort (bin o a b) = sort_for (op_gives_number o)

-- what a term comes to on inputs
unfoldable mutual
  pub value_in : List ℕ → Tree → Constant
  value_in inputs (input k) = number (get_or inputs k 0)
  value_in inputs (neg a) = work_not (operand_in inputs a)
  value_in inputs (bin o a b) = work o (operand_in inputs a) (operand_in inputs b)

  pub operand_in : List ℕ → Operand → Constant
  operand_in inputs (leaf c) = c
  operand_in inputs (branch t) = value_in inputs t

unfoldable pub tree_value : List ℕ → Value Tree → Constant
tree_value inputs (const c) = c
tree_value inputs (term t) = value_in inputs t

unfoldable pub grown : List Tree → Node Tree → List Tree × Value Tree
grown ts n = (ts ++ (planted n ∷ []), term (planted n))

abbrev pub trees : (List Tree → ℕ) → Model
trees count = record { World = List Tree; Term = Tree; sort = tree_sort; made = count; make = grown }

-- a term's value has the term's sort, and is no location
work-sort : (o : Op) (a b : Constant) → sort_of (work o a b) ≡ sort_for (op_gives_number o)
unfolding sort_of work sort_for op_gives_number
work-sort plus a b = refl
work-sort minus a b = refl
work-sort equal a b = refl
work-sort less a b = refl
work-sort and a b = refl
work-sort or a b = refl

pub value-sort : (inputs : List ℕ) (t : Tree) → tree_sort t ≡ sort_of (value_in inputs t)
unfolding tree_sort value_in sort_of work_not
value-sort inputs (input k) = refl
value-sort inputs (neg a) = refl
value-sort inputs (bin o a b) = sym (work-sort o (operand_in inputs a) (operand_in inputs b))

-- no value of a term is a location
abbrev is_place : Constant → Type 0
is_place (number n) = ⊥
is_place (boolean b) = ⊥
is_place (location l) = Unit {0}

no-work-place : (o : Op) (a b : Constant) → is_place (work o a b) → ⊥
unfolding work
no-work-place plus a b h = h
no-work-place minus a b h = h
no-work-place equal a b h = h
no-work-place less a b h = h
no-work-place and a b h = h
no-work-place or a b h = h

no_place : (inputs : List ℕ) (t : Tree) → is_place (value_in inputs t) → ⊥
unfolding value_in work_not
no_place inputs (input k) h = h
no_place inputs (neg a) h = h
no_place inputs (bin o a b) h = no-work-place o (operand_in inputs a) (operand_in inputs b) h

pub value-place : (inputs : List ℕ) (t : Tree) (l : ℕ) → value_in inputs t ≡ location l → ⊥
value-place inputs t l e = no_place inputs t (subst⁻¹ is_place e tt)
