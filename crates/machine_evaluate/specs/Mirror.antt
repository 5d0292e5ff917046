-- What the functions of this crate answer and leave, on words. Assumes nothing.
use Rattle.std.specs.Prelude.{ℕ, zero, suc, ◌+◌, ◌-◌, ◌*◌, ◌/◌, ◌%◌, ◌≡◌, List, get_or, ltb, eqb, Option, Some, None, Result, Ok, Err}
use Rattle.gil.specs.Numbers.{most_depth}
use Rattle.gil.specs.declared.errors.Error.{Error}
use Rattle.gil.specs.declared.errors.Error.TheVariants.{NotBound}
use Rattle.machine_code.specs.Code.{code_words, frame_words, store_words, not_node, kind_range, variable_from, next_word_from, not_from}
use Rattle.machine_code.specs.Mirror.{if?}
use Rattle.machine_terms.specs.Mirror.{Did, did, operate_in, negate_in}

-- what is done with a value, and with an error
abbrev pub by_result : {A B : Type 0} → Result A Error → (A → B) → (Error → B) → B
by_result (Ok v) f g = f v
by_result (Err e) f g = g e

-- actions in a row: an error ends them
unfoldable pub and_then_in : Did (Result ℕ Error) → (ℕ → List ℕ → ℕ → Did (Result ℕ Error)) → Did (Result ℕ Error)
and_then_in d f = by_result d.out (λ v. f v d.pool d.count) (λ e. did (Err e) d.pool d.count)

unfoldable pub variable_in : List ℕ → ℕ → ℕ → Result ℕ Error
variable_in store frame x =
    if? (ltb (frame_words * frame + x) store_words) (if? (eqb (get_or store (frame_words * frame + x) 0) 0) (Err NotBound) (Ok (get_or store (frame_words * frame + x) 0))) (Err NotBound)

-- a number in a word of its own
unfoldable pub number_in : List ℕ → ℕ → Result ℕ Error
number_in code at = if? (ltb at code_words) (Ok (4294967296 + get_or code at 0)) (Err NotBound)

-- a leaf's value, or an error
abbrev pub at_leaf : Result ℕ Error → Result (Option ℕ) Error
at_leaf r = by_result r (λ v. Ok (Some v)) Err

-- what a leaf answers; where none stands, d
abbrev pub unless_leaf : Result (Option ℕ) Error → Did (Result ℕ Error) → List ℕ → ℕ → Did (Result ℕ Error)
unless_leaf (Ok (Some v)) d pool count = did (Ok v) pool count
unless_leaf (Ok None) d pool count = d
unless_leaf (Err e) d pool count = did (Err e) pool count

module _ (code store : List ℕ) (frame : ℕ) where
  -- the node at a place, if it is no operator
  unfoldable pub leaf_of : ℕ → ℕ → Result (Option ℕ) Error
  leaf_of at node =
      if? (ltb node variable_from) (Ok (Some (4294967296 * (node / kind_range + 1) + node % kind_range)))
      (if? (ltb node next_word_from) (at_leaf (variable_in store frame (node - variable_from))) (if? (ltb node not_from) (at_leaf (number_in code (at + 1))) (Ok None)))

  unfoldable pub leaf_in : ℕ → Result (Option ℕ) Error
  leaf_in at = if? (ltb at code_words) (leaf_of at (get_or code at 0)) (Err NotBound)

  -- an operand, where an operator's evaluation is known
  unfoldable pub operand_by : (ℕ → List ℕ → ℕ → Did (Result ℕ Error)) → ℕ → List ℕ → ℕ → Did (Result ℕ Error)
  operand_by operator at pool count = unless_leaf (leaf_in at) (operator at pool count) pool count

  -- an operator, where its operands' evaluation is known
  unfoldable pub second_by : (ℕ → List ℕ → ℕ → Did (Result ℕ Error)) → ℕ → ℕ → ℕ → List ℕ → ℕ → Did (Result ℕ Error)
  second_by operand kind second a pool count =
      if? (eqb kind not_node) (negate_in a pool count) (and_then_in (operand second pool count) (operate_in kind a))

  unfoldable pub operator_by : (ℕ → List ℕ → ℕ → Did (Result ℕ Error)) → ℕ → List ℕ → ℕ → Did (Result ℕ Error)
  operator_by operand at pool count =
      if? (ltb at code_words)
      (and_then_in (operand (at + 1) pool count)
      (second_by operand (get_or code at 0 / kind_range) (at + 1 + get_or code at 0 % kind_range)))
      (did (Err NotBound) pool count)

  unfoldable pub operator_in : ℕ → ℕ → List ℕ → ℕ → Did (Result ℕ Error)
  operator_in zero at pool count = did (Err NotBound) pool count
  operator_in (suc d) at pool count = operator_by (operand_by (operator_in d)) at pool count

  unfoldable pub operand_in : ℕ → ℕ → List ℕ → ℕ → Did (Result ℕ Error)
  operand_in d at pool count = operand_by (operator_in d) at pool count

  unfoldable pub evaluate_in : ℕ → List ℕ → ℕ → Did (Result ℕ Error)
  evaluate_in at pool count = operand_in most_depth at pool count

  -- a value worked out without a call is the operator's
  abbrev pub WorkedOut : ℕ → ℕ → Type 0
  WorkedOut at v = (pool : List ℕ) (count : ℕ) → did (Ok v) pool count ≡ operator_in most_depth at pool count
