-- What the functions of this crate answer and leave, on words: an operator's value, or an error, and the pool and the count of terms after it.
-- Assumes nothing.
use Rattle.std.specs.Prelude.{ℕ, ◌+◌, ◌*◌, ◌/◌, ◌%◌, Bool, false, List, [], ◌∷◌, length, ◌==◌, nat_le, nat_lt, Result, Ok, Err}
use Rattle.std.proofs.lemmas.List.Edits.{sets}
use Rattle.gil.specs.Numbers.{boolean_tag, input_kind, not_kind, term_length}
use Rattle.gil.specs.declared.errors.Error.{Error}
use Rattle.gil.specs.declared.errors.Error.TheVariants.{WrongSort}
use Rattle.gil.specs.Names.{gather}
use Rattle.gil.specs.Layout.{word_bytes}
use Rattle.machine_code.specs.Code.{equal_node}
use Rattle.machine_code.specs.Mirror.{if?}
use Rattle.machine_values.specs.declared.Fit.{Fit}
use Rattle.machine_values.specs.declared.Fit.TheVariants.{Right, Wrong, Unlike}
use Rattle.machine_values.specs.Mirror.{truth_word, sort_word, needed_word, fit_in, work_word}

-- an action's answer, and the lent pool and count after it
pub record Did (A : Type 0) : Type 0 where
  pub out : A
  pub pool : List ℕ
  pub count : ℕ

abbrev pub did : {A : Type 0} → A → List ℕ → ℕ → Did A
did x p n = record { out = x; pool = p; count = n }

-- a term's bytes: its kind and two operands
unfoldable pub node_of : ℕ → ℕ → ℕ → List ℕ
node_of kind a b =
    gather word_bytes (kind ∷ a / 4294967296 ∷ a % 4294967296 ∷ b / 4294967296 ∷ b % 4294967296 ∷ [])

unfoldable pub pool_with : List ℕ → ℕ → List ℕ → List ℕ
pool_with bytes count pool = if? (nat_le (term_length * count + term_length) (length pool)) (sets pool (term_length * count) bytes) pool

unfoldable pub made_in : ℕ → ℕ → ℕ → List ℕ → ℕ → Did ℕ
made_in kind a b pool count = did count (pool_with (node_of kind a b) count pool) ((count + 1) % 4294967296)

unfoldable pub input_in : ℕ → List ℕ → ℕ → Did ℕ
input_in i pool count =
    did (17179869184 + count) (pool_with (node_of input_kind (4294967296 + i) 0) count pool) ((count + 1) % 4294967296)

unfoldable pub term_in : ℕ → ℕ → ℕ → List ℕ → ℕ → Did ℕ
term_in kind a b pool count =
    did
    (if? (nat_lt kind equal_node) (17179869184 + count) (21474836480 + count))
    (pool_with (node_of ((kind + 4294967294) % 4294967296) a b) count pool)
    ((count + 1) % 4294967296)

-- two constants of the sort that the operator needs
unfoldable pub needed_in : ℕ → ℕ → ℕ → Bool
needed_in kind a b = if? (a / 4294967296 == needed_word kind) (b / 4294967296 == needed_word kind) false

-- a value and no error
abbrev pub gave : Did ℕ → Did (Result ℕ Error)
gave d = did (Ok d.out) d.pool d.count

-- a choice by how two sorts fit
abbrev pub by_fit : {A : Type 0} → Fit → A → A → A → A
by_fit Right a b c = a
by_fit Wrong a b c = b
by_fit Unlike a b c = c

-- an operator on values of the right sorts
unfoldable pub combine_in : ℕ → ℕ → ℕ → List ℕ → ℕ → Did (Result ℕ Error)
combine_in kind a b pool count =
    if? (nat_lt a 17179869184)
    (if? (nat_lt b 17179869184) (did (Ok (work_word kind (a % 4294967296) (b % 4294967296))) pool count) (gave (term_in kind a b pool count)))
    (gave (term_in kind a b pool count))

unfoldable pub operate_in : ℕ → ℕ → ℕ → List ℕ → ℕ → Did (Result ℕ Error)
operate_in kind a b pool count =
    by_fit (fit_in kind (sort_word a) (sort_word b)) (combine_in kind a b pool count) (did (Err WrongSort) pool count) (did (Ok 8589934592) pool count)

unfoldable pub negate_in : ℕ → List ℕ → ℕ → Did (Result ℕ Error)
negate_in a pool count =
    if? (sort_word a == boolean_tag)
    (if? (nat_lt a 17179869184) (did (Ok (truth_word (a % 4294967296 == 0))) pool count)
    (did (Ok (21474836480 + count)) (pool_with (node_of not_kind a 0) count pool) ((count + 1) % 4294967296)))
    (did (Err WrongSort) pool count)
