-- Where a list of inputs falls, read from the bytes of a table and a pool: what each function of this crate answers, on any bytes at all.
-- proofs/Laws/Rows shows that for a sound table this is document 01's `placed`. Assumes nothing.
use Rattle.std.specs.Prelude.{ℕ, zero, suc, ◌+◌, ◌*◌, ◌-◌, ◌%◌, Bool, true, false, List, get_or, set, replicate, ltb, eqb, Option, MatchOption, ◌≡◌, ◌<◌}
use Rattle.gil.specs.Numbers.{most_branches, most_rows, most_terms, number_term_tag, input_kind, not_kind, plus_kind, or_kind, word_length, term_length, row_length, heading_length, conditions_at, conditions_word}
use Rattle.machine_code.specs.Code.{plus_node}
use Rattle.lent_words.specs.Mirror.{word_at, at_most}
use Rattle.machine_code.specs.Mirror.{if?}
use Rattle.machine_values.specs.Mirror.{truth_word, work_word}

-- the word of term k's value
unfoldable pub value_word : List ℕ → ℕ → ℕ
value_word vs k = if? (ltb k most_terms) (get_or vs k 0 % 4294967296) 0

-- an operand's word: its own where it is a constant
unfoldable pub operand_word : List ℕ → (tag w : ℕ) → ℕ
operand_word vs tag w = if? (ltb tag number_term_tag) w (value_word vs w)

-- a term's value, from its kind and the words of its operands
unfoldable pub op_value : (kind x y : ℕ) → ℕ
op_value kind x y = if? (eqb kind not_kind) (truth_word (eqb x 0)) (if? (ltb or_kind kind) 0 (work_word (kind + (plus_node - plus_kind)) x y))

-- the value of an input
unfoldable pub input_value : List ℕ → ℕ → ℕ
input_value inputs k = 4294967296 + word_at inputs (word_length * k)

-- a term's value, from its five words and the values of the terms before: its input, or its operator worked out
unfoldable pub term_of : (inputs vs : List ℕ) → (kind t x u y : ℕ) → ℕ
term_of inputs vs kind t x u y =
    if? (eqb kind input_kind) (input_value inputs x) (op_value kind (operand_word vs t x) (operand_word vs u y))

unfoldable pub term_value : (pool inputs vs : List ℕ) → ℕ → ℕ
term_value pool inputs vs k =
    term_of inputs vs (word_at pool (term_length * k)) (word_at pool (term_length * k + 4)) (word_at pool (term_length * k + 8))
    (word_at pool (term_length * k + 12)) (word_at pool (term_length * k + 16))

-- the values of the first k terms, over `vs`
unfoldable pub values_to : (pool inputs vs : List ℕ) → ℕ → List ℕ
values_to pool inputs vs zero = vs
values_to pool inputs vs (suc k) = set (values_to pool inputs vs k) k (term_value pool inputs (values_to pool inputs vs k) k)

-- condition i of a row
unfoldable pub condition_holds : (table vs : List ℕ) → (row i : ℕ) → Bool
condition_holds table vs row i =
    eqb (value_word vs (word_at table (heading_length + row_length * row + 8 * i + conditions_at))) (word_at table (heading_length + row_length * row + 8 * i + (conditions_at + 4)))

-- the next k conditions of a row, from condition i
unfoldable pub conditions_hold : (table vs : List ℕ) → (row k i : ℕ) → Bool
conditions_hold table vs row zero i = true
conditions_hold table vs row (suc k) i = if? (condition_holds table vs row i) (conditions_hold table vs row k (i + 1)) false

unfoldable pub row_holds : (table vs : List ℕ) → ℕ → Bool
row_holds table vs row = conditions_hold table vs row (at_most most_branches (word_at table (heading_length + row_length * row + word_length * conditions_word))) 0

-- the first of the next k rows, from row r, whose conditions hold
unfoldable pub first_row : (table vs : List ℕ) → (k r : ℕ) → ℕ
first_row table vs zero r = r
first_row table vs (suc k) r = if? (row_holds table vs r) r (first_row table vs k (r + 1))

-- the rows that a table counts, and no more than there is room for
abbrev pub rows_in : List ℕ → ℕ
rows_in table = at_most most_rows (word_at table 0)

-- one of `rows` rows, or none, by its number: `rows` where there is none
abbrev pub found : Option ℕ → (rows number : ℕ) → Type 0
found o rows number = MatchOption o (number ≡ rows) (λ r. (number ≡ r) × (r < rows))

unfoldable pub locate_in : (table pool inputs : List ℕ) → ℕ
locate_in table pool inputs =
    first_row table (values_to pool inputs (replicate most_terms 0) (at_most most_terms (word_at table 4))) (rows_in table) 0
