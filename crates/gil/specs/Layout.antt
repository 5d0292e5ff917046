-- The words of table, pool and answer, and their bytes, "four a word, lowest first". docs/LAYOUT.md says the same as a table for a C
-- programmer. "words that hold nothing are zero". Assumes nothing.
use Rattle.std.specs.Prelude.{ℕ, ◌+◌, ◌*◌, ◌-◌, ◌/◌, ◌%◌, Bool, true, false, List, [], ◌∷◌, ◌++◌, length, replicate}
use Rattle.std.proofs.Math.Option.{Option, none, some}
use Rattle.gil.specs.Numbers.{table_length, pool_length, as_returned, as_failed, as_vanished, as_error, as_cut, for_steps, for_branches, number_tag, boolean_tag, location_tag, number_term_tag, boolean_term_tag, head_room, conditions_room, variables_room, cells_room, liveness_room, sites_room, rest_room, input_kind, not_kind, plus_kind, minus_kind, equal_kind, less_kind, and_kind, or_kind}
use Rattle.gil.specs.Tree.{Op, plus, minus, equal, less, and, or}
use Rattle.gil.specs.Names.{gather}
use Rattle.gil.specs.Values.{Constant, number, boolean, location, Value, const, term, Node, input, neg, bin}
use Rattle.gil.specs.Machine.{Cell, End, returned, failed, vanished, error}
use Rattle.gil.specs.Rows.{Condition, Reason, steps, branches, Outcome, ended, cut, Row}
use Rattle.gil.specs.Pool.{Ref, number_term, boolean_term, place_in, Pool}

unfoldable pub word_bytes : ℕ → List ℕ
word_bytes n = n % 256 ∷ n / 256 % 256 ∷ n / 65536 % 256 ∷ n / 16777216 % 256 ∷ []

-- numbers and then zeros, `n` in all
unfoldable pub room : ℕ → List ℕ → List ℕ
room n ws = ws ++ replicate (n - length ws) 0

-- words in parts: each part has its room, and the words that it holds stand at the room's beginning
pub record Part : Type 0 where
  pub size : ℕ
  pub words : List ℕ

abbrev pub in_room : ℕ → List ℕ → Part
in_room n ws = record { size = n; words = ws }

unfoldable pub parts_words : List Part → List ℕ
parts_words [] = []
parts_words (p ∷ ps) = room p.size p.words ++ parts_words ps

unfoldable pub bit : Bool → ℕ
bit true = 1
bit false = 0

-- a constant: its tag and its word
unfoldable pub constant_words : Constant → List ℕ
constant_words (number n) = number_tag ∷ n ∷ []
constant_words (boolean b) = boolean_tag ∷ bit b ∷ []
constant_words (location l) = location_tag ∷ l ∷ []

unfoldable pub reason_code : Reason → ℕ
reason_code steps = for_steps
reason_code branches = for_branches

-- what stands in a row's head after its outcome, one number after another: Numbers has the place of each
abbrev pub head_numbers : {T : Type 0} → Row T → List ℕ
head_numbers r =
    r.steps ∷ r.procedure ∷ r.command ∷ r.inputs ∷ length r.conditions ∷ length r.variables ∷ length r.cells ∷ []

-- over any kind of term, given its tag and its place
module _ {T : Type 0} (tag place : T → ℕ) where
  unfoldable pub value_words : Value T → List ℕ
  value_words (const c) = constant_words c
  value_words (term t) = tag t ∷ place t ∷ []

  -- a variable, bound or not
  unfoldable pub variable_words : Option (Value T) → List ℕ
  variable_words none = 0 ∷ 0 ∷ []
  variable_words (some v) = value_words v

  unfoldable pub cell_words : Cell T → List ℕ
  cell_words c = c.location ∷ c.property ∷ value_words c.value

  unfoldable pub condition_words : Condition T → List ℕ
  condition_words c = place c.term ∷ bit c.truth ∷ []

  -- the outcome and its value, error number or reason
  unfoldable pub end_words : End T → List ℕ
  end_words (returned v) = as_returned ∷ value_words v
  end_words (failed v) = as_failed ∷ value_words v
  end_words vanished = as_vanished ∷ 0 ∷ 0 ∷ []
  end_words (error n) = as_error ∷ 0 ∷ n ∷ []

  unfoldable pub outcome_words : Outcome T → List ℕ
  outcome_words (ended e) = end_words e
  outcome_words (cut why) = as_cut ∷ 0 ∷ reason_code why ∷ []

  -- a row's head
  unfoldable pub head_words : Row T → List ℕ
  head_words r = outcome_words r.outcome ++ head_numbers r

  -- a row's parts, in their order; the last three hold nothing, and are kept for what later requests add
  unfoldable pub row_parts : Row T → List Part
  row_parts r =
      in_room head_room (head_words r)
      ∷ in_room conditions_room (gather condition_words r.conditions)
      ∷ in_room variables_room (gather variable_words r.variables)
      ∷ in_room cells_room (gather cell_words r.cells)
      ∷ in_room liveness_room []
      ∷ in_room sites_room []
      ∷ in_room rest_room []
      ∷ []

  -- a row's 256 words
  unfoldable pub row_words : Row T → List ℕ
  row_words r = parts_words (row_parts r)

  unfoldable pub row_bytes : Row T → List ℕ
  row_bytes r = gather word_bytes (row_words r)

-- a row of the table, whose terms are in the pool, and the plain run's answer, which has no terms
unfoldable pub ref_tag : Ref → ℕ
ref_tag (number_term k) = number_term_tag
ref_tag (boolean_term k) = boolean_term_tag

unfoldable pub op_code : Op → ℕ
op_code plus = plus_kind
op_code minus = minus_kind
op_code equal = equal_kind
op_code less = less_kind
op_code and = and_kind
op_code or = or_kind

-- a term's five words: its kind and two operands
unfoldable pub node_words : Node Ref → List ℕ
node_words (input k) = input_kind ∷ (constant_words (number k) ++ (0 ∷ 0 ∷ []))
node_words (neg a) = not_kind ∷ (value_words ref_tag place_in a ++ (0 ∷ 0 ∷ []))
node_words (bin o a b) = op_code o ∷ (value_words ref_tag place_in a ++ value_words ref_tag place_in b)

unfoldable pub node_bytes : Node Ref → List ℕ
node_bytes n = gather word_bytes (node_words n)

unfoldable pub pool_bytes : Pool → List ℕ
pool_bytes w = room pool_length (gather node_bytes w)

-- the table: a heading of 16 words with the numbers of rows and terms, and the rows
unfoldable pub table_head : Pool → List (Row Ref) → List ℕ
table_head w rows = gather word_bytes (room 16 (length rows ∷ length w ∷ []))

unfoldable pub table_bytes : Pool → List (Row Ref) → List ℕ
table_bytes w rows = room table_length (table_head w rows ++ gather (row_bytes ref_tag place_in) rows)

unfoldable pub no_number : ⊥ → ℕ
no_number t = absurd t

unfoldable pub answer_bytes : Row ⊥ → List ℕ
answer_bytes r = row_bytes no_number no_number r

-- an input list's words
unfoldable pub input_words : List ℕ → List ℕ
input_words [] = []
input_words (a ∷ []) = []
input_words (a ∷ b ∷ []) = []
input_words (a ∷ b ∷ c ∷ []) = []
input_words (a ∷ b ∷ c ∷ d ∷ rest) = (a + 256 * b + 65536 * c + 16777216 * d) ∷ input_words rest
