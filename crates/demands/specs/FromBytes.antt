-- What a C caller reads from the bytes that the calls left, as docs/LAYOUT.md sets them out: a word at a place, the rows of a table, whether
-- inputs meet a row's conditions, and a row with the inputs put in. Everything here is a function of bytes alone. Definitions only.
-- Assumes nothing.
use Rattle.std.specs.Prelude.{ℕ, zero, suc, ◌+◌, ◌*◌, ◌/◌, ◌%◌, ◌<◌, ◌≡◌, Bool, true, List, [], ◌∷◌, ◌++◌, get_or, take, drop, replicate, ltb, eqb}
use Rattle.gil.specs.Names.{gather}
use Rattle.gil.specs.Numbers.{most_terms, first_row, row_length, heading_length, number_term_tag, as_cut, for_steps, answer_length}
use Rattle.gil.specs.Layout.{word_bytes}
use Rattle.gil.specs.Calls.{PlainAnswer}
use Rattle.machine_code.specs.Mirror.{if?}
use Rattle.lent_words.specs.Mirror.{word_at, at_most}
use Rattle.table_locate.specs.Mirror.{values_to, row_holds}

-- the table: word 0 is the number of rows; a row's 256 words stand behind 64 bytes of heading and the rows before
unfoldable pub rows_in : List ℕ → ℕ
rows_in table = word_at table 0

unfoldable pub words_at : List ℕ → (at n : ℕ) → List ℕ
words_at b at zero = []
words_at b at (suc n) = word_at b at ∷ words_at b (at + 4) n

unfoldable pub row_in : List ℕ → ℕ → List ℕ
row_in table k = words_at table (heading_length + row_length * k) 256

-- word 3 of a row
unfoldable pub steps_in : List ℕ → ℕ → ℕ
steps_in table k = word_at table (heading_length + row_length * k + 12)

-- the values of the pool's terms on given inputs, front to back, each term once: a value is its tag times 2^32 and its word
unfoldable pub values_in : (table pool inputs : List ℕ) → List ℕ
values_in table pool inputs = values_to pool inputs (replicate most_terms 0) (at_most most_terms (word_at table 4))

-- inputs meet row k's conditions: each term has the truth that the row says
unfoldable pub meets_row : (table pool inputs : List ℕ) → ℕ → Bool
meets_row table pool inputs k = row_holds table (values_in table pool inputs) k

-- a value's two words once the inputs are put in: tags 4 and 5 are terms, and become the constants that they come to
unfoldable pub put_tag : (values : List ℕ) → (tag w : ℕ) → ℕ
put_tag values tag w = if? (ltb tag number_term_tag) tag (get_or values w 0 / 4294967296)

unfoldable pub put_word : (values : List ℕ) → (tag w : ℕ) → ℕ
put_word values tag w = if? (ltb tag number_term_tag) w (get_or values w 0 % 4294967296)

-- variables are values side by side; a cell has its location and its property before its value
unfoldable pub put_variables : (values : List ℕ) → List ℕ → List ℕ
put_variables values [] = []
put_variables values (a ∷ []) = a ∷ []
put_variables values (tag ∷ w ∷ rest) = put_tag values tag w ∷ put_word values tag w ∷ put_variables values rest

unfoldable pub put_cells : (values : List ℕ) → List ℕ → List ℕ
put_cells values [] = []
put_cells values (a ∷ []) = a ∷ []
put_cells values (a ∷ b ∷ []) = a ∷ b ∷ []
put_cells values (a ∷ b ∷ c ∷ []) = a ∷ b ∷ c ∷ []
put_cells values (location ∷ property ∷ tag ∷ w ∷ rest) =
    location ∷ property ∷ put_tag values tag w ∷ put_word values tag w ∷ put_cells values rest

-- words 1 and 2: a cut (outcome 5), by either budget, is a cut for steps; and else a value, or an error's number behind a tag of 0
unfoldable pub put_outcome : (values : List ℕ) → (outcome tag w : ℕ) → List ℕ
put_outcome values outcome tag w = if? (eqb outcome as_cut) (0 ∷ for_steps ∷ []) (put_tag values tag w ∷ put_word values tag w ∷ [])

-- words 0 to 15: outcome and value; steps, procedure, command and inputs read as they are; word 7, the number of conditions, is 0
unfoldable pub put_head : (values : List ℕ) → List ℕ → List ℕ
put_head values ws =
    get_or ws 0 0 ∷ (put_outcome values (get_or ws 0 0) (get_or ws 1 0) (get_or ws 2 0) ++ (take 4 (drop 3 ws) ++ (0 ∷ drop 8 ws)))

-- a row's 256 words: heading; no conditions; variables; cells; and what is kept for later
unfoldable pub put_row : (values : List ℕ) → List ℕ → List ℕ
put_row values ws =
    put_head values (take 16 ws)
    ++ (replicate 32 0 ++ (put_variables values (take 32 (drop 48 ws)) ++ (put_cells values (take 128 (drop 80 ws)) ++ drop 208 ws)))

-- row k's bytes, once the inputs are put in
unfoldable pub put_in_bytes : (table pool inputs : List ℕ) → ℕ → List ℕ
put_in_bytes table pool inputs k = gather word_bytes (put_row (values_in table pool inputs) (row_in table k))

-- Of a table and a pool, by their bytes: the inputs meet the conditions of exactly one row, place's answer names it, and the plain run given
-- that row's steps as its budget uses all of it, and leaves that row's bytes with the inputs put in.
pub record OneRow (inputs table pool lent_answer : List ℕ) (place : ℕ) (run : ℕ → PlainAnswer) : Type 0 where
  pub row : ℕ
  pub there : row < rows_in table
  pub met : meets_row table pool inputs row ≡ true
  pub only : (k : ℕ) → k < rows_in table → meets_row table pool inputs k ≡ true → k ≡ row
  pub placed : place ≡ first_row + row
  pub ran :
      run (steps_in table row) ≡ record { returns = 0; answer = put_in_bytes table pool inputs row ++ drop answer_length lent_answer }
  -- word 3 of the answer
  pub used : word_at (run (steps_in table row)).answer 12 ≡ steps_in table row
