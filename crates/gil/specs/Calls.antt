-- "What is built": the four calls, as total functions of all that they are given: what each returns, and every byte of lent memory
-- afterwards. 0 is success, 1 to 10 a refusal, and `place` answers 256 more than the row's number. Assumes nothing.
use Rattle.std.specs.Prelude.{ℕ, ◌+◌, Bool, true, false, not, ◌&&◌, ◌||◌, List, ◌++◌, length, drop, replicate, ltb, leb, eqb}
use Rattle.gil.specs.Names.{Checked, refused, accepted, check_text}
use Rattle.gil.specs.Rows.{Row}
use Rattle.gil.specs.Explore as Explore
use Rattle.gil.specs.Explore.{Explored, explored}
use Rattle.gil.specs.Plain.{plain_run}
use Rattle.gil.specs.Pool.{Pool, Ref, table, placed}
use Rattle.gil.specs.Numbers.{most_steps, most_branches, for_budgets, for_lists, first_row, table_length, pool_length, answer_length, inputs_length}
use Rattle.gil.specs.Layout.{table_bytes, pool_bytes, answer_bytes, input_words}

-- 1 and 2 are tested before the text
unfoldable pub first_of : Bool → Bool → Checked → Checked
first_of true wrong t = refused for_budgets
first_of false true t = refused for_lists
first_of false false t = t

-- 1: "explore/place: steps not 1 to 1,024, or branches above 16; plain run: steps above 1,024"
unfoldable pub wrong_budgets : (budget most : ℕ) → Bool
wrong_budgets budget most = not (leb 1 budget && leb budget most_steps) || ltb most_branches most

unfoldable pub wrong_budget : ℕ → Bool
wrong_budget budget = ltb most_steps budget

-- 2: "a lent buffer is shorter than the call needs, or the input list is not sixteen long"
unfoldable pub short_tables : (table pool : List ℕ) → Bool
short_tables t w = ltb (length t) table_length || ltb (length w) pool_length

unfoldable pub wrong_inputs : List ℕ → Bool
wrong_inputs inputs = not (eqb (length inputs) inputs_length)

-- check
unfoldable pub text_answer : Checked → ℕ
text_answer (refused n) = n
text_answer (accepted p) = 0

unfoldable pub check_call : List ℕ → ℕ
check_call text = text_answer (check_text text)

-- plain run
pub record PlainAnswer : Type 0 where
  pub returns : ℕ
  pub answer : List ℕ

unfoldable pub plain_on : (inputs : List ℕ) (budget : ℕ) (answer : List ℕ) → Checked → PlainAnswer
plain_on inputs budget answer (refused n) = record { returns = n; answer = answer }
plain_on inputs budget answer (accepted p) =
    record { returns = 0; answer = answer_bytes (plain_run p (input_words inputs) budget) ++ drop answer_length answer }

unfoldable pub plain_call : (text inputs : List ℕ) (budget : ℕ) (answer : List ℕ) → PlainAnswer
plain_call text inputs budget answer =
    plain_on inputs budget answer
    (first_of (wrong_budget budget) (wrong_inputs inputs || ltb (length answer) answer_length) (check_text text))

-- explore
pub record TableAnswer : Type 0 where
  pub returns : ℕ
  pub table : List ℕ
  pub pool : List ℕ

-- "9 and 10 leave table and pool zero": the needed part, and a longer buffer keeps its surplus
unfoldable pub tables_after : (success : Pool → List (Row Ref) → ℕ) (table pool : List ℕ) → Explored Pool Ref → TableAnswer
tables_after success t w (Explore.refused n) =
    record { returns = n; table = replicate table_length 0 ++ drop table_length t; pool = replicate pool_length 0 ++ drop pool_length w }
tables_after success t w (explored terms rows) =
    record {
      returns = success terms rows;
      table = table_bytes terms rows ++ drop table_length t;
      pool = pool_bytes terms ++ drop pool_length w;
    }

unfoldable pub explore_on : (success : Pool → List (Row Ref) → ℕ) (budget most : ℕ) (table pool : List ℕ) → Checked → TableAnswer
explore_on success budget most t w (refused n) = record { returns = n; table = t; pool = w }
explore_on success budget most t w (accepted p) = tables_after success t w (table p budget most)

unfoldable pub succeeds : Pool → List (Row Ref) → ℕ
succeeds terms rows = 0

unfoldable pub explore_call : (text : List ℕ) (budget most : ℕ) (table pool : List ℕ) → TableAnswer
explore_call text budget most t w =
    explore_on succeeds budget most t w (first_of (wrong_budgets budget most) (short_tables t w) (check_text text))

-- place
unfoldable pub places_in : List ℕ → Pool → List (Row Ref) → ℕ
places_in inputs terms rows = first_row + placed (input_words inputs) terms rows

unfoldable pub place_call : (text inputs : List ℕ) (budget most : ℕ) (table pool : List ℕ) → TableAnswer
place_call text inputs budget most t w =
    explore_on (places_in inputs) budget most t w
    (first_of (wrong_budgets budget most) (wrong_inputs inputs || short_tables t w) (check_text text))
