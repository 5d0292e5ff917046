-- "Numbered refusals, in the order tested": the reasons for which a call refuses, each a constructor with its number, in document 01's
-- words; and what it is to refuse by the first of them that holds. Definitions only. Assumes nothing.
use Rattle.std.specs.Prelude.{ℕ, ◌+◌, ◌≤◌, ◌<◌, ◌≡◌, ◌↔◌, ◌⊎◌, Bool, true, ◌||◌, List, [], ◌∷◌, ◌++◌, length, drop, replicate, ltb}
use Rattle.gil.specs.Tree.{Proc, Name}
use Rattle.gil.specs.Reading.{faulty, read, procedures}
use Rattle.gil.specs.Names.{Program, accepted, over_limits, wrong_names, wrong_jump, wrong_end, check_text}
use Rattle.gil.specs.Machine.{move}
use Rattle.gil.specs.Rows.{Path, Row}
use Rattle.gil.specs.Plain.{plain_run}
use Rattle.gil.specs.Explore.{Turn, finishes, explored, Exploring, exploring, turn_in}
use Rattle.gil.specs.Pool.{Ref, Pool, pooled, table}
use Rattle.gil.specs.Accounts.{exploration_after}
use Rattle.gil.specs.Numbers.{most_bytes, most_rows, most_terms, for_budgets, for_lists, for_length, for_form, for_limits, for_names, for_jump, for_end, for_rows, for_terms, last_refusal, first_row, table_length, pool_length, answer_length}
use Rattle.gil.specs.Layout.{table_bytes, pool_bytes, answer_bytes, input_words}
use Rattle.gil.specs.Calls as Calls
use Rattle.gil.specs.Calls.{PlainAnswer, TableAnswer}

-- 3 to 8, of a text
pub data TextReason (text : List ℕ) : ℕ → Type 0 where
  -- "text longer than 16,384 bytes"
  too_long : most_bytes < length text → TextReason text for_length
  -- "text is not of the form above"
  not_of_the_form : procedures text ≡ faulty → TextReason text for_form
  -- "over 16 procedures, 512 commands in all, 16 variables in a procedure (parameter included), or 32 distinct properties"
  over_a_limit : {ps : List (Proc Name)} {next : ℕ} → procedures text ≡ read ps next → over_limits ps ≡ true → TextReason text for_limits
  -- "two procedures of one name, a call of a procedure that is not there, or no `main`"
  wrong_name : {ps : List (Proc Name)} {next : ℕ} → procedures text ≡ read ps next → wrong_names ps ≡ true → TextReason text for_names
  -- "a jump number not below its procedure's count of commands"
  jumps_past : {ps : List (Proc Name)} {next : ℕ} → procedures text ≡ read ps next → wrong_jump ps ≡ true → TextReason text for_jump
  -- "a procedure whose last command is not return, fail or vanish"
  ends_open : {ps : List (Proc Name)} {next : ℕ} → procedures text ≡ read ps next → wrong_end ps ≡ true → TextReason text for_end

-- the terms there are after a path's next command, and what the path comes to by it
unfoldable pub terms_after : Program → Pool → Path Ref → Pool
unfolding pooled
terms_after p w q = (move pooled p w q.state).world

unfoldable pub turn_after : Program → ℕ → Pool → Path Ref → Turn Ref
unfolding pooled
turn_after p most w q = turn_in pooled p most q (move pooled p w q.state)

-- 9 and 10, of an exploration that has got so far: what its next command would do
pub data Overruns (p : Program) (budget most : ℕ) : ℕ → Exploring Pool Ref → Type 0 where
  -- "a 65th row would be finished": the first waiting path has used its steps up, and is cut
  row_of_cut :
      {w : Pool} {rows : List (Row Ref)} {q : Path Ref} {qs : List (Path Ref)}
      → budget ≤ q.steps
      → most_rows ≤ length rows
      → Overruns p budget most for_rows (exploring w rows (q ∷ qs))
  -- or its command finishes it; "a command makes its terms before it finishes a row"
  row_of_command :
      {w : Pool} {rows : List (Row Ref)} {q : Path Ref} {qs : List (Path Ref)} {r : Row Ref}
      → q.steps < budget
      → length (terms_after p w q) ≤ most_terms
      → turn_after p most w q ≡ finishes r
      → most_rows ≤ length rows
      → Overruns p budget most for_rows (exploring w rows (q ∷ qs))
  -- "a 2,049th term would be made"
  term_of_command :
      {w : Pool} {rows : List (Row Ref)} {q : Path Ref} {qs : List (Path Ref)}
      → q.steps < budget
      → most_terms < length (terms_after p w q)
      → Overruns p budget most for_terms (exploring w rows (q ∷ qs))

-- of an accepted text: its exploration overruns after so many commands. "Of 9 and 10 the one that comes first in exploration order is
-- given": the exploration goes no further than its first overrun.
pub data Overrun (text : List ℕ) (budget most : ℕ) : ℕ → Type 0 where
  after :
      (commands : ℕ) {p : Program} {n : ℕ} → check_text text ≡ accepted p → Overruns p budget most n (exploration_after p budget most commands)
      → Overrun text budget most n

-- the plain run never explores
pub data Never : ℕ → Type 0 where

-- 1 to 10, of a call whose budgets or lists are wrong, or not
pub data Reason (budgets lists : Bool) (text : List ℕ) (Late : ℕ → Type 0) : ℕ → Type 0 where
  -- "explore/place: steps not 1 to 1,024, or branches above 16; plain run: steps above 1,024"
  of_budgets : budgets ≡ true → Reason budgets lists text Late for_budgets
  -- "a lent buffer is shorter than the call needs, or the input list is not sixteen long"
  of_lists : lists ≡ true → Reason budgets lists text Late for_lists
  -- 3 to 8, and 9 and 10
  of_text : {n : ℕ} → TextReason text n → Reason budgets lists text Late n
  of_exploring : {n : ℕ} → Late n → Reason budgets lists text Late n

-- the reasons of each call; the tests of 1 and 2 are those of Calls
abbrev pub CheckReason : List ℕ → ℕ → Type 0
CheckReason text = TextReason text

abbrev pub PlainReason : (text inputs : List ℕ) (budget : ℕ) (answer : List ℕ) → ℕ → Type 0
PlainReason text inputs budget answer =
    Reason (Calls.wrong_budget budget) (Calls.wrong_inputs inputs || ltb (length answer) answer_length) text Never

abbrev pub ExploreReason : (text : List ℕ) (budget most : ℕ) (table pool : List ℕ) → ℕ → Type 0
ExploreReason text budget most table pool =
    Reason (Calls.wrong_budgets budget most) (Calls.short_tables table pool) text (Overrun text budget most)

abbrev pub PlaceReason : (text inputs : List ℕ) (budget most : ℕ) (table pool : List ℕ) → ℕ → Type 0
PlaceReason text inputs budget most table pool =
    Reason (Calls.wrong_budgets budget most) (Calls.wrong_inputs inputs || Calls.short_tables table pool) text (Overrun text budget most)

-- what the calls return where they do not refuse: 0, and place 256 more than the row's number, 0 to 63
abbrev pub Zero : ℕ → Type 0
Zero r = r ≡ 0

abbrev pub ARow : ℕ → Type 0
ARow r = (first_row ≤ r) × (r < first_row + most_rows)

-- the refusals of each call, "in the order tested"
abbrev pub text_refusals : List ℕ
text_refusals = for_length ∷ for_form ∷ for_limits ∷ for_names ∷ for_jump ∷ for_end ∷ []

abbrev pub plain_refusals : List ℕ
plain_refusals = for_budgets ∷ for_lists ∷ text_refusals

abbrev pub explore_refusals : List ℕ
explore_refusals =
    for_budgets ∷ for_lists ∷ for_length ∷ for_form ∷ for_limits ∷ for_names ∷ for_jump ∷ for_end ∷ for_rows ∷ for_terms ∷ []

-- the first number of a list whose reason holds
pub data First (R : ℕ → Type 0) : List ℕ → ℕ → Type 0 where
  holds : {n : ℕ} {later : List ℕ} → R n → First R (n ∷ later) n
  passes : {m n : ℕ} {later : List ℕ} → (R m → ⊥) → First R later n → First R (m ∷ later) n

-- "refuses by the numbered reason that comes first in our document's order, and only where one holds": a call with the reasons `R`, which
-- may refuse by the numbers of `order`, in that order
pub record Refuses (R : ℕ → Type 0) (order : List ℕ) (Success : ℕ → Type 0) (returns : ℕ) : Type 0 where
  -- it returns n exactly if n is the first of them whose reason holds
  pub exactly : (n : ℕ) → 1 ≤ n → n ≤ last_refusal → (returns ≡ n) ↔ First R order n
  -- it succeeds exactly if no reason holds
  pub otherwise : Success returns ↔ ((n : ℕ) → R n → ⊥)
  -- and there is nothing else that it returns
  pub nothing_else : Success returns ⊎ First R order returns

-- "Refusals 1 to 8 leave lent memory untouched; 9 and 10 leave table and pool zero": the needed part of them; "a buffer longer than needed
-- keeps its surplus"
pub record Leaves (lent_table lent_pool : List ℕ) (a : TableAnswer) : Type 0 where
  pub untouched : for_budgets ≤ a.returns → a.returns ≤ for_end → (a.table ≡ lent_table) × (a.pool ≡ lent_pool)
  pub zero :
      for_rows ≤ a.returns → a.returns ≤ for_terms
      → (a.table ≡ replicate table_length 0 ++ drop table_length lent_table) × (a.pool ≡ replicate pool_length 0 ++ drop pool_length lent_pool)

-- what a call is where it does not refuse: the plain run's answer, and the table and pool of the definitions
pub record RunsAs (text inputs : List ℕ) (budget : ℕ) (lent_answer : List ℕ) (a : PlainAnswer) : Type 0 where
  pub program : Program
  pub reads : check_text text ≡ accepted program
  pub is :
      a ≡ record { returns = 0; answer = answer_bytes (plain_run program (input_words inputs) budget) ++ drop answer_length lent_answer }

pub record ExploresAs
    (success : Pool → List (Row Ref) → ℕ) (text : List ℕ) (budget most : ℕ) (lent_table lent_pool : List ℕ) (a : TableAnswer)
    : Type 0 where
  pub program : Program
  pub terms : Pool
  pub rows : List (Row Ref)
  pub reads : check_text text ≡ accepted program
  pub explores : table program budget most ≡ explored terms rows
  pub is :
      a
      ≡ record {
        returns = success terms rows;
        table = table_bytes terms rows ++ drop table_length lent_table;
        pool = pool_bytes terms ++ drop pool_length lent_pool;
      }
