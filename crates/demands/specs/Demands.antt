-- THE THREE DEMANDS on the calls. Read this file first, and then proofs/Demands.antt. Each demand is a record of what is asked of any version of
-- the calls; and there, a theorem: the calls of document 01's definitions (crates/gil/specs/Calls.antt) meet it (`demand_1`, `demand_2`,
-- `demand_3`). What an exported function promises is that it is the call of its name there (`Promise`, crates/gil/specs/Promises.antt): it
-- returns what that says, and leaves every byte of lent memory as that says. So what is proved there holds of it (`demanded`). The words used
-- are Reasons' (why a call refuses, and by which number) and FromBytes' (what a C caller reads from the bytes); all others are the
-- definitions'. Definitions only: what is proved of them stands in proofs/, so that an edit of a definition is read, and is refused by a
-- theorem. Wrong versions that the demands refuse: crates/demands_refused. Nothing is assumed: a list of numbers stands for bytes, a number
-- for a budget.
use Rattle.std.specs.Prelude.{ℕ, ◌≤◌, ◌≡◌, List, length}
use Rattle.gil.specs.Numbers.{answer_length, inputs_length}
use Rattle.gil.specs.Calls as Calls
use Rattle.gil.specs.Promises.{Call, check, plain_run, explore, place, Outcome, Version}
use Rattle.demands.specs.Reasons.{CheckReason, PlainReason, ExploreReason, PlaceReason, Zero, ARow, text_refusals, plain_refusals, explore_refusals, Refuses, Leaves, RunsAs, ExploresAs}
use Rattle.table_locate.specs.Laws.Inputs.{Bytes}
use Rattle.demands.specs.FromBytes.{OneRow}

-- WHAT IS ASKED of a call, given all that it is given. A call that is added to Call is one clause of `asked`, and one of each proof in
-- proofs/Demands.antt; the clauses of the others stay.
pub record Asked (Answer : Type 0) : Type 1 where
  -- the numbers that it refuses by, in the order tested, and the reason of each
  pub refusals : List ℕ
  pub reason : ℕ → Type 0
  -- the number that it returns, and what that is where it does not refuse
  pub returned : Answer → ℕ
  pub success : ℕ → Type 0
  -- lent memory after a refusal
  pub left : Answer → Type 0
  -- what it comes to where no reason holds
  pub answers : Answer → Type 0

abbrev pub asked : (c : Call) → Asked (Outcome c)
-- "The check call can give 3 to 8 only"; it is lent no memory
asked (check text) =
    record {
      refusals = text_refusals;
      reason = CheckReason text;
      returned = λ r. r;
      success = Zero;
      left = λ r. Unit {0};
      answers = Zero;
    }
-- "the plain run 1 to 8"
asked (plain_run text inputs budget lent_answer) =
    record {
      refusals = plain_refusals;
      reason = PlainReason text inputs budget lent_answer;
      returned = λ a. a.returns;
      success = Zero;
      left = λ a. 1 ≤ a.returns → a.answer ≡ lent_answer;
      answers = RunsAs text inputs budget lent_answer;
    }
asked (explore text budget most lent_table lent_pool) =
    record {
      refusals = explore_refusals;
      reason = ExploreReason text budget most lent_table lent_pool;
      returned = λ a. a.returns;
      success = Zero;
      left = Leaves lent_table lent_pool;
      answers = ExploresAs Calls.succeeds text budget most lent_table lent_pool;
    }
asked (place text inputs budget most lent_table lent_pool) =
    record {
      refusals = explore_refusals;
      reason = PlaceReason text inputs budget most lent_table lent_pool;
      returned = λ a. a.returns;
      success = ARow;
      left = Leaves lent_table lent_pool;
      answers = ExploresAs (Calls.places_in inputs) text budget most lent_table lent_pool;
    }

-- DEMAND 1. "It accepts all byte strings, budgets and input lists, always comes back, and does nothing undefined": a version is a total
-- function. "Each call tests what it was given, and refuses by the numbered reason that comes first in our document's order, and only where
-- one holds": for n from 1 to 18, it returns n exactly if reason n holds and none before it in its order does, and it succeeds exactly if
-- none holds. "Refusals 1 to 8 leave lent memory untouched; 9 and 10 leave table and pool zero."
pub record Demand1 (v : Version) : Type 0 where
  pub refuses : (c : Call) → Refuses (asked c).reason (asked c).refusals (asked c).success ((asked c).returned (v c))
  pub leaves : (c : Call) → (asked c).left (v c)

-- DEMAND 2. "The plain run and the table of symbolic rows are those of GIL as the Gillian paper defines it, with the memory, numbers and
-- budgets our document fixes: outcome, value, position, step count, conditions, variables and memory, row for row in order": where no reason
-- holds, every byte is that of the definitions' plain run, or of the definitions' table and pool; and place names the definitions' row.
pub record Demand2 (v : Version) : Type 0 where
  pub answers : (c : Call) → ((n : ℕ) → (asked c).reason n → ⊥) → (asked c).answers (v c)

-- DEMAND 3, over the bytes that a C caller holds. "Take that table where the exploration was not refused. Each list of sixteen inputs meets
-- the conditions of exactly one row. The plain run on those inputs, given that row's step count as its budget, uses all of it and has the
-- row's outcome and position, and its value or error, variables and memory once the inputs are put in; for a row cut by either budget it is
-- cut": OneRow says it of the table's and the pool's bytes after explore, of place's answer, and of every byte after the plain run.
pub record Demand3 (v : Version) : Type 0 where
  pub accounts :
      (text inputs : List ℕ) (budget most : ℕ) (lent_table lent_pool lent_answer : List ℕ)
      → length inputs ≡ inputs_length
      → Bytes inputs
      → answer_length ≤ length lent_answer
      → (v (explore text budget most lent_table lent_pool)).returns ≡ 0
      → OneRow inputs (v (explore text budget most lent_table lent_pool)).table (v (explore text budget most lent_table lent_pool)).pool lent_answer
      (v (place text inputs budget most lent_table lent_pool)).returns (λ steps. v (plain_run text inputs steps lent_answer))
  -- place leaves the table and the pool that explore leaves
  pub places :
      (text inputs : List ℕ) (budget most : ℕ) (lent_table lent_pool : List ℕ)
      → length inputs ≡ inputs_length
      → (v (explore text budget most lent_table lent_pool)).returns ≡ 0
      → ((v (place text inputs budget most lent_table lent_pool)).table ≡ (v (explore text budget most lent_table lent_pool)).table)
      × ((v (place text inputs budget most lent_table lent_pool)).pool ≡ (v (explore text budget most lent_table lent_pool)).pool)

-- TIGHTNESS: what `determined` (proofs/Demands.antt) says of two versions that meet demands 1 and 2
abbrev pub Same : Version → Version → Type 0
Same v w = (c : Call) → v c ≡ w c
