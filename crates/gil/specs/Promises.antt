-- What an exported call promises. A call is a constructor with all that it is given; what there is to see of it afterwards is its outcome; and
-- each promise is that the outcome is document 01's (Calls). The contracts cite `Promise` itself. A call that is added is a constructor and
-- two clauses here. Assumes nothing.
use Rattle.std.specs.Prelude.{ℕ, ◌≡◌, List}
use Rattle.std.proofs.Common.{sym, ◌∙◌}
use Rattle.gil.specs.Calls.{check_call, PlainAnswer, plain_call, TableAnswer, explore_call, place_call}

-- bytes are numbers in lists; `answer`, `table` and `pool` are the bytes of lent memory before the call
pub data Call : Type 0 where
  check : (text : List ℕ) → Call
  plain_run : (text inputs : List ℕ) (steps : ℕ) (answer : List ℕ) → Call
  explore : (text : List ℕ) (steps branches : ℕ) (table pool : List ℕ) → Call
  place : (text inputs : List ℕ) (steps branches : ℕ) (table pool : List ℕ) → Call

-- what it returns, and the bytes of lent memory afterwards
abbrev pub Outcome : Call → Type 0
Outcome (check text) = ℕ
Outcome (plain_run text inputs steps answer) = PlainAnswer
Outcome (explore text steps branches table pool) = TableAnswer
Outcome (place text inputs steps branches table pool) = TableAnswer

-- any version of the calls: "it accepts all byte strings, budgets and input lists, always comes back"
abbrev pub Version : Type 0
Version = (c : Call) → Outcome c

-- document 01's
abbrev pub the_calls : Version
the_calls (check text) = check_call text
the_calls (plain_run text inputs steps answer) = plain_call text inputs steps answer
the_calls (explore text steps branches table pool) = explore_call text steps branches table pool
the_calls (place text inputs steps branches table pool) = place_call text inputs steps branches table pool

abbrev pub Promise : (c : Call) → Outcome c → Type 0
Promise c r = r ≡ the_calls c

-- two outcomes that a promise allows are the same. There is no exception.
pub one-outcome : (c : Call) (r q : Outcome c) → Promise c r → Promise c q → r ≡ q
one-outcome c r q e f = e ∙ sym f
