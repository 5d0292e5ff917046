-- "A finished row": outcome, value or error number, steps, position, inputs read, conditions, the current frame's variables, the cells.
-- A path is a state with the steps it took and the conditions it gained. Assumes nothing.
use Rattle.std.specs.Prelude.{ℕ, Bool, List}
use Rattle.gil.specs.Machine.{Cell, Store, State, End}

-- "each branch gains one condition: the term and the truth it must have"
pub record Condition (T : Type 0) : Type 0 where
  pub term : T
  pub truth : Bool

-- "A path is cut for `steps` when the step budget is used up, and for `branches` .."
pub data Reason : Type 0 where
  steps branches : Reason

-- how a row stands: its path ended, or was cut
pub data Outcome (T : Type 0) : Type 0 where
  ended : End T → Outcome T
  cut : Reason → Outcome T

pub record Path (T : Type 0) : Type 0 where
  pub state : State T
  pub steps : ℕ
  pub conditions : List (Condition T)

pub record Row (T : Type 0) : Type 0 where
  pub outcome : Outcome T
  pub steps : ℕ
  pub procedure : ℕ
  pub command : ℕ
  pub inputs : ℕ
  pub conditions : List (Condition T)
  pub variables : Store T
  pub cells : List (Cell T)

-- "The position of an ended run is the command that ended it"; a cut one's is the next command. Both are where the path stands.
unfoldable pub row_of : {T : Type 0} → Outcome T → ℕ → Path T → Row T
row_of o n q =
    record {
      outcome = o;
      steps = n;
      procedure = q.state.control.procedure;
      command = q.state.control.command;
      inputs = q.state.memory.counters.inputs;
      conditions = q.conditions;
      variables = q.state.variables;
      cells = q.state.memory.cells;
    }

-- a path that waits, read as cut
unfoldable pub cut_for : {T : Type 0} → Reason → Path T → Row T
cut_for why q = row_of (cut why) q.steps q
