-- How the engine holds what document 01 speaks of: a value, a variable, a condition in one word, a cell in a cell of words, and a row in the
-- words that the row writer gets. Over any kind of term, given its tag and its place. Assumes nothing.
use Rattle.std.specs.Prelude.{ℕ, ◌+◌, ◌*◌, ◌/◌, ◌%◌, ◌<◌, ◌≡◌, List, [], ◌∷◌, length, get_or, take}
use Rattle.std.proofs.Math.Option.{Option, none, some}
use Rattle.gil.specs.Numbers.{most_frames, as_returned, as_failed, as_vanished, as_error, as_cut}
use Rattle.gil.specs.Names.{gather}
use Rattle.gil.specs.Values.{Constant, Value, const, term}
use Rattle.gil.specs.Machine as machine
use Rattle.gil.specs.Machine.{Store, returned, failed, vanished, error}
use Rattle.gil.specs.Rows.{Condition, Reason, Outcome, ended, cut, Row}
use Rattle.gil.specs.Layout.{word_bytes, bit, reason_code, value_words}
use Rattle.machine_code.specs.Code.{frame_words}
use Rattle.machine_values.specs.Laws.{ConstAs}
use Rattle.machine_cells.specs.declared.Cell.{Cell}
use Rattle.lent_words.specs.Laws.Row.{Within}
use Rattle.table_rows.specs.declared.Head.{Head}

-- a value: a constant as values' laws have it, a term by its tag and its place, both tag × 2^32 + word
pub data ValueAs {T : Type 0} (tag place : T → ℕ) : Value T → ℕ → Type 0 where
  a_const : {c : Constant} {x : ℕ} → ConstAs c x → ValueAs tag place (const c) x
  a_term : {t : T} → place t < 4294967296 → ValueAs tag place (term t) (4294967296 * tag t + place t)

-- any way to hold a value in a word keeps its bytes if the two words have those of Layout's
abbrev pub Keeps : {T : Type 0} → (tag place : T → ℕ) → (Value T → ℕ → Type 0) → Type 0
Keeps {T} tag place As =
    (v : Value T) (x : ℕ) → As v x → gather word_bytes (x / 4294967296 ∷ x % 4294967296 ∷ []) ≡ gather word_bytes (value_words tag place v)

-- the things of two lists, one by one
pub data Listed {A W : Type 0} (As : A → W → Type 0) : List A → List W → Type 0 where
  nothing : Listed As [] []
  more : {a : A} {w : W} {l : List A} {ws : List W} → As a w → Listed As l ws → Listed As (a ∷ l) (w ∷ ws)

-- a condition: twice its term's place, and its truth
abbrev pub ConditionAs : {T : Type 0} → (T → ℕ) → Condition T → ℕ → Type 0
ConditionAs place c x = x ≡ 2 * place c.term + bit c.truth

-- over any way to hold a value
module _ {T : Type 0} (As : Value T → ℕ → Type 0) where
  -- a variable, bound or not
  pub data VariableAs : Option (Value T) → ℕ → Type 0 where
    unbound : VariableAs none 0
    bound : {v : Value T} {x : ℕ} → As v x → VariableAs (some v) x

  -- a frame's variables: frame f's variable x stands at 19 × f + x of the store
  abbrev pub FrameAs : Store T → List ℕ → ℕ → Type 0
  FrameAs vs store frame = (x : ℕ) → x < length vs → VariableAs (get_or vs x none) (get_or store (frame_words * frame + x) 0)

  pub record CellAs (c : machine.Cell T) (w : Cell) : Type 0 where
    pub location : w.location.0 ≡ c.location
    pub property : w.property ≡ c.property
    pub value : As c.value w.value

  -- an outcome, with its value's two words, its error number or its reason
  pub data OutcomeAs : Outcome T → ℕ → ℕ → ℕ → Type 0 where
    a_return : {v : Value T} {x : ℕ} → As v x → OutcomeAs (ended (returned v)) as_returned (x / 4294967296) (x % 4294967296)
    a_fail : {v : Value T} {x : ℕ} → As v x → OutcomeAs (ended (failed v)) as_failed (x / 4294967296) (x % 4294967296)
    a_vanish : OutcomeAs (ended vanished) as_vanished 0 0
    an_error : {n : ℕ} → OutcomeAs (ended (error n)) as_error 0 n
    a_cut : {why : Reason} → OutcomeAs (cut why) as_cut 0 (reason_code why)

  -- "A finished row": its head, the first of the conditions and variables, as many as the head counts, and the cells
  pub record RowAs (place : T → ℕ) (r : Row T) (h : Head) (conditions store : List ℕ) (frame : ℕ) (cells : List Cell) : Type 0 where
    pub outcome : OutcomeAs r.outcome h.outcome h.tag h.word
    pub steps : h.steps ≡ r.steps
    pub procedure : h.procedure ≡ r.procedure
    pub command : h.command ≡ r.command
    pub inputs : h.inputs ≡ r.inputs
    pub condition_count : h.conditions ≡ length r.conditions
    pub variable_count : h.variables ≡ length r.variables
    pub within : Within r
    pub frame_fits : frame < most_frames
    pub conditions_held : Listed (ConditionAs place) r.conditions (take h.conditions conditions)
    pub variables_held : FrameAs r.variables store frame
    pub cells_held : Listed CellAs r.cells cells
