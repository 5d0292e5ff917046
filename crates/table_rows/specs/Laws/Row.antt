-- What the row writer leaves is document 01's row: for words that hold a row (`RowAs`), over zeros, exactly Layout's bytes of it. Assumes nothing.
use Rattle.std.specs.Prelude.{ℕ, ◌+◌, ◌*◌, ◌/◌, ◌%◌, ◌<◌, ◌≡◌, Bool, true, false, get_or, take, drop, replicate, min}
use native.Mathlib.Omega.{arith}
use Rattle.std.proofs.Math.Nat.{zero-add}
use Rattle.std.proofs.Math.Path.{refl, sym, ap}
use Rattle.std.proofs.Common.{◌∙◌, take-append-drop, lt-ltb}
use mathlib.Core.List.{List, [], ◌∷◌, ◌++◌}
use Rattle.std.proofs.Math.Option.{Option, none, some}
use Rattle.std.proofs.Math.ListN.{length}
use Rattle.gil.specs.Names.{gather}
use Rattle.gil.specs.Values.{Constant, Value}
use Rattle.gil.specs.Machine as machine
use Rattle.gil.specs.Rows.{Condition, Row, Outcome}
use Rattle.gil.specs.Layout.{word_bytes, bit, constant_words, value_words, variable_words, cell_words, condition_words, end_words, outcome_words, head_words, row_words, row_bytes, no_number, answer_bytes, row_parts}
use Rattle.machine_values.specs.Mirror.{truth_word}
use Rattle.gil.specs.Numbers.{most_variables, most_branches, most_frames, most_cells, as_returned, as_failed, row_length}
use Rattle.machine_code.specs.Code.{frame_words}
use Rattle.machine_values.specs.Laws.{ConstAs, a_number, a_truth, a_location, low-number, low-location}
use Rattle.machine_cells.specs.declared.Cell.{Cell}
use Rattle.table_rows.specs.declared.Head.{Head}
use Rattle.table_rows.specs.Mirror.{head_of, condition_of, value_of, cell_of, variable_in, conditions_held, variables_held, cells_held, held_parts, with_row}
use Rattle.lent_words.specs.Mirror.{at_most}
use Rattle.lent_words.specs.Laws.Words.{all_of}
use Rattle.lent_words.specs.Laws.Rooms.{zeros, Alike, alike_same, alike-append}
use Rattle.lent_words.specs.Laws.Parts as parts
use Rattle.lent_words.specs.Laws.Parts.{sizes, parts-over-zeros, AlikeParts, parts-alike, alike-fit}
use Rattle.lent_words.specs.Laws.Row.{value_two, row_fits}
use Rattle.table_rows.specs.Laws.Alike.{listed-long, listed-all, listed-from, frame-words}
use Rattle.table_rows.specs.Laws.Held.{ValueAs, a_const, a_term, Keeps, ConditionAs, VariableAs, unbound, bound, CellAs, OutcomeAs, a_return, a_fail, a_vanish, an_error, a_cut, RowAs}

-- a value by its tag and its place has the words of it
const-words : {c : Constant} {x : ℕ} → ConstAs c x → value_of x ≡ constant_words c
unfolding value_of constant_words truth_word bit
const-words (a_number {n} h) = let t : (4294967296 + n) / 4294967296 ≡ 1 = omega arith in rw (t, low-number n h)
const-words (a_truth {b = true}) = refl
const-words (a_truth {b = false}) = refl
const-words (a_location {l} h) = let t : (12884901888 + l) / 4294967296 ≡ 3 = omega arith in rw (t, low-location l h)

value-words : {T : Type 0} {tag place : T → ℕ} {v : Value T} {x : ℕ} → ValueAs tag place v x → value_of x ≡ value_words tag place v
unfolding value_words value_of
value-words (a_const p) = const-words p
value-words {tag} {place} (a_term {t} h) =
    let high : (4294967296 * tag t + place t) / 4294967296 ≡ tag t = omega arith in
    let low : (4294967296 * tag t + place t) % 4294967296 ≡ place t = omega arith in
    rw (high, low)

pub value-kept : {T : Type 0} (tag place : T → ℕ) → Keeps tag place (ValueAs tag place)
unfolding value_of
value-kept tag place v x p = ap (gather word_bytes) (value-words p)

bit-small : (b : Bool) → bit b < 2
unfolding bit
bit-small true = omega arith
bit-small false = omega arith

module _ {T : Type 0} (tag place : T → ℕ) where
  -- over any way to hold a value in a word that keeps its bytes
  module _ (As : Value T → ℕ → Type 0) (kept : Keeps tag place As) where
    value-alike : (v : Value T) (x : ℕ) → As v x → Alike (value_of x) (value_words tag place v)
    unfolding value_of
    value-alike v x p = record { long = sym (value_two tag place v); bytes = kept v x p }

    variable_alike : (v : Option (Value T)) (x : ℕ) → VariableAs As v x → Alike (value_of x) (variable_words tag place v)
    unfolding variable_words value_of
    variable_alike none x unbound = alike_same refl
    variable_alike (some v) x (bound p) = value-alike v x p

    cell-alike : (c : machine.Cell T) (w : Cell) → CellAs As c w → Alike (cell_of w) (cell_words tag place c)
    unfolding cell_words cell_of
    cell-alike c w p =
        let front : w.location.0 ∷ w.property ∷ [] ≡ c.location ∷ c.property ∷ [] = rw (p.location, p.property) in
        alike-append (alike_same front) (value-alike c.value w.value p.value)

    condition-alike : (c : Condition T) (x : ℕ) → ConditionAs place c x → Alike (condition_of x) (condition_words tag place c)
    unfolding condition_words condition_of
    condition-alike c x e =
        let small : bit c.truth < 2 = bit-small c.truth in
        let half : x / 2 ≡ place c.term = omega arith in
        let odd : x % 2 ≡ bit c.truth = omega arith in
        alike_same (rw (half, odd))

    outcome-alike : (o : Outcome T) (n t w : ℕ) → OutcomeAs As o n t w → Alike (n ∷ t ∷ w ∷ []) (outcome_words tag place o)
    unfolding outcome_words end_words value_of
    outcome-alike _ _ _ _ (a_return {v} {x} p) = alike-append (alike_same {u = as_returned ∷ []} {v = as_returned ∷ []} refl) (value-alike v x p)
    outcome-alike _ _ _ _ (a_fail {v} {x} p) = alike-append (alike_same {u = as_failed ∷ []} {v = as_failed ∷ []} refl) (value-alike v x p)
    outcome-alike _ _ _ _ a_vanish = alike_same refl
    outcome-alike _ _ _ _ an_error = alike_same refl
    outcome-alike _ _ _ _ a_cut = alike_same refl

    module _ {r : Row T} {h : Head} {conditions store : List ℕ} {frame : ℕ} {cells : List Cell} (p : RowAs As place r h conditions store frame cells) where
      conditions-alike : Alike (conditions_held h.conditions conditions) (gather (condition_words tag place) r.conditions)
      unfolding conditions_held
      conditions-alike =
          let n : at_most most_branches h.conditions ≡ h.conditions = all_of most_branches h.conditions (omega (arith, p.condition_count, p.within.conditions)) in
          rw n
          (listed-from (condition_words tag place) condition_of 0 conditions h.conditions condition-alike p.condition_count p.conditions_held)

      cells-alike : Alike (cells_held cells) (gather (cell_words tag place) r.cells)
      unfolding cells_held
      cells-alike = listed-all (cell_words tag place) cell_of cells most_cells cell-alike p.within.cells p.cells_held

      cell_count : min (length cells) most_cells ≡ length r.cells
      cell_count = omega (arith, listed-long p.cells_held, p.within.cells)

      variables-alike : Alike (variables_held h.variables store frame) (gather (variable_words tag place) r.variables)
      unfolding variables_held
      variables-alike =
          let n : at_most most_variables h.variables ≡ length r.variables =
          all_of most_variables h.variables (omega (arith, p.variable_count, p.within.variables)) ∙ p.variable_count in
          rw (lt-ltb frame most_frames p.frame_fits, n) (frame-words (variable_words tag place) none (variable_in store frame) r.variables 0 each)
        where
          each : (x : ℕ) → x < length r.variables → Alike (variable_in store frame (0 + x)) (variable_words tag place (get_or r.variables x none))
          each x l = rw zero-add (variable_alike (get_or r.variables x none) (get_or store (frame_words * frame + x) 0) (p.variables_held x l))

      head-alike : Alike (head_of h cells) (head_words tag place r)
      unfolding head_words head_of
      head-alike =
          alike-append (outcome-alike r.outcome h.outcome h.tag h.word p.outcome)
          (alike_same (rw (p.steps, p.procedure, p.command, p.inputs, p.condition_count, p.variable_count, cell_count)))

      -- the parts written are the row's own, one by one
      held-alike : AlikeParts (held_parts h conditions store frame cells) (row_parts tag place r)
      unfolding held_parts row_parts
      held-alike =
          parts.more head-alike
          (parts.more conditions-alike
          (parts.more variables-alike
          (parts.more cells-alike
          (parts.more (alike_same refl) (parts.more (alike_same refl) (parts.more (alike_same refl) parts.none))))))

      -- over zeros, the row's own bytes
      row-over-zeros : (rest : List ℕ) → with_row (zeros row_length ++ rest) h conditions store frame cells ≡ row_bytes tag place r ++ rest
      unfolding with_row held_parts sizes row_bytes row_words
      row-over-zeros rest =
          parts-over-zeros (alike-fit held-alike (row_fits tag place p.within)) 0 [] rest refl
          ∙ ap (λ (l : List ℕ). l ++ rest) (parts-alike held-alike).bytes

      pub row-left :
          (part : List ℕ) → take row_length part ≡ replicate row_length 0
          → with_row part h conditions store frame cells ≡ row_bytes tag place r ++ drop row_length part
      row-left part z =
          let whole : part ≡ zeros row_length ++ drop row_length part = sym (take-append-drop row_length part) ∙ rw z in
          ap (λ (l : List ℕ). with_row l h conditions store frame cells) whole ∙ row-over-zeros (drop row_length part)

-- the plain run's answer: a row without terms
pub answer-left :
    (As : Value ⊥ → ℕ → Type 0) → Keeps no_number no_number As
    → {r : Row ⊥} {h : Head} {conditions store : List ℕ} {frame : ℕ} {cells : List Cell}
    → RowAs As no_number r h conditions store frame cells
    → (answer : List ℕ) → take row_length answer ≡ replicate row_length 0
    → with_row answer h conditions store frame cells ≡ answer_bytes r ++ drop row_length answer
unfolding answer_bytes
answer-left As kept p answer z = row-left no_number no_number As kept p answer z
