-- A row's words: how many each thing of it has, a term too, and that a row within document 01's limits fills its parts. Over any kind of term, given its
-- tag and its place. Assumes nothing.
use Rattle.std.specs.Prelude.{ℕ, ◌+◌, ◌*◌, ◌≤◌, ◌<◌, ◌≡◌, length, get_or}
use Rattle.std.proofs.Common.{arith, ◌∙◌, length-append}
use Rattle.std.proofs.Math.Path.{refl, ap}
use Rattle.std.proofs.Math.Option.{Option, none, some}
use Rattle.gil.specs.Numbers.{most_branches, most_variables, most_cells, head_room, conditions_room, variables_room, cells_room, liveness_room, sites_room, rest_room, row_room, row_length, term_length}
use Rattle.gil.specs.Names.{gather}
use Rattle.gil.specs.Values.{number, boolean, location, Value, const, term, Node, input, neg, bin}
use Rattle.gil.specs.Machine.{Cell, returned, failed, vanished, error}
use Rattle.gil.specs.Rows.{Condition, Outcome, ended, cut, Row}
use Rattle.gil.specs.Pool.{Ref, place_in, Pool}
use Rattle.gil.specs.Layout.{ref_tag, node_words, node_bytes, constant_words, value_words, variable_words, cell_words, condition_words, end_words, outcome_words, head_numbers, head_words, row_parts, row_words, row_bytes}
use Rattle.gil.proofs.Theory.Gathered.{length-gather-each}
use Rattle.lent_words.specs.Laws.Rooms.{length-words, get_d_behind}
use Rattle.lent_words.specs.Laws.Parts as parts
use Rattle.lent_words.specs.Laws.Parts.{Parts, Fits, empty-fits, words_before, sizes, parts-long, part-word}

-- a row within document 01's limits: 16 branches, 16 variables in a procedure, 32 cells
pub record Within {T : Type 0} (r : Row T) : Type 0 where
  pub conditions : length r.conditions ≤ most_branches
  pub variables : length r.variables ≤ most_variables
  pub cells : length r.cells ≤ most_cells

module _ {T : Type 0} (tag place : T → ℕ) where
  -- how many words each has
  pub value_two : (v : Value T) → length (value_words tag place v) ≡ 2
  unfolding value_words constant_words
  value_two (const (number n)) = refl
  value_two (const (boolean b)) = refl
  value_two (const (location l)) = refl
  value_two (term t) = refl

  pub variable_two : (v : Option (Value T)) → length (variable_words tag place v) ≡ 2
  unfolding variable_words
  variable_two none = refl
  variable_two (some v) = value_two v

  pub cell_four : (c : Cell T) → length (cell_words tag place c) ≡ 4
  unfolding cell_words
  cell_four c = rw (value_two c.value)

  pub condition_two : (c : Condition T) → length (condition_words tag place c) ≡ 2
  unfolding condition_words
  condition_two c = refl

  pub outcome-three : (o : Outcome T) → length (outcome_words tag place o) ≡ 3
  unfolding outcome_words end_words
  outcome-three (ended (returned v)) = rw (value_two v)
  outcome-three (ended (failed v)) = rw (value_two v)
  outcome-three (ended vanished) = refl
  outcome-three (ended (error n)) = refl
  outcome-three (cut why) = refl

  -- what the head has behind its outcome
  pub head-word : (r : Row T) (m : ℕ) → get_or (head_words tag place r) (3 + m) 0 ≡ get_or (head_numbers r) m 0
  unfolding head_words
  head-word r m = get_d_behind (outcome_words tag place r.outcome) (head_numbers r) (3 + m) m (rw (outcome-three r.outcome))

  -- each part's words fit its room
  pub head-fits : (r : Row T) → length (head_words tag place r) ≤ head_room
  unfolding head_words
  head-fits r = simp (length-append, outcome-three r.outcome) (omega arith)

  module _ {r : Row T} (w : Within r) where
    pub conditions-fit : length (gather (condition_words tag place) r.conditions) ≤ conditions_room
    conditions-fit = omega (arith, length-gather-each (condition_words tag place) 2 condition_two r.conditions, w.conditions)

    pub variables-fit : length (gather (variable_words tag place) r.variables) ≤ variables_room
    variables-fit = omega (arith, length-gather-each (variable_words tag place) 2 variable_two r.variables, w.variables)

    pub cells_fit : length (gather (cell_words tag place) r.cells) ≤ cells_room
    cells_fit = omega (arith, length-gather-each (cell_words tag place) 4 cell_four r.cells, w.cells)

    pub row_fits : Parts Fits (row_parts tag place r)
    unfolding row_parts
    row_fits =
        parts.more (head-fits r)
        (parts.more conditions-fit
        (parts.more variables-fit
        (parts.more cells_fit
        (parts.more (empty-fits liveness_room) (parts.more (empty-fits sites_room) (parts.more (empty-fits rest_room) parts.none))))))

    pub row-words-long : length (row_words tag place r) ≡ row_room
    unfolding row_words row_parts sizes
    row-words-long = parts-long row_fits

    pub row-long : length (row_bytes tag place r) ≡ row_length
    unfolding row_bytes
    row-long = length-words (row_words tag place r) ∙ ap (λ (n : ℕ). 4 * n) row-words-long

    -- a word of the head, behind the outcome, and a word of the conditions
    pub row-head-word : (m : ℕ) → 3 + m < head_room → get_or (row_words tag place r) (3 + m) 0 ≡ get_or (head_numbers r) m 0
    unfolding row_words row_parts words_before
    row-head-word m h = part-word 0 (3 + m) (3 + m) row_fits (head-fits r) refl (omega arith) h ∙ head-word r m

-- a term of the pool has five words, and a pool's terms as many bytes as there are terms
pub node-five : (n : Node Ref) → length (node_words n) ≡ 5
unfolding node_words constant_words
node-five (input k) = refl
node-five (neg a) = simp (length-append, value_two ref_tag place_in)
node-five (bin o a b) = simp (length-append, value_two ref_tag place_in)

pub node-long : (n : Node Ref) → length (node_bytes n) ≡ term_length
unfolding node_bytes
node-long n = length-words (node_words n) ∙ rw (node-five n)

pub nodes-long : (w : Pool) → length (gather node_bytes w) ≡ term_length * length w
nodes-long w = length-gather-each node_bytes term_length node-long w
