-- What the row writer leaves: its mirror on lists. Assumes nothing.
use Rattle.std.specs.Prelude.{ℕ, zero, suc, ◌+◌, ◌*◌, ◌/◌, ◌%◌, List, [], ◌∷◌, ◌++◌, length, get_or, take, drop, ltb, leb, min}
use Rattle.machine_code.specs.Mirror.{if?}
use Rattle.gil.specs.Numbers.{most_variables, most_branches, most_rows, most_frames, most_cells, row_length, heading_length, head_room, conditions_room, variables_room, cells_room, liveness_room, sites_room, rest_room}
use Rattle.gil.specs.Names.{gather}
use Rattle.gil.specs.Layout.{Part, in_room}
use Rattle.machine_code.specs.Code.{frame_words}
use Rattle.lent_words.specs.Mirror.{at_most}
use Rattle.lent_words.specs.Laws.Parts.{put_parts}
use Rattle.machine_cells.specs.declared.Cell.{Cell}
use Rattle.table_rows.specs.declared.Head.{Head}

-- the words of `n` things from number `i` on
unfoldable pub words_from : (ℕ → List ℕ) → ℕ → ℕ → List ℕ
words_from f i zero = []
words_from f i (suc n) = f i ++ words_from f (suc i) n

-- a row's first ten words
unfoldable pub head_of : Head → List Cell → List ℕ
head_of h cells =
    h.outcome ∷ h.tag ∷ h.word ∷ h.steps ∷ h.procedure ∷ h.command ∷ h.inputs ∷ h.conditions ∷ h.variables ∷ min (length cells) most_cells ∷ []

-- a condition is held as 2 × term + truth, a value as tag × 2^32 + word
unfoldable pub condition_of : ℕ → List ℕ
condition_of c = c / 2 ∷ c % 2 ∷ []

unfoldable pub value_of : ℕ → List ℕ
value_of v = v / 4294967296 ∷ v % 4294967296 ∷ []

unfoldable pub cell_of : Cell → List ℕ
cell_of c = c.location.0 ∷ c.property ∷ value_of c.value

-- what the things of a row have for words, by their numbers: frame f's variable x stands at 19 × f + x of the store
abbrev pub condition_in : List ℕ → ℕ → List ℕ
condition_in conditions i = condition_of (get_or conditions i 0)

abbrev pub variable_in : List ℕ → ℕ → ℕ → List ℕ
variable_in store frame i = value_of (get_or store (frame_words * frame + i) 0)

-- the words that conditions, variables and cells have: as many as there are, and no more than there is room for
unfoldable pub conditions_held : ℕ → List ℕ → List ℕ
conditions_held count conditions = words_from (condition_in conditions) 0 (at_most most_branches count)

unfoldable pub variables_held : ℕ → List ℕ → ℕ → List ℕ
variables_held count store frame = if? (ltb frame most_frames) (words_from (variable_in store frame) 0 (at_most most_variables count)) []

unfoldable pub cells_held : List Cell → List ℕ
cells_held cells = gather cell_of (take most_cells cells)

-- the parts of a row, as Layout has them, and each written at its place
unfoldable pub held_parts : Head → List ℕ → List ℕ → ℕ → List Cell → List Part
held_parts h conditions store frame cells =
    in_room head_room (head_of h cells)
    ∷ in_room conditions_room (conditions_held h.conditions conditions)
    ∷ in_room variables_room (variables_held h.variables store frame)
    ∷ in_room cells_room (cells_held cells)
    ∷ in_room liveness_room []
    ∷ in_room sites_room []
    ∷ in_room rest_room []
    ∷ []

unfoldable pub with_row : List ℕ → Head → List ℕ → List ℕ → ℕ → List Cell → List ℕ
with_row part h conditions store frame cells = put_parts part 0 (held_parts h conditions store frame cells)

-- row `k` of a table, which begins at 64 + 1024 × k
unfoldable pub with_row_at : List ℕ → ℕ → Head → List ℕ → List ℕ → ℕ → List Cell → List ℕ
with_row_at table k h conditions store frame cells =
    if? (ltb k most_rows)
    (if? (leb (heading_length + row_length * k) (length table))
    (take (heading_length + row_length * k) table ++ with_row (drop (heading_length + row_length * k) table) h conditions store frame cells)
    table)
    table
