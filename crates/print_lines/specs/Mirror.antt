-- What each function of this crate writes, on any bytes of table and pool at all: rows, and the whole table. crates/print_laws shows
-- that for the bytes of a table and its pool this is document 01's printed form. Assumes nothing.
use Rattle.std.specs.Prelude.{ℕ, List, [], ◌∷◌, ◌++◌, get_or, ltb}
use Rattle.std.proofs.Math.Dec.{lit<}
use Rattle.gil.specs.Numbers.{most_terms, most_rows, most_branches, most_procedures, outcome_word, tag_word, value_word, steps_word, procedure_word, command_word, conditions_word}
use Rattle.gil.specs.Printed.{decimal, line_end, heading}
use Rattle.text_tokens.specs.declared.tokens.Place.{Place}
use Rattle.text_tokens.specs.Mirror.Seen.{name_at}
use Rattle.text_names.specs.declared.Names.{Names}
use Rattle.lent_words.specs.Mirror.{word_at, at_most}
use Rattle.machine_code.specs.Mirror.{if?}
use Rattle.print_fields.specs.Mirror.{no_sizes, sizes_to}
use Rattle.print_parts.specs.Mirror.{runs, outcome_form, row_word, conditions_form}

-- the sizes of the texts of all terms
unfoldable pub sizes_in : (table pool : List ℕ) → List ℕ
sizes_in table pool = sizes_to pool no_sizes (at_most most_terms (word_at table 4))

-- a procedure's name, by its number
abbrev pub nowhere : Place
nowhere = record { start = 0; size = 0; short = lit< tt }

unfoldable pub name_form : List ℕ → Names → ℕ → List ℕ
name_form text names f = if? (ltb f most_procedures) (name_at text (get_or names.places f nowhere)) []

-- a row's number, outcome and value; then steps, procedure and command
unfoldable pub start_form : (table pool ss : List ℕ) → ℕ → List ℕ
start_form table pool ss row =
    decimal row ++ (44 ∷ outcome_form pool ss (row_word table row outcome_word) (row_word table row tag_word) (row_word table row value_word))

unfoldable pub place_form : (text : List ℕ) → Names → (table : List ℕ) → ℕ → List ℕ
place_form text names table row =
    (44 ∷ decimal (row_word table row steps_word))
    ++ (44 ∷ name_form text names (row_word table row procedure_word))
    ++ (44 ∷ decimal (row_word table row command_word))

unfoldable pub row_form : (text : List ℕ) → Names → (table pool ss : List ℕ) → ℕ → List ℕ
row_form text names table pool ss row =
    start_form table pool ss row
    ++ place_form text names table row
    ++ (44 ∷ conditions_form table pool ss row (at_most most_branches (row_word table row conditions_word)))
    ++ line_end

unfoldable pub table_form : (text : List ℕ) → Names → (table pool : List ℕ) → List ℕ
table_form text names table pool =
    heading ++ runs (row_form text names table pool (sizes_in table pool)) 0 (at_most most_rows (word_at table 0))
