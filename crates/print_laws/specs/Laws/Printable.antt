-- What printing relies on: the words of a table and a pool fit 32 bits and their places, and the names of procedures are found in the text.
-- Nothing is asked of references or sorts. Whoever explored the table has to show this. Assumes nothing.
use Rattle.std.specs.Prelude.{ℕ, ◌≤◌, ◌<◌, ◌≡◌, List, length, get_or}
use Rattle.gil.specs.Numbers.{most_terms, most_rows, most_procedures}
use Rattle.gil.specs.Names.{Program}
use Rattle.gil.specs.Values.{Node}
use Rattle.gil.specs.Machine.{procedure_at}
use Rattle.gil.specs.Rows.{Row}
use Rattle.gil.specs.Pool.{Ref, place_in, Pool}
use Rattle.gil.specs.Layout.{ref_tag, node_words, row_words}
use Rattle.machine_code.specs.WellFormed.{Each}
use Rattle.lent_words.specs.Laws.Reads.{Words}
use Rattle.lent_words.specs.Laws.Row.{Within}
use Rattle.text_tokens.specs.Mirror.Seen.{name_at}
use Rattle.text_names.specs.declared.Names.{Names}
use Rattle.print_lines.specs.Mirror.{nowhere}

-- a row is within document 01's limits, and is of one of so many procedures
pub record RowFits (procedures : ℕ) (r : Row Ref) : Type 0 where
  pub within : Within r
  pub words : Words (row_words ref_tag place_in r)
  pub procedure : r.procedure < procedures

-- a name is shorter than this, as each place in a table of names is (crates/text_tokens)
abbrev pub name_range : ℕ
name_range = 32

-- `names` has the place of each procedure's name in the text, as a table of names does (crates/text_names)
pub record Printable (text : List ℕ) (names : Names) (p : Program) (w : Pool) (rows : List (Row Ref)) : Type 0 where
  pub few_terms : length w ≤ most_terms
  pub terms_fit : Each (λ (n : Node Ref). Words (node_words n)) w
  pub few_rows : length rows ≤ most_rows
  pub rows_fit : Each (RowFits (length p.procedures)) rows
  pub few_procedures : length p.procedures ≤ most_procedures
  pub named : (f : ℕ) → f < length p.procedures → name_at text (get_or names.places f nowhere) ≡ (procedure_at p f).name
