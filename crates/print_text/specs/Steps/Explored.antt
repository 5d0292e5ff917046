-- What exploring leaves is printable: the words of a sound table fit, and its rows are of the program's procedures, whose names are where
-- the reader found them. Assumes nothing.
use Rattle.std.specs.Prelude.{ℕ, ◌+◌, ◌≤◌, ◌<◌, ◌≡◌, List, [], length, get_or}
use Rattle.std.proofs.Common.{arith, length-append}
use Rattle.gil.specs.Numbers.{most_steps, most_branches, most_terms}
use Rattle.gil.specs.Names.{Program}
use Rattle.gil.specs.Values.{Node}
use Rattle.gil.specs.Machine.{procedure_at}
use Rattle.gil.specs.Rows.{Row}
use Rattle.gil.specs.Explore.{explored}
use Rattle.gil.specs.Pool.{Ref, Pool, table}
use Rattle.gil.specs.Layout.{node_words}
use Rattle.machine_code.specs.WellFormed.{Each, WellFormed}
use Rattle.machine_code.specs.WellFormed as each
use Rattle.text_tokens.specs.Mirror.Seen.{name_at}
use Rattle.text_names.specs.declared.Names.{Names}
use Rattle.print_lines.specs.Mirror.{nowhere}
use Rattle.print_laws.specs.Laws.Printable.{RowFits, Printable}
use Rattle.lent_words.specs.Laws.Reads.{Words}
use Rattle.table_locate.specs.Laws.Sound as sound
use Rattle.table_locate.specs.Laws.Sound.{Sound, TermsFit, no_term, next_term}
use Rattle.table_locate.proofs.Laws.Terms.{node-words}
use Rattle.table_locate.proofs.Laws.Rows.{row_words_lem, within}
use Rattle.table_locate.specs.Laws.Exploring.{exploring-sound, exploring-stands}

terms-fit : {before terms : Pool} → length before + length terms ≤ most_terms → TermsFit before terms → Each (λ (n : Node Ref). Words (node_words n)) terms
terms-fit h no_term = each.none
terms-fit h (next_term f fs) = each.more (node-words (omega arith) f) (terms-fit (simp length-append (omega arith)) fs)

rows_fit_lem :
    {k : ℕ} {w : Pool} {rows : List (Row Ref)} → length w ≤ most_terms → Each (sound.RowFits w) rows → Each (λ (r : Row Ref). r.procedure < k) rows
    → Each (RowFits k) rows
rows_fit_lem few each.none each.none = each.none
rows_fit_lem few (each.more f fs) (each.more g gs) =
    each.more (record { within = within f; words = row_words_lem few f; procedure = g }) (rows_fit_lem few fs gs)

pub explored_printable :
    (text : List ℕ) (names : Names) {p : Program} {w : Pool} {rows : List (Row Ref)} (budget most : ℕ) → WellFormed p → budget ≤ most_steps → most ≤ most_branches
    → table p budget most ≡ explored w rows
    → ((k : ℕ) → k < length p.procedures → name_at text (get_or names.places k nowhere) ≡ (procedure_at p k).name)
    → Printable text names p w rows
explored_printable text names {p} {w} {rows} budget most well_formed small few e named =
    let s : Sound w rows = exploring-sound budget most well_formed small few e in
    record {
      few_terms = s.few_terms;
      terms_fit = terms-fit {before = []} (omega (arith, s.few_terms)) s.terms;
      few_rows = s.few_rows;
      rows_fit = rows_fit_lem s.few_terms s.rows (exploring-stands budget most well_formed small few e);
      few_procedures = well_formed.few_procedures;
      named = named;
    }
