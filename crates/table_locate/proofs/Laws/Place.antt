-- What the call `place` cites: after an exploration that was not refused, the row read from the bytes of table and pool, and 256, is what
-- document 01's `place` answers. Assumes nothing.
use Rattle.std.specs.Prelude.{ℕ, ◌+◌, ◌<◌, ◌≤◌, ◌≡◌, List, ◌++◌, length, Option, Some, None}
use Rattle.std.specs.Option.{IsSomeAnd}
use Rattle.std.proofs.Common.{ap, ◌∙◌, arith}
use Rattle.gil.specs.Numbers.{most_steps, most_branches, most_rows, first_row, inputs_length}
use Rattle.gil.specs.Names.{Program}
use Rattle.gil.specs.Rows.{Row}
use Rattle.gil.specs.Explore.{explored}
use Rattle.gil.specs.Pool.{Ref, Pool, table}
use Rattle.gil.specs.Accounts.{Stands, here, further}
use Rattle.gil.specs.Layout.{table_bytes, pool_bytes, input_words}
use Rattle.gil.specs.Calls.{places_in}
use Rattle.gil.proofs.Demand3.{of_the_table}
use Rattle.machine_code.specs.WellFormed.{WellFormed}
use Rattle.lent_words.specs.Mirror.{at_most}
use Rattle.lent_words.specs.Laws.Words.{all_of}
use Rattle.table_locate.specs.Mirror.{rows_in, locate_in, found}
use Rattle.table_locate.specs.Laws.Sound.{Sound}
use Rattle.table_locate.specs.Laws.Inputs.{Bytes}
use Rattle.table_locate.proofs.Laws.Rows.{row_count, locate_law}
use Rattle.table_locate.specs.Laws.Exploring.{exploring-sound}

pub place_law :
    {p : Program} {w : Pool} {rows : List (Row Ref)} (budget most : ℕ) → WellFormed p → budget ≤ most_steps → most ≤ most_branches
    → table p budget most ≡ explored w rows
    → (extra rest inputs : List ℕ) → length inputs ≡ inputs_length → Bytes inputs
    → first_row + locate_in (table_bytes w rows ++ extra) (pool_bytes w ++ rest) inputs ≡ places_in inputs w rows
unfolding places_in
place_law budget most well_formed h few e extra rest inputs long bytes =
    ap (λ (k : ℕ). first_row + k) (locate_law (exploring-sound budget most well_formed h few e) extra rest inputs long bytes)

below : {A : Type 0} {k : ℕ} {a : A} {l : List A} → Stands k a l → k < length l
below here = omega arith
below (further s) = let h : _ < _ = below s in omega arith

-- and there is one: exactly one of the rows has its conditions met
pub place_found :
    {p : Program} {w : Pool} {rows : List (Row Ref)} (budget most : ℕ) → WellFormed p → budget ≤ most_steps → most ≤ most_branches
    → table p budget most ≡ explored w rows
    → (extra rest inputs : List ℕ) → length inputs ≡ inputs_length → Bytes inputs
    → (o : Option ℕ)
    → found o (rows_in (table_bytes w rows ++ extra)) (locate_in (table_bytes w rows ++ extra) (pool_bytes w ++ rest) inputs)
    → IsSomeAnd o (λ k. first_row + k ≡ places_in inputs w rows)
place_found {p} {w} {rows} budget most well_formed h few e extra rest inputs long bytes o f =
    let s : Sound w rows = exploring-sound budget most well_formed h few e in
    let counted : rows_in (table_bytes w rows ++ extra) ≡ length rows =
    ap (at_most most_rows) (row_count s extra) ∙ all_of most_rows (length rows) s.few_rows in
    let (a, placed) = of_the_table p budget most (input_words inputs) w rows e in
    let there : locate_in (table_bytes w rows ++ extra) (pool_bytes w ++ rest) inputs < length rows =
    rw (locate_law s extra rest inputs long bytes, placed) (below a.stands) in
    some o (rw counted at f) there (place_law budget most well_formed h few e extra rest inputs long bytes)
  where
    some : (o : Option ℕ) {n m l : ℕ} → found o n m → m < n → first_row + m ≡ l → IsSomeAnd o (λ k. first_row + k ≡ l)
    some None e h f = absurd (omega arith)
    some (Some k) e h f = rw (← e.0) f
