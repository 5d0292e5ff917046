-- The laws that the functions' own proofs cite: a name, by its place in the table of names, and the whole table. Assumes nothing.
use Rattle.std.specs.Prelude.{ℕ, ◌≡◌, List, get_or, map, Option}
use Rattle.std.proofs.Common.{sym, ◌∙◌, ap, ap₂}
use Rattle.std.proofs.Math.ListN.{get_or-map}
use Rattle.std.specs.Option.{unwrap_or}
use Rattle.gil.specs.Numbers.{most_terms, most_rows}
use Rattle.gil.specs.Text.{part}
use Rattle.gil.specs.Printed.{heading}
use Rattle.lent_words.specs.Mirror.{at_most}
use Rattle.text_tokens.specs.declared.tokens.Place.{Place}
use Rattle.text_tokens.specs.Mirror.Seen.{name_at}
use Rattle.text_names.specs.declared.Names.{Names}
use Rattle.print_writing.specs.declared.Page.{Page}
use Rattle.print_writing.specs.Mirror.{Writes}
use Rattle.print_writing.specs.Laws.{write_on, writes_as}
use Rattle.print_lines.specs.Mirror.{nowhere, sizes_in, row_form, table_form}
use Rattle.print_fields.specs.Mirror.{no_sizes, sizes_to}
use Rattle.print_parts.specs.Mirror.{runs}
use Rattle.lent_words.specs.Mirror.{word_at}

-- a name, where an empty place stands for each that the table has none of
pub name-read :
    (text : List ℕ) (places : List Place) (f : ℕ) {o o' : Option Place} {q : Place} (d : Place) → q ≡ unwrap_or o d → o ≡ o'
    → ((d : Place) → unwrap_or o' d ≡ get_or places f d) → d.start ≡ 0 → d.size ≡ 0 → name_at text q ≡ name_at text (get_or places f nowhere)
unfolding name_at
name-read text places f d e g there start size =
    let none : name_at text d ≡ name_at text nowhere = ap₂ (part text) start size in
    ap (name_at text) (e ∙ ap (λ (o : Option Place). unwrap_or o d) g ∙ there d)
    ∙ sym (get_or-map (name_at text) places f d)
    ∙ ap (get_or (map (name_at text) places) f) none
    ∙ get_or-map (name_at text) places f nowhere

pub table-by :
    (text : List ℕ) (names : Names) (table pool : List ℕ) {pool' ss : List ℕ} {p q r : Page} {terms rows n : ℕ} → terms ≡ word_at table 4 → pool' ≡ pool
    → ss ≡ sizes_to pool no_sizes (at_most most_terms terms) → rows ≡ word_at table 0 → n ≡ at_most most_rows rows → Writes p heading q
    → Writes q (runs (row_form text names table pool' ss) 0 n) r → Writes p (table_form text names table pool) r
unfolding table_form sizes_in
table-by text names table pool {pool'} {ss} {p} {q} {r} {terms} {rows} {n} e d f g h v w =
    let i : ss ≡ sizes_to pool no_sizes (at_most most_terms (word_at table 4)) =
    f ∙ ap (λ (k : ℕ). sizes_to pool no_sizes (at_most most_terms k)) e in
    let j : n ≡ at_most most_rows (word_at table 0) = h ∙ ap (at_most most_rows) g in
    write_on v (writes_as (ap₂ (λ (l : List ℕ) (k : ℕ). runs (row_form text names table l ss) 0 k) d j ∙ ap (λ (l : List ℕ). runs (row_form text names table pool l) 0 (at_most most_rows (word_at table 0))) i) w)
