-- From what `explore` leaves to the printed table: the laws that the proof of `print_table` cites. Assumes nothing.
use Rattle.std.specs.Prelude.{ℕ, ◌≤◌, ◌<◌, ◌≡◌, false, List, ◌++◌, length, get_or, drop, replicate}
use Rattle.std.proofs.Common.{arith, refl, ap, subst, sym, ◌∙◌, le-ltb}
use Rattle.std.proofs.lemmas.List.{length-replicate}
use Rattle.gil.specs.Names.{Program, accepted, check_text}
use Rattle.gil.specs.Machine.{procedure_at}
use Rattle.gil.specs.Rows.{Row}
use Rattle.gil.specs.Explore as Explore
use Rattle.gil.specs.Explore.{Explored, explored}
use Rattle.gil.specs.Pool.{Ref, Pool, table}
use Rattle.gil.specs.Numbers.{most_steps, most_branches, table_length, pool_length}
use Rattle.gil.specs.Layout.{table_bytes, pool_bytes}
use Rattle.gil.specs.Calls.{wrong_budgets, short_tables, TableAnswer, tables_after, explore_on, succeeds, explore_call}
use Rattle.gil.specs.Printed.{refusal_line, explored_text, checked_text, printed}
use Rattle.machine_code.proofs.Accepted.{accepted_well_formed}
use Rattle.print_writing.specs.Mirror.{last_place, Wrote}
use Rattle.print_writing.specs.Laws.{Front, whole}
use Rattle.text_tokens.specs.Mirror.Seen.{name_at}
use Rattle.text_names.specs.declared.Names.{Names}
use Rattle.print_lines.specs.Mirror.{nowhere, table_form}
use Rattle.print_laws.specs.Laws.Printable.{Printable}
use Rattle.print_laws.specs.Laws.Room.{table-room, refusal-room, refuses, renders}
use Rattle.call_given.specs.Laws.{Judged, turned_down, taken_up, judged, first-text}
use Rattle.table_locate.specs.Laws.Exploring.{exploring-numbered}
use Rattle.print_text.specs.Promise.{Prints}
use Rattle.print_text.specs.Steps.Explored.{explored_printable}

-- what the call `explore` comes to, with room in the memory lent: the number of a refusal, or a table and its pool
pub data Comes (text : List ℕ) (a : TableAnswer) : Type 0 where
  is_refused : (a.returns ≡ 0 → ⊥) → printed text ≡ refusal_line a.returns → Comes text a
  is_explored :
      (p : Program) (w : Pool) (rows : List (Row Ref)) (rest rest' : List ℕ) → check_text text ≡ accepted p → table p most_steps most_branches ≡ explored w rows
      → a.returns ≡ 0 → a.table ≡ table_bytes w rows ++ rest → a.pool ≡ pool_bytes w ++ rest' → Comes text a

module _ (text t u : List ℕ) (long : table_length ≤ length t) (long' : pool_length ≤ length u) where
  not_short : short_tables t u ≡ false
  unfolding short_tables
  not_short = simp (le-ltb (length t) table_length long, le-ltb (length u) pool_length long')

  not_wrong : wrong_budgets most_steps most_branches ≡ false
  unfolding wrong_budgets
  not_wrong = refl

  printed_of : {p : Program} → check_text text ≡ accepted p → printed text ≡ explored_text p (table p most_steps most_branches)
  unfolding printed checked_text
  printed_of e = ap checked_text e

  tables_come :
      (p : Program) → check_text text ≡ accepted p → (x : Explored Pool Ref) → table p most_steps most_branches ≡ x → Comes text (tables_after succeeds t u x)
  unfolding tables_after succeeds explored_text
  tables_come p e (Explore.refused n) f =
      let h : 1 ≤ n = exploring-numbered most_steps most_branches (accepted_well_formed text p e) (omega arith) (omega arith) f in
      is_refused (λ z. omega arith) (printed_of e ∙ ap (explored_text p) f)
  tables_come p e (explored w rows) f = is_explored p w rows (drop table_length t) (drop pool_length u) e f refl refl refl

  comes-by : {k : ℕ} → Judged text k → Comes text (explore_call text most_steps most_branches t u)
  unfolding explore_call explore_on printed checked_text
  comes-by (turned_down {n} e z) =
      subst (Comes text) (sym (first-text (explore_on succeeds most_steps most_branches t u) text not_wrong not_short e)) (is_refused z (ap checked_text e))
  comes-by (taken_up p e) =
      subst (Comes text) (sym (first-text (explore_on succeeds most_steps most_branches t u) text not_wrong not_short e)) (tables_come p e (table p most_steps most_branches) refl)

  pub explore-comes : Comes text (explore_call text most_steps most_branches t u)
  explore-comes = comes-by (judged text)

refusal-prints :
    {text b b' : List ℕ} {r : ℕ} (n : ℕ) → printed text ≡ refusal_line n → length b ≤ last_place → Wrote b 0 (refusal_line n) b' r
    → Prints text b b' r
refusal-prints {text} {b} {b'} {r} n e held w =
    let g : Front (printed text) b b' r = rw e (refuses n held w) in
    record { front = g; whole = λ h. whole g (rw e (omega (arith, refusal-room n))) }

-- the names of an accepted program's procedures, where a table of names has their places
abbrev pub Named : List ℕ → Names → Type 0
Named text names =
    (p : Program) → check_text text ≡ accepted p → (k : ℕ) → k < length p.procedures → name_at text (get_or names.places k nowhere) ≡ (procedure_at p k).name

table-prints :
    (names : Names) {text table' pool b b' : List ℕ} {r : ℕ} (p : Program) (w : Pool) (rows : List (Row Ref)) (rest rest' : List ℕ)
    → check_text text ≡ accepted p
    → table p most_steps most_branches ≡ explored w rows
    → printed text ≡ explored_text p (explored w rows)
    → table' ≡ table_bytes w rows ++ rest
    → pool ≡ pool_bytes w ++ rest'
    → Named text names
    → length b ≤ last_place
    → Wrote b 0 (table_form text names table' pool) b' r
    → Prints text b b' r
table-prints names {text} {b = b} {b' = b'} {r = r} p w rows rest rest' e f i g g' named held d =
    let h : Printable text names p w rows =
    explored_printable text names most_steps most_branches (accepted_well_formed text p e) (omega arith) (omega arith) f (named p e) in
    let t : Front (explored_text p (explored w rows)) b b' r = renders text names p w rows rest rest' h g g' held d in
    record { front = rw i t; whole = λ room. rw i (whole t (omega (arith, table-room text names p w rows h))) }

-- after an exploration, into memory that was zero, which left `table'` and `pool`
abbrev no_table : List ℕ
no_table = replicate table_length 0

abbrev no_pool : List ℕ
no_pool = replicate pool_length 0

module _ (text : List ℕ) {q : ℕ} {table' pool : List ℕ}
    (call : record { returns = q; table = table'; pool = pool } ≡ explore_call text most_steps most_branches no_table no_pool) where
  long : table_length ≤ length no_table
  long = let e : length no_table ≡ table_length = length-replicate {A = ℕ} table_length 0 in omega arith

  long' : pool_length ≤ length no_pool
  long' = let e : length no_pool ≡ pool_length = length-replicate {A = ℕ} pool_length 0 in omega arith

  come : Comes text (record { returns = q; table = table'; pool = pool })
  come = subst (Comes text) (sym call) (explore-comes text no_table no_pool long long')

  pub prints-refusal : {b b' : List ℕ} {r : ℕ} → (q ≡ 0 → ⊥) → length b ≤ last_place → Wrote b 0 (refusal_line q) b' r → Prints text b b' r
  prints-refusal {b} {b'} {r} z held f = go come
    where
      go : Comes text (record { returns = q; table = table'; pool = pool }) → Prints text b b' r
      go (is_refused y e) = refusal-prints q e held f
      go (is_explored p w rows rest rest' e x y g g') = absurd (z y)

  pub prints-table :
      (names : Names) {b b' : List ℕ} {r : ℕ} → q ≡ 0 → Named text names → length b ≤ last_place → Wrote b 0 (table_form text names table' pool) b' r
      → Prints text b b' r
  prints-table names {b} {b'} {r} z named held d = go come
    where
      go : Comes text (record { returns = q; table = table'; pool = pool }) → Prints text b b' r
      go (is_refused y e) = absurd (y z)
      go (is_explored p w rows rest rest' e x y g g') =
          table-prints names p w rows rest rest' e x (printed_of text no_table no_pool long long' e ∙ ap (explored_text p) x) g g' named held d
