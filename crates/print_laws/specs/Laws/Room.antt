-- "At most 262,144 bytes": every printable table's text fits, and so do the refusals; so what is written stands at the front of the memory,
-- as far as there is room, and is counted whole. Assumes nothing.
use Rattle.std.specs.Prelude.{ℕ, suc, ◌+◌, ◌*◌, ◌≤◌, ◌<◌, ◌≡◌, Bool, length, get_or, drop}
use native.Mathlib.Omega.{arith}
use Rattle.std.proofs.Common.{◌∙◌, ap, length-take}
use Rattle.std.proofs.Math.Bool.{true, false}
use mathlib.Core.List.{List, [], ◌∷◌, ◌++◌}
use Rattle.std.proofs.Math.Option.{Option}
use Rattle.std.proofs.Math.ListN.{length-append}
use Rattle.gil.specs.Numbers.{most_branches}
use Rattle.gil.specs.Text.{bytes, part}
use Rattle.gil.specs.Names.{Program}
use Rattle.gil.specs.Values.{Value, term}
use Rattle.gil.specs.Machine.{procedure_at, End, returned, failed, vanished, error}
use Rattle.gil.specs.Rows.{Condition, steps, branches, Outcome, ended, cut, Row}
use Rattle.gil.specs.Explore.{explored}
use Rattle.gil.specs.Pool.{Ref, Pool}
use Rattle.gil.specs.Layout.{pool_bytes, table_bytes}
use Rattle.gil.specs.Printed.{pool_texts, or_large, value_field, end_fields, outcome_fields, unless_true, condition_text, conditions_after, conditions_field, line_end, row_line, row_lines, heading, refusal_line, explored_text}
use Rattle.text_tokens.specs.declared.tokens.Place.{Place}
use Rattle.text_tokens.specs.Mirror.Seen.{name_at}
use Rattle.text_names.specs.declared.Names.{Names}
use Rattle.machine_code.specs.WellFormed.{Each}
use Rattle.machine_code.specs.WellFormed as each
use Rattle.print_writing.specs.Mirror.{last_place, Wrote}
use Rattle.print_writing.specs.Laws.{wrote_as, Front, front, decimal-length}
use Rattle.print_fields.specs.Mirror.{longest}
use Rattle.print_lines.specs.Mirror.{nowhere, table_form}
use Rattle.print_laws.specs.Laws.Printable.{RowFits, name_range, Printable}
use Rattle.print_laws.specs.Laws.Texts.{Short, large, short, Shorts, value-short, pool-shorts}
use Rattle.print_laws.specs.Laws.Lines.{table_law}

abbrev pub printed_length : ℕ
printed_length = 262144

module _ (p : Program) (ts : List (Option (List ℕ))) (f : Shorts ts) where
  or_large_lem : {o : Option (List ℕ)} → Short o → length (or_large o) ≤ longest
  unfolding or_large bytes
  or_large_lem large = omega arith
  or_large_lem (short h) = h

  field-length : (v : Value Ref) → length (value_field ts v) ≤ longest
  unfolding value_field
  field-length v = or_large_lem (value-short ts f v)

  end-length : (e : End Ref) → length (end_fields ts e) ≤ 209
  unfolding end_fields bytes
  end-length (returned v) = omega (arith, field-length v)
  end-length (failed v) = omega (arith, field-length v)
  end-length vanished = omega arith
  end-length (error n) = omega (arith, decimal-length n)

  outcome-length : (o : Outcome Ref) → length (outcome_fields ts o) ≤ 209
  unfolding outcome_fields
  outcome-length (ended e) = end-length e
  outcome-length (cut steps) = unfold bytes in omega arith
  outcome-length (cut branches) = unfold bytes in omega arith

  unless-length : (b : Bool) → length (unless_true b) ≤ 4
  unfolding unless_true bytes
  unless-length true = omega arith
  unless-length false = omega arith

  condition-length : (c : Condition Ref) → length (condition_text ts c) ≤ 204
  unfolding condition_text
  condition-length c = simp length-append (omega (arith, unless-length c.truth, field-length (term c.term)))

  after-length : (cs : List (Condition Ref)) → length (conditions_after ts cs) ≤ 206 * length cs
  unfolding conditions_after bytes
  after-length [] = omega arith
  after-length (c ∷ cs) = simp length-append (omega (arith, condition-length c, after-length cs))

  conditions-length : (cs : List (Condition Ref)) → length (conditions_field ts cs) ≤ 4 + 206 * length cs
  unfolding conditions_field bytes
  conditions-length [] = omega arith
  conditions-length (c ∷ cs) = simp length-append (omega (arith, condition-length c, after-length cs))

  line-length :
      (k : ℕ) (r : Row Ref) → length r.conditions ≤ most_branches → length (procedure_at p r.procedure).name < name_range
      → length (row_line p ts k r) ≤ 3577
  unfolding row_line line_end
  line-length k r h i =
      simp length-append
      (omega (arith, decimal-length k, outcome-length r.outcome, decimal-length r.steps, decimal-length r.command, conditions-length r.conditions))

  lines-length :
      {n : ℕ} {rows : List (Row Ref)} (k : ℕ) → Each (RowFits n) rows → ((g : ℕ) → g < n → length (procedure_at p g).name < name_range)
      → length (row_lines p ts k rows) ≤ 3577 * length rows
  unfolding row_lines
  lines-length k each.none n = omega arith
  lines-length k (each.more {a} {l} g gs) n =
      simp length-append
      (omega (arith, line-length k a g.within.conditions (n a.procedure g.procedure), lines-length (suc k) gs n))

-- a name's length is its place's size, which is below 32
pub name-length :
    (text : List ℕ) (names : Names) (p : Program) (w : Pool) (rows : List (Row Ref)) → Printable text names p w rows → (g : ℕ)
    → g < length p.procedures → length (procedure_at p g).name < name_range
unfolding name_at part
name-length text names p w rows f g h =
    let q : Place = get_or names.places g nowhere in
    rw (← f.named g h) (omega (arith, length-take q.size (drop q.start text), q.short))

pub table-room :
    (text : List ℕ) (names : Names) (p : Program) (w : Pool) (rows : List (Row Ref)) → Printable text names p w rows
    → length (explored_text p (explored w rows)) ≤ printed_length
unfolding explored_text heading bytes line_end
table-room text names p w rows f =
    omega
    (arith, f.few_rows, lines-length p (pool_texts w) (pool-shorts w [] f.few_terms f.terms_fit) 0 f.rows_fit (name-length text names p w rows f))

pub refusal-room : (n : ℕ) → length (refusal_line n) ≤ 20
unfolding refusal_line bytes line_end
refusal-room n = simp length-append (omega (arith, decimal-length n))

-- What is written is at the front: a refusal's line, or a printable table's text
pub refuses : (n : ℕ) {b b' : List ℕ} {r : ℕ} → length b ≤ last_place → Wrote b 0 (refusal_line n) b' r → Front (refusal_line n) b b' r
refuses n held w = front (omega (arith, refusal-room n)) held w

pub renders :
    (text : List ℕ) (names : Names) {table pool b b' : List ℕ} {r : ℕ} (p : Program) (w : Pool) (rows : List (Row Ref)) (rest rest' : List ℕ)
    → Printable text names p w rows
    → table ≡ table_bytes w rows ++ rest
    → pool ≡ pool_bytes w ++ rest'
    → length b ≤ last_place
    → Wrote b 0 (table_form text names table pool) b' r
    → Front (explored_text p (explored w rows)) b b' r
renders text names {table} {pool} p w rows rest rest' f e e' held written =
    let i : table_form text names table pool ≡ explored_text p (explored w rows) =
    ap (λ (l : List ℕ). table_form text names l pool) e
    ∙ ap (λ (l : List ℕ). table_form text names (table_bytes w rows ++ rest) l) e'
    ∙ table_law text names p w rows f rest rest' in
    front (omega (arith, table-room text names p w rows f)) held (wrote_as i written)
