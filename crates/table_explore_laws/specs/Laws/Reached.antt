-- How far an exploration is, in words: its refusal, or the rows in the table and the terms in the pool; a row finished, and a condition gained.
-- Assumes nothing.
use Rattle.std.specs.Prelude.{ℕ, ◌+◌, ◌*◌, ◌%◌, ◌<◌, ◌≤◌, Bool, ◌≡◌, refl, take, Option}
use Rattle.std.proofs.Math.Bool.{true, false}
use Rattle.std.proofs.Common.{◌∙◌, arith, add-one, length-set, take-suc-set, lt-ltb, leb-false}
use Rattle.std.proofs.Math.Path.{ap}
use mathlib.Core.List.{List, [], ◌∷◌, ◌++◌, map}
use Rattle.std.proofs.Math.ListN.{length, length-append}
use Rattle.std.proofs.Math.Dec.{leb}
use Rattle.gil.specs.Numbers.{most_branches, most_rows, most_terms, most_cells, for_rows}
use Rattle.gil.specs.Codes.{outcome_number}
use Rattle.gil.specs.Names.{Program}
use Rattle.gil.specs.Values.{term}
use Rattle.gil.specs.Machine as Machine
use Rattle.gil.specs.Rows as Rows
use Rattle.gil.specs.Rows.{Condition, Path, Row, row_of}
use Rattle.gil.specs.Explore.{Explored, refused, explored, finish}
use Rattle.gil.specs.Pool.{pooled, place_in}
use Rattle.gil.specs.Layout.{bit}
use Rattle.gil.proofs.Theory.Tests.{chosen}
use Rattle.gil.proofs.Theory.Relation.{Grows, grows-on}
use Rattle.gil.proofs.Theory.PoolTree.{as_trees}
use Rattle.machine_code.specs.Code.{program_words}
use Rattle.machine_code.specs.WellFormed.{WellFormed}
use Rattle.machine_terms.specs.Laws.Engine.{As, ValueAs}
use Rattle.machine_terms.specs.Laws.Pooled.{RefAs, a_number_term, a_boolean_term, pooled_engine, value-words}
use Rattle.machine_cells.specs.declared.Cell.{Cell}
use Rattle.machine_cells.specs.Mirror.{cell_of}
use Rattle.machine_commands.specs.declared.Control.{Control}
use Rattle.machine_commands.specs.declared.Next.{Next}
use Rattle.machine_laws.specs.Laws.State.{CellsAs, no_cells, a_cell}
use Rattle.machine_laws.specs.Laws.Moves.{StateAs}
use Rattle.table_rows.specs.declared.Head.{Head}
use Rattle.table_head.specs.Mirror.{ended_in, head_in}
use Rattle.table_path.specs.Laws.Path.{row_as}
use Rattle.table_rows.specs.Mirror.{with_row_at}
use Rattle.table_rows.specs.Laws.Held as Held
use Rattle.table_rows.specs.Laws.Held.{Listed, ConditionAs, OutcomeAs, RowAs}
use Rattle.table_rows.specs.Laws.Table.{TableAs, table_more}
use Rattle.table_branch.specs.Mirror.{cell_back, finish_in, condition_on, conditions_with}
use Rattle.table_walk.specs.Mirror.{Reached, row_in}

-- a term's place, and rows in the table, of the pool's model
unfoldable pub place : pooled.Term → ℕ
unfolding pooled
place t = place_in t

unfoldable pub Tabled : List (Row pooled.Term) → List ℕ → Type 0
unfolding pooled
Tabled rows t = TableAs rows t

pub table-row : (rows : List (Row pooled.Term)) (t : List ℕ) {r : Row pooled.Term} {h : Head} {conditions store : List ℕ} {frame : ℕ} {cells : List Cell} (k : ℕ)
    → Tabled rows t
    → k ≡ length rows
    → k < most_rows
    → RowAs (As pooled_engine) place r h conditions store frame cells
    → Tabled (rows ++ (r ∷ [])) (with_row_at t k h conditions store frame cells)
unfolding pooled pooled_engine place Tabled
table-row rows t k table e few r = table_more (ValueAs RefAs) (λ v x a. value-words a) k table e few r

-- An exploration that was in the world `w₀`. After a refusal the lent memory is any words.
pub data ReachedAs (w₀ : pooled.World) : Explored pooled.World pooled.Term → Reached → Type 0 where
  a_refusal : {n : ℕ} {r : Reached} → r.refusal ≡ n → (n ≡ 0 → ⊥) → ReachedAs w₀ (refused n) r
  a_table :
      {w : pooled.World} {rows : List (Row pooled.Term)} {r : Reached}
      → r.refusal ≡ 0
      → Grows as_trees w₀ w
      → pooled.made w ≤ most_terms
      → pooled_engine.WorldAs w r.pool r.count
      → Tabled rows r.table
      → r.rows ≡ length rows
      → ReachedAs w₀ (explored w rows) r

pub reached-before : {w₀ w : pooled.World} {e : Explored pooled.World pooled.Term} {r : Reached} → Grows as_trees w₀ w → ReachedAs w e r → ReachedAs w₀ e r
reached-before g (a_refusal e n) = a_refusal e n
reached-before g (a_table e h room pool t k) = a_table e (grows-on as_trees g h) room pool t k

-- the cells in use, handed to the row writer and taken back
back-cells : {T : Type 0} {TermAs : T → ℕ → Type 0} {cs : List (Machine.Cell T)} {ds : List (Machine.Cell ℕ)} → CellsAs TermAs cs ds
    → map cell_of (map cell_back ds) ≡ ds
back-cells no_cells = refl
back-cells (a_cell {l} {q} {x} h hs) =
    ap (λ (r : List (Machine.Cell ℕ)). record { location = l; property = q; value = term x } ∷ r) (back-cells hs)

-- the conditions of a path in words: as many, each twice its term's place and its truth
pub record ConditionsAs (b : ℕ) (cs : List (Condition pooled.Term)) (conditions : List ℕ) : Type 0 where
  pub whole : length conditions ≡ most_branches
  pub size : b ≡ length cs
  pub held : Listed (ConditionAs place) cs (take b conditions)

listed-append : {A W : Type 0} {R : A → W → Type 0} {l m : List A} {u v : List W} → Listed R l u → Listed R m v → Listed R (l ++ m) (u ++ v)
listed-append Held.nothing k = k
listed-append (Held.more {a} {w} p q) k = Held.more {a = a} {w = w} p (listed-append q k)

-- a term's word, and the word of a condition on it
place-word : (t : pooled.Term) (y : ℕ) → pooled_engine.TermAs t y → place t < most_terms → y % 4294967296 ≡ place t
unfolding pooled pooled_engine place place_in
place-word t y (a_number_term {k}) h = omega arith
place-word t y (a_boolean_term {k}) h = omega arith

pub condition-word : (t : pooled.Term) (y : ℕ) (truth : Bool) → pooled_engine.TermAs t y → place t < most_terms
    → condition_on (y % 4294967296) (bit truth) ≡ 2 * place t + bit truth
unfolding condition_on bit
condition-word t y true h low = let e : y % 4294967296 ≡ place t = place-word t y h low in omega arith
condition-word t y false h low = let e : y % 4294967296 ≡ place t = place-word t y h low in omega arith

-- "each branch gains one condition"
pub condition-gained : {b : ℕ} {cs : List (Condition pooled.Term)} {conditions : List ℕ} (c : Condition pooled.Term) (x : ℕ)
    → ConditionsAs b cs conditions
    → b < most_branches
    → ConditionAs place c x
    → ConditionsAs (b + 1) (cs ++ (c ∷ [])) (conditions_with b x conditions)
unfolding conditions_with
condition-gained {b} {cs} {conditions} c x h low e =
    simp (lt-ltb b most_branches low)
    (record {
      whole = length-set conditions b x ∙ h.whole;
      size = omega (arith, h.size, length-append cs (c ∷ []));
      held = rw (add-one, take-suc-set conditions b x (omega (arith, h.whole))) (listed-append h.held (Held.more e Held.nothing));
    })

-- a row finished
module _ (p : Program) (ok : WellFormed p) {w₀ w : pooled.World} (grown : Grows as_trees w₀ w) (room : pooled.made w ≤ most_terms)
    (rows : List (Row pooled.Term)) {many : ℕ} (table : List ℕ) (t : Tabled rows table) (same : many ≡ length rows)
    (q : Path pooled.Term) {b : ℕ} {conditions : List ℕ} (cs : ConditionsAs b q.conditions conditions) (most : b ≤ most_branches) where
  pub finish_as : {o : Rows.Outcome pooled.Term} {n : ℕ} {c : Control} {store : List ℕ} {ds : List (Machine.Cell ℕ)} (pool : List ℕ) (count : ℕ) (next : Option Next) (m : ℕ)
      → StateAs pooled_engine p q.state c store ds
      → length q.state.memory.cells ≤ most_cells
      → pooled_engine.WorldAs w pool count
      → OutcomeAs (As pooled_engine) o (outcome_number (ended_in next m).outcome) (ended_in next m).tag (ended_in next m).word
      → (ended_in next m).steps ≡ n
      → ReachedAs w₀ (finish w rows (row_of o n q))
      (row_in (program_words p) b conditions many table
      (record { next = next; control = c; steps = m; store = store; cells = ds; pool = pool; count = count }))
  unfolding finish row_in finish_in
  finish_as {o} {n} {c} {store} {ds} pool count next m h few world outcome taken =
      let row : RowAs (As pooled_engine) place (row_of o n q) (head_in (program_words p) (ended_in next m) c b) conditions store c.frame (map cell_back ds) =
      row_as pooled_engine p ok place q h few (ended_in next m) outcome taken cs.size most cs.held (back-cells h.memory.cells) in
      chosen
      (λ (e : Explored pooled.World pooled.Term).
      ReachedAs w₀ e
      (row_in (program_words p) b conditions many table
      (record { next = next; control = c; steps = m; store = store; cells = ds; pool = pool; count = count })))
      (leb most_rows (length rows))
      (λ e. let f : leb most_rows many ≡ true = ap (leb most_rows) same ∙ e in a_refusal {n = for_rows} (rw f) (λ z. absurd (omega arith)))
      (λ e.
      let f : leb most_rows many ≡ false = ap (leb most_rows) same ∙ e in
      a_table (rw f) grown room world (rw f (table-row rows table many t same (leb-false most_rows many f) row))
      (rw f (omega (arith, length-append rows (row_of o n q ∷ [])))))
