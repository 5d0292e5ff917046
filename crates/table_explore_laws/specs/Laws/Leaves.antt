-- What `explore` returns and leaves, in a table and a pool of just the lengths needed, is document 01's: the table's and the pool's bytes, or the
-- refusal and zeros. Assumes nothing.
use Rattle.std.specs.Prelude.{ℕ, ◌≤◌, true, false, ◌≡◌, refl, length, drop, replicate, eqb}
use Rattle.std.proofs.Common.{sym, ◌∙◌, ap, arith, mod-eq_of_lt, take_all, eq-eqb, ne_eqb}
use mathlib.Core.List.{List, [], ◌∷◌, ◌++◌}
use Rattle.std.proofs.Math.Nat.{sub-zero}
use Rattle.std.proofs.Math.ListN.{length-replicate}
use Rattle.gil.specs.Names.{Program, gather}
use Rattle.gil.specs.Machine.{start}
use Rattle.gil.specs.Rows.{Row}
use Rattle.gil.specs.Explore as Explore
use Rattle.gil.specs.Explore.{refused, explore, begin}
use Rattle.gil.specs.Pool.{Ref, Pool, pooled, table}
use Rattle.gil.specs.Numbers.{most_steps, most_branches, most_terms, table_length, pool_length}
use Rattle.gil.specs.Layout.{room, node_bytes, pool_bytes, table_bytes}
use Rattle.gil.specs.Calls.{TableAnswer, tables_after, succeeds}
use Rattle.gil.proofs.Theory.Relation.{grows_not, start_rel}
use Rattle.gil.proofs.Theory.PoolTree.{as_trees}
use Rattle.machine_code.specs.Code.{program_words}
use Rattle.machine_code.specs.WellFormed.{WellFormed}
use Rattle.machine_terms.specs.Laws.Pooled.{PoolAs, pooled_engine}
use Rattle.machine_commands.specs.Mirror.{start_in, start_store}
use Rattle.machine_laws.specs.Laws.Runs.{start_as}
use Rattle.table_advance.specs.Mirror.Followed.{spot}
use Rattle.lent_words.specs.Mirror.{put_words}
use Rattle.table_rows.specs.Laws.Held as Held
use Rattle.table_rows.specs.Laws.Table.{table_none, table-headed}
use Rattle.table_walk.specs.Mirror.{Reached}
use Rattle.table_explore.specs.Mirror.{Explored, explored_by, explore_in}
use Rattle.table_explore_laws.specs.Laws.Reached.{Tabled, ReachedAs, a_refusal, a_table}
use Rattle.table_explore_laws.specs.Laws.Walks.{walks}

pub data ExploredAs : Explore.Explored Pool Ref → Explored → Type 0 where
  was_refused :
      {n : ℕ} {x : Explored}
      → x.refusal ≡ n
      → (n ≡ 0 → ⊥)
      → x.table ≡ replicate table_length 0
      → x.pool ≡ replicate pool_length 0
      → ExploredAs (refused n) x
  was_explored :
      {w : Pool} {rows : List (Row Ref)} {x : Explored}
      → x.refusal ≡ 0
      → length w ≤ most_terms
      → x.table ≡ table_bytes w rows
      → x.pool ≡ pool_bytes w
      → ExploredAs (Explore.explored w rows) x

-- all of the terms are in the pool's bytes
pool-whole : {w : Pool} {pool : List ℕ} {count : ℕ} → PoolAs w pool count → length w ≤ most_terms → pool ≡ pool_bytes w
unfolding pool_bytes
pool-whole {w} h few = h.bytes (omega arith) ∙ ap (λ (l : Pool). room pool_length (gather node_bytes l)) (take_all most_terms w few)

-- the heading is written last
headed : (w : pooled.World) (rows : List (Row pooled.Term)) (r : Reached) → pooled_engine.WorldAs w r.pool r.count → Tabled rows r.table
    → r.rows ≡ length rows
    → pooled.made w ≤ most_terms
    → unfold pooled in ExploredAs (Explore.explored w rows) (record { refusal = 0; table = put_words r.table 0 (r.rows ∷ r.count ∷ []); pool = r.pool })
unfolding pooled pooled_engine Tabled
headed w rows r h t n few =
    let count : r.count ≡ length w = h.counted ∙ mod-eq_of_lt (omega arith) in
    was_explored refl few (table-headed w r.rows r.count t n count) (pool-whole h few)

left_by_lem : {w₀ : pooled.World} {e : Explore.Explored pooled.World pooled.Term} {r : Reached} (tl pl : ℕ) → tl ≡ table_length → pl ≡ pool_length
    → ReachedAs w₀ e r
    → unfold pooled in ExploredAs e (explored_by tl pl r)
unfolding pooled explored_by
left_by_lem {r = r} tl pl et ep (a_refusal {n} e z) =
    let no : eqb r.refusal 0 ≡ false = ne_eqb r.refusal 0 (λ d. z (sym e ∙ d)) in
    rw no (was_refused e z (ap (λ (k : ℕ). replicate k 0) et) (ap (λ (k : ℕ). replicate k 0) ep))
left_by_lem {r = r} tl pl et ep (a_table {w = w} {rows = rows} e g few pool t n) =
    let yes : eqb r.refusal 0 ≡ true = eq-eqb r.refusal 0 e in
    rw yes (headed w rows r pool t n few)

-- the empty pool
no-terms : (n : ℕ) → n ≡ pool_length → (unfold pooled in pooled_engine.WorldAs [] (replicate n 0) 0)
unfolding pooled pooled_engine room gather
no-terms n e = record { counted = refl; bytes = λ few. ap (λ (k : ℕ). replicate k 0) e }

no_rows : (n : ℕ) → n ≡ table_length → Tabled [] (replicate n 0)
unfolding Tabled
no_rows n e = table_none n e

module _ (p : Program) (ok : WellFormed p) (budget most : ℕ) (small : budget ≤ most_steps) (few : most ≤ most_branches) (t w : List ℕ) (lt : length t ≡ table_length)
    (lw : length w ≡ pool_length) where
  -- "explore": of a well-formed program's words, within the budgets of refusal 1 and with lent memory of the lengths needed
  pub explore_as : ExploredAs (table p budget most) (explore_in (program_words p) budget most t w)
  unfolding table explore begin explore_in pooled start
  explore_as =
      left_by_lem (length t) (length w) lt lw
      (rw sub-zero at
      (walks p ok budget most small few most 0 0 (replicate most_branches 0)
      (spot (start_in (program_words p)) start_store [] (replicate (length w) 0) 0) 0 (replicate (length t) 0) [] (start p) [] []
      (record {
        taken = omega arith;
        left = omega arith;
        gained = record { whole = length-replicate {A = ℕ} most_branches 0; size = refl; held = Held.nothing };
        sound = record { grown = grows_not as_trees; terms = omega arith; cells = omega arith; reading = record { state = start p; reads = start_rel p } };
        stands = record { state = start_as pooled_engine p ok; world = no-terms (length w) lw };
      })
      (no_rows (length t) lt) refl))

-- what was left, put in place of what it is: over variables, so that nothing of 65,600 zeros is gone through
answer-is :
    {r : ℕ} {a b : List ℕ} {x : TableAnswer} (c d : List ℕ) (q : ℕ) (a' b' : List ℕ) → r ≡ q → a ≡ a' → b ≡ b'
    → record { returns = q; table = a' ++ c; pool = b' ++ d } ≡ x
    → ◌≡◌ {A = TableAnswer} (record { returns = r; table = a ++ c; pool = b ++ d }) x
answer-is c d q a' b' e f g h = rw (e, f, g) h

-- so the call is document 01's: of longer lent memory the surplus stays
pub explore-leaves : {e : Explore.Explored Pool Ref} {x : Explored} (t w : List ℕ) → ExploredAs e x
    → ◌≡◌ {A = TableAnswer} (record { returns = x.refusal; table = x.table ++ drop table_length t; pool = x.pool ++ drop pool_length w }) (tables_after succeeds t w e)
unfolding tables_after succeeds
explore-leaves t w (was_refused {n} e z et ep) = answer-is (drop table_length t) (drop pool_length w) n (replicate table_length 0) (replicate pool_length 0) e et ep refl
explore-leaves t w (was_explored {w = u} {rows} e few et ep) = answer-is (drop table_length t) (drop pool_length w) 0 (table_bytes u rows) (pool_bytes u) e et ep refl
