-- The laws that the proofs of `tables::explore` and `explore` cite. Assumes nothing.
use Rattle.std.specs.Prelude.{ℕ, ◌≤◌, ◌≡◌, Bool, ◌||◌, List, ◌++◌, length, take, drop, ltb}
use Rattle.std.proofs.Common.{ap, subst₂}
use Rattle.gil.specs.Pool as Pools
use Rattle.gil.specs.Calls.{wrong_budgets, short_tables, TableAnswer, tables_after, succeeds, explore_call}
use Rattle.gil.specs.Numbers.{table_length, pool_length}
use Rattle.table_explore.specs.Mirror.{Explored, explore_in}
use Rattle.table_explore_laws.specs.Laws.Leaves.{explore-leaves}
use Rattle.call_given.specs.Mirror.{Begun}
use Rattle.call_given.specs.Laws.{begun-on, tables_long}
use Rattle.call_explore.specs.Mirror.{Leaves}
use Rattle.call_explore.specs.Laws.{tables_refused, was, tables_are, answers_are}

pub leaves : (code : List ℕ) (steps branches : ℕ) (t w : List ℕ) {r : ℕ} {a b : List ℕ}
    → ◌≡◌ {A = Explored} (record { refusal = r; table = a; pool = b }) (explore_in code steps branches (take table_length t) (take pool_length w))
    → Leaves code steps branches t w r (a ++ drop table_length t) (b ++ drop pool_length w)
leaves code steps branches t w e =
    record {
      answers = ap (λ (x : Explored). x.refusal) e;
      table = ap (λ (x : Explored). x.table ++ drop table_length t) e;
      pool = ap (λ (x : Explored). x.pool ++ drop pool_length w) e;
    }

module _ (text : List ℕ) (steps branches : ℕ) (t w : List ℕ) where
  abbrev Explores : ℕ → List ℕ → List ℕ → Type 0
  Explores r t' w' = ◌≡◌ {A = TableAnswer} (record { returns = r; table = t'; pool = w' }) (explore_call text steps branches t w)

  -- the beginning, given what the tests answered
  module _
      {budgets lists : Bool} {code : List ℕ} {read : ℕ} (eb : budgets ≡ wrong_budgets steps branches)
      (el : lists ≡ (ltb (length t) table_length || ltb (length w) pool_length)) (b : Begun budgets lists text code read)
    where
      begun : Begun (wrong_budgets steps branches) (ltb (length t) table_length || ltb (length w) pool_length) text code read
      begun = subst₂ (λ (x y : Bool). Begun x y text code read) eb el b

      pub explore-refused : (read ≡ 0 → ⊥) → Explores read t w
      unfolding explore_call short_tables
      explore-refused z = tables_refused succeeds text steps branches t w begun z

      module _ (z : read ≡ 0) where
        pub long : (table_length ≤ length t) × (pool_length ≤ length w)
        long = tables_long (length t) (length w) (begun-on begun z).right_lists

        pub explore-explores : {r : ℕ} {t' w' : List ℕ} → Leaves code steps branches t w r t' w' → Explores r t' w'
        unfolding explore_call short_tables
        explore-explores h =
            let x = was text steps branches t w begun z long h in
            answers_are succeeds x
            (tables_are (tables_after succeeds t w (Pools.table x.program steps branches)) x.answers x.table x.pool
            (explore-leaves t w x.goes))
