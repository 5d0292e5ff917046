-- What is left where a call explores: the laws that the proofs of `explore`, and of the calls that explore as it does, cite. `success` says what
-- is returned of a table. Assumes nothing.
use Rattle.std.specs.Prelude.{ℕ, ◌≤◌, ◌≡◌, Bool, List, ◌++◌, length, take, drop}
use Rattle.std.proofs.Math.Path.{sym}
use Rattle.std.proofs.Common.{ap, ◌∙◌, subst, length-take-le}
use Rattle.gil.specs.Names.{Program, accepted, check_text}
use Rattle.gil.specs.Rows.{Row}
use Rattle.gil.specs.Pool.{Pool, Ref}
use Rattle.gil.specs.Pool as Pools
use Rattle.gil.specs.Calls.{first_of, wrong_budgets, TableAnswer, tables_after, explore_on}
use Rattle.gil.specs.Numbers.{most_steps, most_branches, table_length, pool_length}
use Rattle.gil.proofs.Theory.Given.{budgets_small}
use Rattle.machine_code.specs.Code.{program_words}
use Rattle.machine_code.specs.WellFormed.{WellFormed}
use Rattle.machine_code.proofs.Accepted.{accepted_well_formed}
use Rattle.table_explore.specs.Mirror.{Explored, explore_in}
use Rattle.table_explore_laws.specs.Laws.Leaves.{ExploredAs, explore_as}
use Rattle.call_given.specs.Mirror.{Begun}
use Rattle.call_given.specs.Laws.{begun-refused, begun-on}
use Rattle.call_explore.specs.Mirror.{Leaves}

-- an answer is what it holds
pub tables_are :
    {r q : ℕ} {t t' w w' : List ℕ} (x : TableAnswer) → r ≡ q → t ≡ t' → w ≡ w'
    → ◌≡◌ {A = TableAnswer} (record { returns = q; table = t'; pool = w' }) x
    → ◌≡◌ {A = TableAnswer} (record { returns = r; table = t; pool = w }) x
tables_are x e f g h = (λ i. record { returns = e i; table = f i; pool = g i }) ∙ h

-- what is left of the exploration of an accepted text's program
pub record Was (text : List ℕ) (steps branches : ℕ) (t w : List ℕ) (lists : Bool) (r : ℕ) (t' w' : List ℕ) : Type 0 where
  pub program : Program
  pub passes : first_of (wrong_budgets steps branches) lists (check_text text) ≡ accepted program
  pub well_formed : WellFormed program
  pub small : (steps ≤ most_steps) × (branches ≤ most_branches)
  pub went : Explored
  pub goes : ExploredAs (Pools.table program steps branches) went
  pub answers : r ≡ went.refusal
  pub table : t' ≡ went.table ++ drop table_length t
  pub pool : w' ≡ went.pool ++ drop pool_length w

module _
    (text : List ℕ) (steps branches : ℕ) (t w : List ℕ) {lists : Bool} {code : List ℕ} {read : ℕ}
    (begun : Begun (wrong_budgets steps branches) lists text code read) (z : read ≡ 0) (long : (table_length ≤ length t) × (pool_length ≤ length w))
  where
    pub was : {r : ℕ} {t' w' : List ℕ} → Leaves code steps branches t w r t' w' → Was text steps branches t w lists r t' w'
    was {r} {t'} {w'} h =
        let a = begun-on begun z in
        let p = a.program in
        let ok = accepted_well_formed text p a.accepts in
        let small = budgets_small steps branches a.right_budgets in
        let l = subst (λ (c : List ℕ). Leaves c steps branches t w r t' w') a.words h in
        record {
          program = p;
          passes = a.passes;
          well_formed = ok;
          small = small;
          went = explore_in (program_words p) steps branches (take table_length t) (take pool_length w);
          goes =
              explore_as p ok steps branches small.0 small.1 (take table_length t) (take pool_length w)
              (length-take-le table_length t long.0) (length-take-le pool_length w long.1);
          answers = l.answers;
          table = l.table;
          pool = l.pool;
        }

module _ (success : Pool → List (Row Ref) → ℕ) where
  -- refusals 1 to 8 leave table and pool as they were
  pub tables_refused :
      (text : List ℕ) (steps branches : ℕ) (t w : List ℕ) {lists : Bool} {code : List ℕ} {read : ℕ}
      → Begun (wrong_budgets steps branches) lists text code read
      → (read ≡ 0 → ⊥)
      → ◌≡◌ {A = TableAnswer} (record { returns = read; table = t; pool = w })
      (explore_on success steps branches t w (first_of (wrong_budgets steps branches) lists (check_text text)))
  unfolding explore_on
  tables_refused text steps branches t w begun z = sym (ap (explore_on success steps branches t w) (begun-refused begun z))

  -- and what comes after them is the answer of the program's table
  pub answers_are :
      {text : List ℕ} {steps branches : ℕ} {t w : List ℕ} {lists : Bool} {r k : ℕ} {t' w' : List ℕ}
      → (x : Was text steps branches t w lists k t' w')
      → ◌≡◌ {A = TableAnswer} (record { returns = r; table = t'; pool = w' }) (tables_after success t w (Pools.table x.program steps branches))
      → ◌≡◌ {A = TableAnswer} (record { returns = r; table = t'; pool = w' })
      (explore_on success steps branches t w (first_of (wrong_budgets steps branches) lists (check_text text)))
  unfolding explore_on
  answers_are {steps = steps} {branches} {t} {w} x h = h ∙ sym (ap (explore_on success steps branches t w) x.passes)
