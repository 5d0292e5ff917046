-- Demands 1 and 2 leave no freedom: what a call returns and every byte of lent memory afterwards is determined by its arguments. A text has
-- one program, a program one table, and the first reason that holds is one only. Assumes nothing.
use Rattle.std.specs.Prelude.{ℕ, ◌≤◌, ◌<◌, ◌≡◌, refl, ◌⊎◌, List, ◌++◌, Bool, true, false, drop, leb}
use Rattle.std.proofs.Common.{arith, sym, ◌∙◌, ap, ap₂, inl, inr, leb-true, leb-false}
use Rattle.gil.specs.Names.{Program, accepted, check_text}
use Rattle.gil.specs.Rows.{Row}
use Rattle.gil.specs.Plain.{plain_run}
use Rattle.gil.specs.Explore.{explored}
use Rattle.gil.specs.Pool.{Ref, Pool, table}
use Rattle.gil.specs.Numbers.{for_end, for_terms, table_length, pool_length, answer_length}
use Rattle.gil.specs.Layout.{table_bytes, pool_bytes, answer_bytes, input_words}
use Rattle.gil.specs.Calls.{PlainAnswer, TableAnswer}
use Rattle.demands.specs.Reasons.{Zero, First, Refuses, Leaves, RunsAs, ExploresAs}
use Rattle.demands.proofs.Orders.{first_holds, first-same}

-- answers are what they hold
plain-eq : {a b : PlainAnswer} → a.returns ≡ b.returns → a.answer ≡ b.answer → a ≡ b
plain-eq e f = λ i. record { returns = e i; answer = f i }

tables_eq : {a b : TableAnswer} → a.returns ≡ b.returns → a.table ≡ b.table → a.pool ≡ b.pool → a ≡ b
tables_eq e f g = λ i. record { returns = e i; table = f i; pool = g i }

-- the answers of a text's one program, and of its one table
pub ran_as :
    {text inputs : List ℕ} {n : ℕ} {answer : List ℕ} {a : PlainAnswer} {p : Program} → RunsAs text inputs n answer a → check_text text ≡ accepted p
    → a ≡ record { returns = 0; answer = answer_bytes (plain_run p (input_words inputs) n) ++ drop answer_length answer }
ran_as {text} {inputs} {n} {answer} {p = p} z e =
    let r : check_text text ≡ accepted z.program = z.reads in
    let same : z.program ≡ p = cc in
    z.is
    ∙ ap (λ (q : Program). record { returns = 0; answer = answer_bytes (plain_run q (input_words inputs) n) ++ drop answer_length answer }) same

module _ {text : List ℕ} {budget most : ℕ} {t w : List ℕ} where
  pub explored_as :
      {a : TableAnswer} {succeed : Pool → List (Row Ref) → ℕ} {p : Program} {terms : Pool} {rows : List (Row Ref)}
      → ExploresAs succeed text budget most t w a
      → check_text text ≡ accepted p
      → table p budget most ≡ explored terms rows
      → a
      ≡ record {
        returns = succeed terms rows;
        table = table_bytes terms rows ++ drop table_length t;
        pool = pool_bytes terms ++ drop pool_length w;
      }
  explored_as {a} {succeed} {p} {terms} {rows} y e f =
      let r : check_text text ≡ accepted y.program = y.reads in
      let same : y.program ≡ p = cc in
      let g : table p budget most ≡ explored y.terms y.rows = ap (λ (q : Program). table q budget most) (sym same) ∙ y.explores in
      let u : y.terms ≡ terms = cc in
      let v : y.rows ≡ rows = cc in
      y.is
      ∙ ap₂
      (λ (us : Pool) (rs : List (Row Ref)).
      record { returns = succeed us rs; table = table_bytes us rs ++ drop table_length t; pool = pool_bytes us ++ drop pool_length w })
      u v

  -- whatever each returns
  pub same_tables :
      {a b : TableAnswer} {succeed other : Pool → List (Row Ref) → ℕ}
      → ExploresAs succeed text budget most t w a
      → ExploresAs other text budget most t w b
      → (a.table ≡ b.table) × (a.pool ≡ b.pool)
  same_tables x y =
      let e = explored_as x y.reads y.explores in (
        ap (λ (c : TableAnswer). c.table) e ∙ sym (ap (λ (c : TableAnswer). c.table) y.is),
        ap (λ (c : TableAnswer). c.pool) e ∙ sym (ap (λ (c : TableAnswer). c.pool) y.is),
      )

-- two versions of a call, given the same: no reason holds, or both refuse by the first
data Both (R : ℕ → Type 0) (m n : ℕ) : Type 0 where
  no_reason : ((k : ℕ) → R k → ⊥) → Both R m n
  one_reason : R m → m ≡ n → Both R m n

module _ {R Success : ℕ → Type 0} {order : List ℕ} {m n : ℕ} where
  both : Refuses R order Success m → Refuses R order Success n → Both R m n
  both f g = at f.nothing_else g.nothing_else
    where
      at : Success m ⊎ First R order m → Success n ⊎ First R order n → Both R m n
      at (inl s) t = no_reason (f.otherwise.0 s)
      at (inr s) (inl t) = no_reason (g.otherwise.0 t)
      at (inr s) (inr t) = one_reason (first_holds s) (first-same s t)

pub same_check : {R : ℕ → Type 0} {order : List ℕ} {m n : ℕ} → Refuses R order Zero m → Refuses R order Zero n → m ≡ n
same_check {R} {order} {m} {n} f g = at (both f g)
  where
    at : Both R m n → m ≡ n
    at (no_reason no-reason) = f.otherwise.1 no-reason ∙ sym (g.otherwise.1 no-reason)
    at (one_reason _ e) = e

-- whatever their order: the reasons of the plain run are 1 to 8, of an exploration 1 to 10
module _
    {R : ℕ → Type 0} {order : List ℕ} (range : (n : ℕ) → R n → (1 ≤ n) × (n ≤ for_end)) {text inputs : List ℕ} {budget : ℕ} {answer : List ℕ}
    {a a' : PlainAnswer}
  where
    pub same-plain :
        Refuses R order Zero a.returns
        → Refuses R order Zero a'.returns
        → (1 ≤ a.returns → a.answer ≡ answer)
        → (1 ≤ a'.returns → a'.answer ≡ answer)
        → (((n : ℕ) → R n → ⊥) → RunsAs text inputs budget answer a)
        → (((n : ℕ) → R n → ⊥) → RunsAs text inputs budget answer a')
        → a ≡ a'
    same-plain f g keeps keeps' runs runs' = at (both f g)
      where
        at : Both R a.returns a'.returns → a ≡ a'
        at (no_reason no-reason) = ran_as (runs no-reason) (runs' no-reason).reads ∙ sym (runs' no-reason).is
        at (one_reason r e) =
            let (l, _) = range a.returns r in
            plain-eq e (keeps l ∙ sym (keeps' (omega arith)))

module _
    {R Success : ℕ → Type 0} {order : List ℕ} (range : (n : ℕ) → R n → (1 ≤ n) × (n ≤ for_terms)) {succeed : Pool → List (Row Ref) → ℕ}
    {text : List ℕ} {budget most : ℕ} {t w : List ℕ} {a a' : TableAnswer}
  where
    pub same_exploration :
        Refuses R order Success a.returns
        → Refuses R order Success a'.returns
        → Leaves t w a
        → Leaves t w a'
        → (((n : ℕ) → R n → ⊥) → ExploresAs succeed text budget most t w a)
        → (((n : ℕ) → R n → ⊥) → ExploresAs succeed text budget most t w a')
        → a ≡ a'
    same_exploration f g leaves leaves' comes comes' = at (both f g)
      where
        refused : (early : Bool) → leb a.returns for_end ≡ early → 1 ≤ a.returns → a.returns ≤ for_terms → a.returns ≡ a'.returns → a ≡ a'
        refused true d l h e =
            let k : a.returns ≤ for_end = leb-true a.returns for_end d in
            let (t-is, w-is) = leaves.untouched l k in
            let (t-also, w-also) = leaves'.untouched (omega arith) (omega arith) in
            tables_eq e (t-is ∙ sym t-also) (w-is ∙ sym w-also)
        refused false d l h e =
            let k : for_end < a.returns = leb-false a.returns for_end d in
            let (t-is, w-is) = leaves.zero k h in
            let (t-also, w-also) = leaves'.zero (omega arith) (omega arith) in
            tables_eq e (t-is ∙ sym t-also) (w-is ∙ sym w-also)

        at : Both R a.returns a'.returns → a ≡ a'
        at (no_reason no-reason) =
            let y = comes' no-reason in
            explored_as (comes no-reason) y.reads y.explores ∙ sym y.is
        at (one_reason r e) =
            let (l, h) = range a.returns r in
            refused (leb a.returns for_end) refl l h e
