-- The ways through the walk's code, each as one law over words. Assumes nothing.
use Rattle.std.specs.Prelude.{ℕ, zero, suc, ◌+◌, ◌-◌, ◌<◌, Bool, true, false, ◌≡◌, refl, List, nat_le, Option, None, Some, Result, Ok, Err}
use Rattle.std.proofs.Common.{sym, ap, ◌∙◌, eq-eqb, ne_eqb, arith}
use Rattle.std.proofs.lemmas.Bool.{lt-leb}
use borrow.Author.Tests.{leb-false}
use Rattle.gil.specs.Machine as Machine
use Rattle.gil.specs.Numbers.{for_terms}
use Rattle.gil.specs.Refusals.{answer_of}
use Rattle.gil.specs.declared.refusals.Refusal.{Refusal}
use Rattle.gil.specs.declared.refusals.Refusal.TheVariants.{Terms}
use Rattle.machine_code.specs.Mirror.{if?}
use Rattle.machine_commands.specs.declared.Control.{Control}
use Rattle.machine_commands.specs.declared.Next.{Next}
use Rattle.machine_commands.specs.declared.Next.TheVariants.{On, Returned, Failed, Vanished, Error, Fork}
use Rattle.table_advance.specs.declared.Stop.{Stop}
use Rattle.table_advance.specs.Mirror.Followed.{spot, stopped}
use Rattle.table_branch.specs.declared.Branch.{Branch}
use Rattle.table_branch.specs.Mirror.{finished, finish_in, full_in, room_in, condition_on, branch_in, split_in}
use Rattle.table_walk.specs.declared.Budgets.{Budgets}
use Rattle.table_walk.specs.Mirror.{Reached, reached, row_in, after_first, turn_by, settle_by, onwards, fork_by, walk_in, walks_in}

-- a path that is not split gives its row: it stopped at no fork, or no branch is left
row-last : (row : Reached) (x : Option Next) → turn_by (λ t a b. row) row x ≡ row
unfolding turn_by
row-last row None = refl
row-last row (Some (On d)) = refl
row-last row (Some (Returned t w)) = refl
row-last row (Some (Failed t w)) = refl
row-last row (Some Vanished) = refl
row-last row (Some (Error e)) = refl
row-last row (Some (Fork t a b)) = refl

row-unsplit : (forks : ℕ → Control → Control → Reached) (row : Reached) (b : Branch) (x : Option Next) (n most : ℕ) → b.branches < most
    → split_in b x n most ≡ None → turn_by forks row x ≡ row
unfolding turn_by split_in
row-unsplit forks row b None n most h e = refl
row-unsplit forks row b (Some (On d)) n most h e = refl
row-unsplit forks row b (Some (Returned t w)) n most h e = refl
row-unsplit forks row b (Some (Failed t w)) n most h e = refl
row-unsplit forks row b (Some Vanished) n most h e = refl
row-unsplit forks row b (Some (Error k)) n most h e = refl
row-unsplit forks row b (Some (Fork t x y)) n most h e = let z : nat_le most b.branches ≡ false = lt-leb most b.branches h in absurd (no (simp z at e))
  where
    no : {p : Branch × Branch} → ◌≡◌ {A = Option (Branch × Branch)} (Some p) None → ⊥
    no e = cc

-- the fork that a path was split at
pub record Split (b : Branch) (x : Option Next) (n most : ℕ) (p q : Branch) : Type 0 where
  pub term : ℕ
  pub a : Control
  pub c : Control
  pub is : x ≡ Some (Fork term a c)
  pub left : b.branches < most
  pub yes : p ≡ branch_in b a n (condition_on term 1)
  pub no : q ≡ branch_in b c n (condition_on term 0)

both_are :
    {p q u v : Branch} → ◌≡◌ {A = Option (Branch × Branch)} (Some (p, q)) (Some (u, v)) → (p ≡ u) × (q ≡ v)
both_are {p} {q} {u} {v} e =
    let f : ◌≡◌ {A = Branch × Branch} (p, q) (u, v) = cc in
    (ap (λ (x : Branch × Branch). x.0) f, ap (λ (x : Branch × Branch). x.1) f)

pub split_is : (b : Branch) (x : Option Next) (n most : ℕ) {p q : Branch} → ◌≡◌ {A = Option (Branch × Branch)} (Some (p, q)) (split_in b x n most) → Split b x n most p q
unfolding split_in
split_is b None n most e = absurd (cc)
split_is b (Some (On d)) n most e = absurd (cc)
split_is b (Some (Returned t w)) n most e = absurd (cc)
split_is b (Some (Failed t w)) n most e = absurd (cc)
split_is b (Some Vanished) n most e = absurd (cc)
split_is b (Some (Error k)) n most e = absurd (cc)
split_is b (Some (Fork t x y)) n most {p} {q} e = by (nat_le most b.branches) refl e
  where
    by : (z : Bool) → nat_le most b.branches ≡ z
        → ◌≡◌ {A = Option (Branch × Branch)} (Some (p, q))
        (if? z None (Some (branch_in b x n (condition_on t 1), branch_in b y n (condition_on t 0))))
        → Split b (Some (Fork t x y)) n most p q
    by true z e = absurd (cc)
    by false z e =
        record { term = t; a = x; c = y; is = refl; left = leb-false most b.branches z; yes = (both_are e).0; no = (both_are e).1 }

pub next_branches : {p : Branch} (b : Branch) (c : Control) (n w : ℕ) → p ≡ branch_in b c n w → p.branches ≡ b.branches + 1
unfolding branch_in
next_branches b c n w e = ap (λ (x : Branch). x.branches) e

-- what a walk comes to by how its path stopped
module _ (code : List ℕ) (budgets : Budgets) (from : Branch) (store : List ℕ) (cells : List (Machine.Cell ℕ)) (rows : ℕ) (table pool : List ℕ)
    (count : ℕ) (f : Stop) {store' : List ℕ} {memory cells' : List (Machine.Cell ℕ)} {pool' : List ℕ} {count' : ℕ} (same : memory ≡ cells)
    (followed : stopped f store' cells' pool' count' ≡ onwards code budgets.steps from.steps (spot from.control store memory pool count)) where
  e : stopped f store' cells' pool' count' ≡ onwards code budgets.steps from.steps (spot from.control store cells pool count)
  e = rw same at followed

  abbrev whole : Reached
  whole = walks_in code budgets from store cells rows table pool count

  abbrev row : Reached
  row = row_in code from.branches from.conditions rows table (stopped f store' cells' pool' count')

  overfull : (k : ℕ) → full_in f.next count' ≡ true
      → reached for_terms rows table pool' count'
      ≡ walk_in code budgets.steps k from.steps from.branches from.conditions (spot from.control store cells pool count) rows table
  unfolding walk_in settle_by
  overfull zero h = rw (← e, h)
  overfull (suc k) h = rw (← e, h)

  -- the pool is overfull, as the path stopped and as `room` answers
  pub pool-full : full_in f.next count' ≡ true → reached for_terms rows table pool' count' ≡ whole
  unfolding walks_in
  pool-full h = overfull (budgets.branches - from.branches) h

  pub no-room : {r : Result (Unit {0}) Refusal} {x : Refusal} → r ≡ room_in f.next count' → r ≡ Err x
      → reached (answer_of r) rows table pool' count' ≡ whole
  no-room {r} {x} k z = by (full_in f.next count') refl (sym z ∙ k)
    where
      by : (b : Bool) → full_in f.next count' ≡ b → Err x ≡ if? b (Err Terms) (Ok (tt {0})) → reached (answer_of r) rows table pool' count' ≡ whole
      by true h w = rw z (ap (λ (n : ℕ). reached n rows table pool' count') (ap answer_of w) ∙ pool-full h)
      by false h w = absurd (cc)

  pub free : {r : Result (Unit {0}) Refusal} {x : Unit {0}} → r ≡ room_in f.next count' → r ≡ Ok x → full_in f.next count' ≡ false
  free {x = x} k z = by (full_in f.next count') refl (sym z ∙ k)
    where
      by : (b : Bool) → full_in f.next count' ≡ b → ◌≡◌ {A = Result (Unit {0}) Refusal} (Ok x) (if? b (Err Terms) (Ok (tt {0}))) → full_in f.next count' ≡ false
      by true h w = absurd (cc)
      by false h w = h

  module _ (h : full_in f.next count' ≡ false) where
    plain_row : (k : ℕ) → budgets.branches - from.branches ≡ k → split_in from f.next f.steps budgets.branches ≡ None
        → row ≡ walk_in code budgets.steps k from.steps from.branches from.conditions (spot from.control store cells pool count) rows table
    unfolding walk_in settle_by
    plain_row zero l x = rw (← e, h) (sym (row-last row f.next))
    plain_row (suc k) l x = rw (← e, h) (sym (row-unsplit _ row from f.next f.steps budgets.branches (omega arith) x))

    pub a-row : {r rows' : ℕ} {table' : List ℕ} → None ≡ split_in from f.next f.steps budgets.branches
        → finished r rows' table' ≡ finish_in code from.branches from.conditions rows table f.next f.control f.steps store' cells'
        → reached r rows' table' pool' count' ≡ whole
    unfolding walks_in row_in
    a-row x w = rw (← plain_row (budgets.branches - from.branches) refl (sym x), ← w)

    module _ {p q : Branch} (x : Split from f.next f.steps budgets.branches p q) {r rows₁ : ℕ} {table₁ pool₁ : List ℕ} {count₁ : ℕ}
        (er : reached r rows₁ table₁ pool₁ count₁ ≡ walks_in code budgets p store' cells' rows table pool' count') where
      forked : (k : ℕ) → budgets.branches - from.branches ≡ suc k
          → fork_by code budgets.steps (walk_in code budgets.steps k) from.branches from.conditions rows table (stopped f store' cells' pool' count') x.term x.a x.c
          ≡ walk_in code budgets.steps (suc k) from.steps from.branches from.conditions (spot from.control store cells pool count) rows table
      unfolding walk_in settle_by turn_by
      forked k l = rw (← e, h, x.is)

      split : after_first (reached r rows₁ table₁ pool₁ count₁) (λ o. walks_in code budgets q store' cells' o.rows o.table o.pool o.count) ≡ whole
      unfolding walks_in fork_by branch_in
      split =
          let left : budgets.branches - from.branches ≡ suc (budgets.branches - (from.branches + 1)) = omega (arith, x.left) in
          rw (er, x.yes, x.no, left) (forked (budgets.branches - (from.branches + 1)) left)

      pub first-refused : (r ≡ 0 → ⊥) → reached r rows₁ table₁ pool₁ count₁ ≡ whole
      unfolding after_first
      first-refused z = simp (ne_eqb r 0 z) at split

      pub both : {o : Reached} → r ≡ 0 → o ≡ walks_in code budgets q store' cells' rows₁ table₁ pool₁ count₁ → o ≡ whole
      unfolding after_first
      both z eo = eo ∙ (simp (eq-eqb r 0 z) at split)
