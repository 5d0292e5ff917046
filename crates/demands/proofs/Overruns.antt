-- Reasons 9 and 10: the table of a program is refused by n exactly where its exploration, command by command, overruns by n. Assumes nothing.
use Prim.Native.Nat.{ℕ, zero, suc, ◌+◌, ◌*◌, ◌≤◌, ◌<◌}
use Rattle.std.proofs.Common.{arith, sym, ◌∙◌, subst}
use Rattle.std.specs.Prelude.{◌≡◌, ◌⊎◌, Bool, true, false, List, [], ◌∷◌, length, ltb, leb}
use Rattle.std.proofs.Math.Path.{refl, ap}
use Rattle.std.proofs.Math.Logic.{inl, inr}
use borrow.Author.Tests.{ltb-true, ltb-false, leb-true, leb-false, lt-ltb, le-ltb, le-leb, lt-leb}
use Rattle.gil.specs.Numbers.{most_rows, most_terms, for_rows, for_terms}
use Rattle.gil.specs.Names.{Program, accepted, check_text}
use Rattle.gil.specs.Rows.{Path, Row, cut_for, steps}
use Rattle.gil.specs.Explore as Explore
use Rattle.gil.specs.Explore.{Turn, finishes, goes, forks, Explored, explored, Exploring, stopped, exploring, finish, waiting_on, on_turn, overfull, after_move, advance, after_commands}
use Rattle.gil.specs.Pool.{Ref, Pool, pooled, table}
use Rattle.gil.specs.Accounts.{exploration_after}
use Rattle.gil.proofs.Demand3.{ends-at_the_table}
use Rattle.gil.proofs.Theory.Tests.{chosen}
use Rattle.demands.specs.Reasons.{terms_after, turn_after, Overruns, row_of_cut, row_of_command, term_of_command, Overrun, after}

module _ (p : Program) (budget most : ℕ) where
  Advances : Exploring Pool Ref → Exploring Pool Ref
  unfolding pooled
  Advances x = advance pooled p budget most x

  overruns_stop : {n : ℕ} {x : Exploring Pool Ref} → Overruns p budget most n x → Advances x ≡ stopped n
  unfolding Advances pooled advance finish waiting_on after_move overfull terms_after turn_after on_turn
  overruns_stop (row_of_cut {rows = rows} {q = q} h g) = simp (le-leb budget q.steps h, le-leb most_rows (length rows) g, advance, finish)
  overruns_stop (row_of_command {w = w} {rows = rows} {q = q} h f e g) =
      simp (lt-leb budget q.steps h, le-ltb most_terms (length (terms_after p w q)) f, e, le-leb most_rows (length rows) g, advance, after_move, finish)
  overruns_stop (term_of_command {w = w} {q = q} h f) =
      simp (lt-leb budget q.steps h, lt-ltb most_terms (length (terms_after p w q)) f, advance, after_move)

  -- an exploration that has stopped now had stopped before, or overran
  Stopped : ℕ → Exploring Pool Ref → Type 0
  Stopped n x = (x ≡ stopped n) ⊎ Overruns p budget most n x

  not_stopped : {A : Type 0} {n : ℕ} {w : Pool} {rows : List (Row Ref)} {qs : List (Path Ref)} → exploring w rows qs ≡ stopped n → A
  not_stopped e = let z : ◌≡◌ {A = ℕ} 0 1 = cc in absurd (omega arith)

  overran : {m n : ℕ} {x : Exploring Pool Ref} → ◌≡◌ {A = Exploring Pool Ref} (stopped m) (stopped n) → Overruns p budget most m x → Stopped n x
  unfolding Stopped
  overran {m} {n} {x} e o = let same : m ≡ n = cc in inr (subst (λ (k : ℕ). Overruns p budget most k x) same o)

  finish-stops :
      {n : ℕ} {x : Exploring Pool Ref} (w : Pool) (rows : List (Row Ref)) (qs : List (Path Ref)) (r : Row Ref)
      → (most_rows ≤ length rows → Overruns p budget most for_rows x)
      → waiting_on qs (finish w rows r) ≡ stopped n
      → Stopped n x
  unfolding finish waiting_on
  finish-stops {n} {x} w rows qs r o =
      chosen (λ (y : Explored Pool Ref). waiting_on qs y ≡ stopped n → Stopped n x) (leb most_rows (length rows))
      (λ e s. overran s (o (leb-true most_rows (length rows) e)))
      (λ e s. not_stopped s)

  turn-stops :
      {n : ℕ} {x : Exploring Pool Ref} (w : Pool) (rows : List (Row Ref)) (qs : List (Path Ref)) (t : Turn Ref)
      → ((r : Row Ref) → t ≡ finishes r → most_rows ≤ length rows → Overruns p budget most for_rows x)
      → on_turn w rows qs t ≡ stopped n
      → Stopped n x
  unfolding on_turn
  turn-stops w rows qs (finishes r) o s = finish-stops w rows qs r (o r refl) s
  turn-stops w rows qs (goes q) o s = not_stopped s
  turn-stops w rows qs (forks a b) o s = not_stopped s

  advance-stops : {n : ℕ} (x : Exploring Pool Ref) → Advances x ≡ stopped n → Stopped n x
  unfolding Advances pooled advance after_move overfull terms_after turn_after Stopped
  advance-stops (stopped m) s = inl s
  advance-stops (exploring w rows []) s = not_stopped s
  advance-stops {n} (exploring w rows (q ∷ qs)) s =
      chosen (λ (y : Exploring Pool Ref). y ≡ stopped n → Stopped n (exploring w rows (q ∷ qs))) (leb budget q.steps)
      (λ e. finish-stops w rows qs (cut_for steps q) (row_of_cut (leb-true budget q.steps e)))
      (λ e.
      let h : q.steps < budget = leb-false budget q.steps e in
      chosen (λ (y : Exploring Pool Ref). y ≡ stopped n → Stopped n (exploring w rows (q ∷ qs))) (ltb most_terms (length (terms_after p w q)))
      (λ f t. overran t (term_of_command h (ltb-true most_terms (length (terms_after p w q)) f)))
      (λ f. turn-stops (terms_after p w q) rows qs (turn_after p most w q) (λ r. row_of_command h (ltb-false most_terms (length (terms_after p w q)) f))))
      s

  -- after a stop it stays stopped
  Exploration : ℕ → Exploring Pool Ref
  Exploration k = exploration_after p budget most k

  one_more : (k : ℕ) → Exploration (suc k) ≡ Advances (Exploration k)
  unfolding Exploration Advances exploration_after after_commands pooled
  one_more k = refl

  stays_on : {n : ℕ} (k : ℕ) → Exploration k ≡ stopped n → Exploration (suc k) ≡ stopped n
  unfolding Advances advance pooled
  stays_on k s = one_more k ∙ ap Advances s

  stays : {n : ℕ} (k m : ℕ) → k ≤ m → Exploration k ≡ stopped n → Exploration m ≡ stopped n
  stays k zero h s = let e : zero ≡ k = omega arith in ap Exploration e ∙ s
  stays {n} k (suc m) h s = at (leb k m) refl (λ l. stays k m l s)
    where
      at : (b : Bool) → leb k m ≡ b → (k ≤ m → Exploration m ≡ stopped n) → Exploration (suc m) ≡ stopped n
      at true e f = stays_on m (f (leb-true k m e))
      at false e f = let g : suc m ≡ k = omega (arith, leb-false k m e) in ap Exploration g ∙ s

  -- the table is refused exactly where the exploration overruns
  refused-from : {n : ℕ} (x : Explored Pool Ref) → waiting_on [] x ≡ stopped n → x ≡ Explore.refused n
  unfolding waiting_on
  refused-from {n} (Explore.refused m) s = let e : m ≡ n = cc in ap Explore.refused e
  refused-from {n} (explored w rows) s = not_stopped s

  pub overruns_table : {n : ℕ} (k : ℕ) → Overruns p budget most n (exploration_after p budget most k) → table p budget most ≡ Explore.refused n
  unfolding Exploration
  overruns_table {n} k o =
      let s : Exploration (suc k) ≡ stopped n = one_more k ∙ overruns_stop o in
      let m : ℕ = suc k + 65 * suc budget in
      refused-from (table p budget most) (sym (ends-at_the_table p budget most m (omega arith)) ∙ stays (suc k) m (omega arith) s)

  stopped_overruns : {n : ℕ} (k : ℕ) → Exploration k ≡ stopped n → (j : ℕ) × Overruns p budget most n (exploration_after p budget most j)
  unfolding Exploration Stopped exploration_after after_commands pooled
  stopped_overruns zero s = not_stopped s
  stopped_overruns {n} (suc k) s = at (advance-stops (Exploration k) (sym (one_more k) ∙ s)) (stopped_overruns k)
    where
      at :
          Stopped n (Exploration k) → (Exploration k ≡ stopped n → (j : ℕ) × Overruns p budget most n (exploration_after p budget most j))
          → (j : ℕ) × Overruns p budget most n (exploration_after p budget most j)
      at (inl t) f = f t
      at (inr o) f = (k, o)

  pub table_overruns :
      {n : ℕ} → table p budget most ≡ Explore.refused n → (k : ℕ) × Overruns p budget most n (exploration_after p budget most k)
  unfolding Exploration waiting_on
  table_overruns {n} e =
      let m : ℕ = 65 * suc budget in
      stopped_overruns m (ends-at_the_table p budget most m (omega arith) ∙ ap (waiting_on []) e)

pub overruns_range : {p : Program} {budget most n : ℕ} {x : Exploring Pool Ref} → Overruns p budget most n x → (for_rows ≤ n) × (n ≤ for_terms)
overruns_range (row_of_cut h g) = omega arith
overruns_range (row_of_command h f e g) = omega arith
overruns_range (term_of_command h f) = omega arith

-- an overrun is the table's own refusal
pub overrun-table :
    {text : List ℕ} {p : Program} {budget most n : ℕ} → check_text text ≡ accepted p → Overrun text budget most n
    → table p budget most ≡ Explore.refused n
overrun-table {p = p} {budget} {most} {n} e (after k {p = q} f o) =
    let same : q ≡ p = cc in
    subst (λ (r : Program). table r budget most ≡ Explore.refused n) same (overruns_table q budget most k o)

pub overrun_late : {text : List ℕ} {budget most : ℕ} (n : ℕ) → Overrun text budget most n → (for_rows ≤ n) × (n ≤ for_terms)
overrun_late n (after k e o) = overruns_range o
