-- The plain run on words: with known inputs a path followed to its end has the row of document 01's plain run, and written into a zeroed answer
-- it is `answer_bytes` of it. Assumes nothing.
use Rattle.std.specs.Prelude.{ℕ, ◌+◌, ◌<◌, ◌≤◌, Bool, length, map, get_or, take, drop, replicate, None, Some}
use Rattle.std.proofs.Math.Bool.{true, false}
use Rattle.std.proofs.Math.Path.{◌≡◌, refl, sym, ap}
use Rattle.std.proofs.Common.{◌∙◌, subst, arith}
use mathlib.Core.List.{List, [], ◌++◌}
use borrow.Author.Tests.{le-ltb, le-leb}
use Rattle.gil.specs.Numbers.{most_steps, most_terms, most_cells}
use Rattle.gil.specs.Names.{Program}
use Rattle.gil.specs.Values.{const}
use Rattle.gil.specs.Machine as Machine
use Rattle.gil.specs.Machine.{State, move, start}
use Rattle.gil.specs.Rows.{cut_for, steps}
use Rattle.gil.specs.Plain.{plain, ran, ran_to, run_for, plain_run}
use Rattle.gil.specs.Explore.{overfull}
use Rattle.gil.specs.Layout.{reason_code, no_number, answer_bytes}
use Rattle.machine_code.specs.Code.{program_words}
use Rattle.machine_code.specs.WellFormed.{WellFormed}
use Rattle.machine_terms.specs.Laws.Engine.{Engine, ValueAs, const_as, term_as}
use Rattle.machine_terms.specs.Laws.Plain.{plain_engine, NoTerm}
use Rattle.machine_cells.specs.declared.Cell.{Cell}
use Rattle.machine_cells.specs.Mirror.{cell_of}
use Rattle.machine_commands.specs.declared.Control.{Control}
use Rattle.machine_commands.specs.declared.Next.{Next}
use Rattle.machine_commands.specs.Mirror.{start_in, start_store}
use Rattle.machine_laws.specs.Laws.Moves.{StateAs}
use Rattle.machine_laws.specs.Laws.Runs.{start_as}
use Rattle.table_head.specs.Mirror.{end_of, ended_in, head_in}
use Rattle.table_advance.specs.Mirror.Followed.{Spot, spot, Stopped, goes_in, cut_at, stopped_at, follow_in, one_in}
use Rattle.table_path.specs.Laws.Few.{move-few}
use Rattle.table_path.specs.Laws.Path.{Onward, stays, moves, onward-steps, SpotAs, Stops, used_up, by_command, one, one_as, follows, end-outcome, end-steps, Came, came_on, came_end, came_fork, came, row_as, few_on_lem}
use Rattle.table_rows.specs.Mirror.{with_row}
use Rattle.table_rows.specs.Laws.Held as Held
use Rattle.table_rows.specs.Laws.Held.{Keeps, RowAs, a_const, a_cut}
use Rattle.table_rows.specs.Laws.Row.{value-kept, answer-left}

-- moves that go on are the run's
run-onward : (inputs : List ℕ) (p : Program) {k n j m : ℕ} {w v : (plain inputs).World} {s t : State (plain inputs).Term}
    → Onward (plain inputs) p k n w s j m v t
    → unfold plain in (run_for inputs p k n s ≡ run_for inputs p j m t)
unfolding plain run_for ran_to
run-onward inputs p stays = refl
run-onward inputs p (moves {k} {n} {s} e f o) = ap (ran_to (run_for inputs p k) n s) e ∙ run-onward inputs p o

-- a constant keeps its bytes, and there is no term
plain-kept : Keeps no_number no_number (ValueAs NoTerm)
plain-kept v x (const_as {c} h) = value-kept no_number no_number (const c) x (a_const h)
plain-kept v x (term_as h) = absurd h

module _ (inputs : List ℕ) (fits : (i : ℕ) → get_or inputs i 0 < 4294967296) (p : Program) (ok : WellFormed p) (pool : List ℕ) (count : ℕ)
    (room : count ≤ most_terms) where
  abbrev E : Engine (plain inputs)
  E = plain_engine inputs fits pool count

  abbrev AFew : (plain inputs).World → State (plain inputs).Term → Type 0
  AFew w s = length s.memory.cells ≤ most_cells

  never-full : (w : (plain inputs).World) → overfull (plain inputs) p w ≡ false
  unfolding plain overfull
  never-full w = le-ltb most_terms 0 (omega arith)

  -- the row of the command that stopped
  module _ {s : State (plain inputs).Term} {c : Control} {store : List ℕ} {ds : List (Machine.Cell ℕ)} (h : StateAs E p s c store ds)
      (few : length s.memory.cells ≤ most_cells) (j m : ℕ) (small : m < most_steps) (conditions : List ℕ) (cells : List Cell) where
    came-row : {x : Machine.Next (plain inputs).Term} {r : Next} {store' : List ℕ} {ds' : List (Machine.Cell ℕ)} (n : ℕ)
        → Came E p store ds x r store' ds'
        → n ≤ most_terms
        → goes_in r n ≡ false
        → map cell_of cells ≡ ds'
        → unfold plain in RowAs (ValueAs NoTerm) no_number (ran_to (run_for inputs p j) m s x) (head_in (program_words p) (end_of r m) c 0) conditions store' c.frame cells
    unfolding plain plain_engine ran_to ran goes_in
    came-row n (came_on k) low e same = let z : ◌≡◌ {A = Bool} true false = sym (le-leb n most_terms low) ∙ e in let y : ◌≡◌ {A = ℕ} 0 1 = cc in absurd (omega arith)
    came-row n (came_end {e} {r} k) low g same =
        row_as E p ok no_number (ran m s) h few (end_of r m) (end-outcome E m k) (end-steps E m (omega arith) k) refl (omega arith) Held.nothing same
    came-row n (came_fork {t} k a b) low e same = absurd t

  -- the row of where a path stopped
  at-stop : {j m : ℕ} {w : (plain inputs).World} {s : State (plain inputs).Term} {x : Spot} {f : Stopped} (conditions : List ℕ) (cells : List Cell)
      → SpotAs E p w s x
      → length s.memory.cells ≤ most_cells
      → m + j ≤ most_steps
      → Stops E p j m x f
      → map cell_of cells ≡ f.cells
      → unfold plain in RowAs (ValueAs NoTerm) no_number (run_for inputs p j m s)
      (head_in (program_words p) (ended_in f.next f.steps) f.control 0) conditions f.store f.control.frame cells
  unfolding plain plain_engine run_for ran cut_for ended_in cut_at stopped_at reason_code
  at-stop {m} {s} conditions cells h few small (used_up e) same =
      rw e
      (row_as E p ok no_number (ran m s) h.state few (ended_in None m) (a_cut {why = steps}) refl refl (omega arith) Held.nothing
      (same ∙ ap (λ (f : Stopped). f.cells) e))
  at-stop {m} {x} conditions cells h few small (by_command {j} g e) same =
      let k = one_as E p ok h in
      rw e
      (came-row h.state few j m (omega arith) conditions cells (one E p x).count (came E k.next) (omega (arith, k.world.same_count)) g
      (same ∙ ap (λ (f : Stopped). f.cells) e))

  module _ (budget : ℕ) (small : budget ≤ most_steps) (conditions : List ℕ) {f : Stopped} (cells : List Cell)
      (e : f ≡ follow_in (one_in (program_words p) (Some inputs)) budget 0 (spot (start_in (program_words p)) start_store [] pool count))
      (same : map cell_of cells ≡ f.cells) where
    pub plain_row : RowAs (ValueAs NoTerm) no_number (plain_run p inputs budget)
        (head_in (program_words p) (ended_in f.next f.steps) f.control 0) conditions f.store f.control.frame cells
    unfolding plain plain_engine plain_run start
    plain_row =
        let g =
        follows E p ok AFew (λ w s x i h l. never-full (move (plain inputs) p w s).world)
        (λ w s s' i n l. few_on_lem (move-few (plain inputs) p s i w) n)
        budget 0 tt (start p) (spot (start_in (program_words p)) start_store [] pool count)
        (omega arith) (record { state = start_as E p ok; world = record { same_pool = refl; same_count = refl } }) in
        rw (run-onward inputs p g.onward)
        (at-stop conditions cells g.stands g.still (omega (arith, onward-steps g.onward))
        (subst (λ (y : Stopped). Stops E p g.left g.taken g.spot y) (sym e) g.stops) same)

    -- "plain run": what is left in a zeroed answer
    pub plain-answer : (answer : List ℕ) → take 1024 answer ≡ replicate 1024 0
        → with_row answer (head_in (program_words p) (ended_in f.next f.steps) f.control 0) conditions f.store f.control.frame cells
        ≡ answer_bytes (plain_run p inputs budget) ++ drop 1024 answer
    plain-answer answer zeros = answer-left (ValueAs NoTerm) plain-kept plain_row answer zeros
