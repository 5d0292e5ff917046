-- Exploring a well-formed program gives a sound table: `exploring-sound`. A path holds only what fits the pool, every command keeps that
-- (Commands), and the pool only grows (Growing); so each row fits when it is finished, and ever after. Beside it, what a sound table does
-- not say: every row stands in a procedure of the program, and a refusal has a number. Assumes nothing.
use Prim.Native.Nat.{ℕ, zero, suc, ◌+◌, ◌≤◌, ◌<◌}
use native.Mathlib.Omega.{arith}
use Rattle.std.specs.Prelude.{◌≡◌, Bool, ltb, leb}
use Rattle.std.proofs.Math.Path.{refl}
use Rattle.std.proofs.Common.{sym, subst}
use Rattle.std.proofs.Math.Bool.{true, false}
use mathlib.Core.List.{List, []}
use Rattle.std.proofs.Math.Option.{none}
use Rattle.std.proofs.Math.ListN.{length, length-append}
use borrow.Author.Tests.{ltb-false, leb-false}
use Rattle.gil.specs.Numbers.{most_steps, most_branches, most_rows, most_terms, for_rows, for_terms}
use Rattle.gil.specs.Names.{Program}
use Rattle.gil.specs.Values.{number, booleans, const}
use Rattle.gil.specs.Machine.{State, Next, Result, procedure_at, unused, start, settled, move}
use Rattle.gil.specs.Rows.{steps, Outcome, Path, Row, row_of, cut_for}
use Rattle.gil.specs.Explore.{Turn, finishes, goes, forks, stepped, branched, turned, Explored, refused, explored, finish, walk_turn, overfull, turn_in, begin, walk_move, walk, explore}
use Rattle.gil.specs.Pool.{Ref, ref_sort, Pool, pooled, table}
use Rattle.gil.proofs.Theory.Tests.{chosen}
use Rattle.machine_code.specs.WellFormed as WellFormed
use Rattle.machine_code.specs.WellFormed.{Each, ProcedureFits, WellFormed}
use Rattle.machine_code.proofs.Accepted.Lists.{each_to}
use Rattle.table_locate.specs.Laws.Sound.{RefFits, ValueFits, fits_number, TermsFit, no_term, ConditionFits, fits_error, OutcomeFits, fits_ended, fits_cut, RowFits, Sound}
use Rattle.table_locate.specs.Laws.Exploring.Growing.{Grows, same-pool, then_grows, condition-grows, row-grows, Gives, gives, errs}
use Rattle.table_locate.specs.Laws.Exploring.Commands.{each_more, no_caller, StateFits, NextFits, fits_on, fits_ends, fits_fork, state-grows, frame-fits, procedure-fits, standing-gives}
pub mod Growing
pub mod Commands

-- a row of a program with so many procedures
record RowStands (procedures : ℕ) (w : Pool) (r : Row Ref) : Type 0 where
  fits : RowFits w r
  stands : r.procedure < procedures

-- What holds of a table at any time of the exploration: it is sound but for having a row
record SoFar (procedures : ℕ) (w : Pool) (table : List (Row Ref)) : Type 0 where
  few_terms : length w ≤ most_terms
  terms : TermsFit [] w
  few_rows : length table ≤ most_rows
  rows : Each (RowStands procedures w) table

-- what a walk from such a table comes to
data After (procedures : ℕ) (w : Pool) : Explored Pool Ref → Type 0 where
  stops : {n : ℕ} → 1 ≤ n → After procedures w (refused n)
  goes_on : {u : Pool} {rows : List (Row Ref)} → Grows w u → 1 ≤ length rows → SoFar procedures u rows → After procedures w (explored u rows)

first-after : {k : ℕ} {w u : Pool} {x : Explored Pool Ref} → Grows w u → After k u x → After k w x
first-after g (stops h) = stops h
first-after g (goes_on h some s) = goes_on (then_grows g h) some s

stands-grows : {k : ℕ} {w u : Pool} → Grows w u → (r : Row Ref) → RowStands k w r → RowStands k u r
stands-grows g r f = record { fits = row-grows g r f.fits; stands = f.stands }

finish-after : {k : ℕ} {w : Pool} {rows : List (Row Ref)} {r : Row Ref} → SoFar k w rows → RowStands k w r → After k w (finish w rows r)
unfolding finish
finish-after {k} {w} {rows} {r} s f =
    chosen (After k w) (leb most_rows (length rows))
    (λ e. stops {n = for_rows} (omega arith))
    (λ e.
    goes_on (same-pool w) (simp length-append (omega arith))
    (record {
      few_terms = s.few_terms;
      terms = s.terms;
      few_rows = simp length-append (omega (arith, leb-false most_rows (length rows) e));
      rows = each_more s.rows f;
    }))

module _ (p : Program) (well_formed : WellFormed p) (most : ℕ) (few : most ≤ most_branches) where
  abbrev count : ℕ
  count = length p.procedures

  -- a path with k steps left
  record PathFits (k : ℕ) (w : Pool) (q : Path Ref) : Type 0 where
    state : StateFits p w q.state
    steps : q.steps + k ≤ most_steps
    few_conditions : length q.conditions ≤ most
    conditions : Each (ConditionFits w) q.conditions

  data TurnFits (k : ℕ) (w : Pool) : Turn Ref → Type 0 where
    fits_finishes : {r : Row Ref} → RowStands count w r → TurnFits k w (finishes r)
    fits_goes : {q : Path Ref} → PathFits k w q → TurnFits k w (goes q)
    fits_forks : {a b : Path Ref} → PathFits k w a → PathFits k w b → TurnFits k w (forks a b)

  path-grows : {k : ℕ} {w u : Pool} {q : Path Ref} → Grows w u → PathFits k w q → PathFits k u q
  path-grows g f =
      record {
        state = state-grows p g f.state;
        steps = f.steps;
        few_conditions = f.few_conditions;
        conditions = each_to (condition-grows g) f.conditions;
      }

  row_fits :
      {k : ℕ} {w : Pool} {q : Path Ref} {o : Outcome Ref} (n : ℕ) → PathFits k w q → n ≤ most_steps → OutcomeFits w o → RowStands count w (row_of o n q)
  unfolding row_of
  row_fits {q = q} n f h g =
      record {
        fits =
            record {
              outcome = g;
              steps = h;
              procedure = omega (arith, f.state.control.procedure, well_formed.few_procedures);
              command = f.state.control.command;
              inputs = f.state.memory.counters.inputs;
              few_conditions = omega (arith, f.few_conditions);
              conditions = f.conditions;
              variables = f.state.variables;
              cells = f.state.memory.cells;
            };
        stands = f.state.control.procedure;
      }

  turned-fits :
      {k : ℕ} {w u : Pool} {q : Path Ref} {n : Next Ref} → PathFits (suc k) w q → Grows w u → NextFits p u n
      → TurnFits k u (turned most q n)
  unfolding turned stepped branched cut_for
  turned-fits {k} {u = u} {q = q} f g (fits_on {s = after} s) =
      let here : PathFits (suc k) u q = path-grows g f in
      fits_goes {q = stepped after q}
      (record {
        state = s;
        steps = omega (arith, f.steps);
        few_conditions = f.few_conditions;
        conditions = here.conditions;
      })
  turned-fits {q = q} f g (fits_ends e) =
      fits_finishes (row_fits (suc q.steps) (path-grows g f) (omega (arith, f.steps)) (fits_ended e))
  turned-fits {k} {u = u} {q = q} f g (fits_fork {t = t} r e a b) =
      let here : PathFits (suc k) u q = path-grows g f in
      chosen (TurnFits k u) (leb most (length q.conditions))
      (λ h. fits_finishes (row_fits q.steps here (omega (arith, f.steps)) fits_cut))
      (λ h.
      let room : length q.conditions < most = leb-false most (length q.conditions) h in
      fits_forks (branch here r e true a room) (branch here r e false b room))
    where
      branch :
          PathFits (suc k) u q → RefFits u t → ref_sort t ≡ booleans → (truth : Bool) {s : State Ref} → StateFits p u s
          → length q.conditions < most → PathFits k u (branched t truth s q)
      branch here r e truth s h =
          record {
            state = s;
            steps = omega (arith, here.steps);
            few_conditions = simp length-append (omega arith);
            conditions = each_more here.conditions (record { reference = r; sort = e });
          }

  abbrev walk_p : ℕ → Path Ref → Explored Pool Ref → Explored Pool Ref
  unfolding pooled
  walk_p = walk pooled p most

  abbrev walk_move_p :
      (Path Ref → Explored Pool Ref → Explored Pool Ref) → Path Ref → List (Row Ref) → Result Pool (Next Ref) → Explored Pool Ref
  unfolding pooled
  walk_move_p walks q rows m = walk_move pooled p most walks q rows (settled pooled m)

  walk_refused : (k : ℕ) (q : Path Ref) (n : ℕ) → walk_p k q (refused n) ≡ refused n
  unfolding pooled walk
  walk_refused zero q n = refl
  walk_refused (suc k) q n = refl

  -- a walk that adds to sound tables, with k steps left
  record Walks (k : ℕ) (walks : Path Ref → Explored Pool Ref → Explored Pool Ref) : Type 0 where
    refuses : (q : Path Ref) (n : ℕ) → walks q (refused n) ≡ refused n
    adds : (w : Pool) (rows : List (Row Ref)) (q : Path Ref) → SoFar count w rows → PathFits k w q → After count w (walks q (explored w rows))

  module _ {k : ℕ} {walks : Path Ref → Explored Pool Ref → Explored Pool Ref} (good : Walks k walks) where
    second-after : {w : Pool} {q : Path Ref} {x : Explored Pool Ref} → After count w x → PathFits k w q → After count w (walks q x)
    second-after {w} {q} (stops {n} h) f = subst (After count w) (sym (good.refuses q n)) (stops h)
    second-after {w} {q} (goes_on {u} {rows} g some s) f = first-after g (good.adds u rows q s (path-grows g f))

    turn-after : {w : Pool} {rows : List (Row Ref)} {t : Turn Ref} → SoFar count w rows → TurnFits k w t → After count w (walk_turn walks w rows t)
    unfolding walk_turn
    turn-after s (fits_finishes f) = finish-after s f
    turn-after {w} {rows} s (fits_goes {q} f) = good.adds w rows q s f
    turn-after {w} {rows} s (fits_forks {a} f g) = second-after (good.adds w rows a s f) g

    in_pool : {w u : Pool} {rows : List (Row Ref)} → SoFar count w rows → Grows w u → TermsFit [] u → length u ≤ most_terms → SoFar count u rows
    in_pool s g t h = record { few_terms = h; terms = t; few_rows = s.few_rows; rows = each_to (stands-grows g) s.rows }

    move-after :
        {w : Pool} {rows : List (Row Ref)} {q : Path Ref} {m : Result Pool (Next Ref)}
        → SoFar count w rows
        → PathFits (suc k) w q
        → Gives (NextFits p) w m
        → After count w (walk_move_p walks q rows m)
    unfolding pooled walk_move settled overfull turn_in
    move-after {w} s f (gives {u} g t n) =
        chosen (After count w) (ltb most_terms (length u)) (λ e. stops {n = for_terms} (omega arith)) (λ e.
        first-after g (turn-after (in_pool s g t (ltb-false most_terms (length u) e)) (turned-fits f g n)))
    move-after {w} s f (errs {u} {n} g t h i) =
        chosen (After count w) (ltb most_terms (length u)) (λ e. stops {n = for_terms} (omega arith)) (λ e.
        first-after g (turn-after (in_pool s g t (ltb-false most_terms (length u) e)) (turned-fits f g (fits_ends (fits_error h i)))))

  walk_after :
      (k : ℕ) (w : Pool) (rows : List (Row Ref)) (q : Path Ref) → SoFar count w rows → PathFits k w q → After count w (walk_p k q (explored w rows))
  unfolding pooled walk move cut_for
  walk_after zero w rows q s f = finish-after s (row_fits q.steps f (omega (arith, f.steps)) fits_cut)
  walk_after (suc k) w rows q s f =
      move-after (record { refuses = walk_refused k; adds = walk_after k }) s f (standing-gives p well_formed s.terms f.state)

  abbrev begin_p : Path Ref
  unfolding pooled
  begin_p = begin pooled p

  begin-fits : (k : ℕ) → k ≤ most_steps → PathFits k [] begin_p
  unfolding pooled begin start unused
  begin-fits k h =
      let main : ProcedureFits (length p.procedures) (procedure_at p p.main) =
      procedure-fits p well_formed p.main well_formed.main_there in
      let argument : ValueFits [] (const (number 0)) = fits_number {n = 0} (omega arith) in
      record {
        state =
            record {
              control = record { procedure = well_formed.main_there; command = omega arith };
              variables =
                  frame-fits (procedure_at p p.main).variables main.some_variable main.few_variables argument;
              saved = no_caller;
              memory =
                  record {
                    counters = record { inputs = omega arith; locations = omega arith };
                    cells = record { few_cells = omega arith; cells = WellFormed.none };
                  };
            };
        steps = omega arith;
        few_conditions = omega arith;
        conditions = WellFormed.none;
      }

empty-so-far : (k : ℕ) → SoFar k [] []
empty-so-far k = record { few_terms = omega arith; terms = no_term; few_rows = omega arith; rows = WellFormed.none }

table-after :
    {p : Program} (budget most : ℕ) → WellFormed p → budget ≤ most_steps → most ≤ most_branches → After (length p.procedures) [] (table p budget most)
unfolding pooled table explore
table-after {p} budget most well_formed h few =
    walk_after p well_formed most few budget [] [] (begin_p p well_formed most few) (empty-so-far (length p.procedures))
    (begin-fits p well_formed most few budget h)

after-sound : {k : ℕ} {w : Pool} {rows : List (Row Ref)} → After k [] (explored w rows) → Sound w rows
after-sound (goes_on g some s) =
    record { few_terms = s.few_terms; terms = s.terms; some_row = some; few_rows = s.few_rows; rows = each_to (λ r f. f.fits) s.rows }

after-stands : {k : ℕ} {w : Pool} {rows : List (Row Ref)} → After k [] (explored w rows) → Each (λ (r : Row Ref). r.procedure < k) rows
after-stands (goes_on g some s) = each_to (λ r f. f.stands) s.rows

after-numbered : {k n : ℕ} → After k [] (refused n) → 1 ≤ n
after-numbered (stops h) = h

module _ {p : Program} (budget most : ℕ) (well_formed : WellFormed p) (small : budget ≤ most_steps) (few : most ≤ most_branches) where
  -- Exploring a well-formed program within the budgets gives a sound table, whose rows stand in the program's procedures.
  pub exploring-sound : {w : Pool} {rows : List (Row Ref)} → table p budget most ≡ explored w rows → Sound w rows
  exploring-sound e = after-sound (subst (After (length p.procedures) []) e (table-after budget most well_formed small few))

  pub exploring-stands :
      {w : Pool} {rows : List (Row Ref)} → table p budget most ≡ explored w rows → Each (λ (r : Row Ref). r.procedure < length p.procedures) rows
  exploring-stands e = after-stands (subst (After (length p.procedures) []) e (table-after budget most well_formed small few))

  -- a refusal while exploring is not by 0, which is success
  pub exploring-numbered : {n : ℕ} → table p budget most ≡ refused n → 1 ≤ n
  exploring-numbered e = after-numbered (subst (After (length p.procedures) []) e (table-after budget most well_formed small few))
