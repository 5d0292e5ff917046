-- A path followed on a program's words is that path of document 01's machine, for every model that stands in words: as many moves that go on,
-- and the command that stops both; and the row of where it stopped is that row, with the plain run's answer as its first use.
-- Assumes nothing.
use Prim.Native.Nat.{ℕ, zero, suc, ◌+◌, ◌*◌, ◌/◌, ◌%◌, ◌<◌, ◌≤◌}
use Rattle.std.specs.Prelude.{Bool, List, [], ◌∷◌, map, take, leb}
use Rattle.std.proofs.Math.Bool.{true, false}
use Rattle.std.proofs.Math.Path.{◌≡◌, refl, sym, ap}
use Rattle.std.proofs.Common.{◌∙◌}
use Rattle.std.proofs.Math.Option.{Option}
use native.Mathlib.Omega.{arith}
use Rattle.std.proofs.Math.ListN.{length}
use Rattle.gil.specs.Numbers.{most_terms, most_cells}
use Rattle.gil.specs.Codes.{error_number, outcome_number}
use Rattle.gil.specs.declared.errors.Error as Errors
use Rattle.gil.specs.Names.{Program}
use Rattle.gil.specs.Values.{Value, term}
use Rattle.gil.specs.Machine as Machine
use Rattle.gil.specs.Machine.{Model, State, move, on, ends, fork, returned, failed, vanished, error}
use Rattle.gil.specs.Rows as Rows
use Rattle.gil.specs.Rows.{Path, row_of, ended, steps}
use Rattle.gil.specs.Explore.{overfull}
use Rattle.machine_code.specs.Code.{program_words}
use Rattle.machine_code.specs.WellFormed.{WellFormed}
use Rattle.machine_code.specs.Mirror.{code_word}
use Rattle.machine_code.specs.Mirror.{if?}
use Rattle.machine_terms.specs.Laws.Engine.{Engine, As, ValueAs}
use Rattle.machine_evaluate.specs.Laws.{SlotAs, unbound, bound}
use Rattle.machine_cells.specs.declared.Cell.{Cell}
use Rattle.machine_cells.specs.Mirror.{cell_of}
use Rattle.machine_commands.specs.declared.Control.{Control}
use Rattle.machine_commands.specs.declared.Next.{Next}
use Rattle.machine_commands.specs.declared.Next.TheVariants.{On, Returned, Failed, Vanished, Error, Fork}
use Rattle.machine_actions.specs.Laws.Changed.{Changed}
use Rattle.machine_laws.specs.Laws.State.{CellsAs, no_cells, a_cell, FrameAt, top}
use Rattle.machine_laws.specs.Laws.Moves.{StateAs, NextAs, goes_on, has_returned, has_failed, has_vanished, has_erred, has_forked, MovedAs}
use Rattle.machine_laws.specs.Laws.Words.{procedure-fits, variables-is}
use Rattle.machine_laws.specs.Laws.Engine.{move_as}
use Rattle.table_rows.specs.Laws.Held as Held
use Rattle.table_rows.specs.Laws.Held.{Listed, ConditionAs, VariableAs, CellAs, OutcomeAs, a_return, a_fail, a_vanish, an_error, RowAs}
use Rattle.table_head.specs.declared.Ending.{Ending}
use Rattle.table_path.specs.Laws.Few.{FewNext, few_on, few_end, few_fork}
use Rattle.table_head.specs.Mirror.{end_of, head_in}
use Rattle.table_advance.specs.Mirror.Followed.{Spot, Stopped, goes_in, where_in, spot_after, cut_at, stopped_at, follow_in, one_in}

-- Moves that go on, within the terms that there is room for: from a state with `k` steps left and `n` taken to one with `j` and `m`
pub data Onward (M : Model) (p : Program) : ℕ → ℕ → M.World → State M.Term → ℕ → ℕ → M.World → State M.Term → Type 0 where
  stays : {k n : ℕ} {w : M.World} {s : State M.Term} → Onward M p k n w s k n w s
  moves :
      {k n j m : ℕ} {w v : M.World} {s s' t : State M.Term}
      → (move M p w s).next ≡ on s'
      → overfull M p (move M p w s).world ≡ false
      → Onward M p k (suc n) (move M p w s).world s' j m v t
      → Onward M p (suc k) n w s j m v t

pub onward-steps : {M : Model} {p : Program} {k n j m : ℕ} {w v : M.World} {s t : State M.Term} → Onward M p k n w s j m v t → m + j ≡ n + k
onward-steps stays = refl
onward-steps (moves e f o) = omega (arith, onward-steps o)

module _ {M : Model} (E : Engine M) (p : Program) where
  abbrev pub one : Spot → Changed
  one = one_in (program_words p) E.known

  pub record SpotAs (w : M.World) (s : State M.Term) (x : Spot) : Type 0 where
    pub state : StateAs E p s x.control x.store x.cells
    pub world : E.WorldAs w x.pool x.count

  -- how a path stops: its steps are used up, or a command does anything but go on
  pub data Stops : ℕ → ℕ → Spot → Stopped → Type 0 where
    used_up : {n : ℕ} {x : Spot} {f : Stopped} → f ≡ cut_at n x → Stops zero n x f
    by_command :
        {j n : ℕ} {x : Spot} {f : Stopped}
        → goes_in (one x).kept.next (one x).count ≡ false
        → f ≡ stopped_at n x (one x)
        → Stops (suc j) n x f

  -- where a path stopped, in the machine and in words
  pub record Followed (I : M.World → State M.Term → Type 0) (k n : ℕ) (w : M.World) (s : State M.Term) (f : Stopped) : Type 0 where
    pub left : ℕ
    pub taken : ℕ
    pub world : M.World
    pub state : State M.Term
    pub spot : Spot
    pub onward : Onward M p k n w s left taken world state
    pub stands : SpotAs world state spot
    pub stops : Stops left taken spot f
    pub still : I world state

  -- a command that goes on
  record GoneOn (x : Machine.Next M.Term) (r : Next) (c : Control) (store : List ℕ) (ds : List (Machine.Cell ℕ)) (count : ℕ) : Type 0 where
    state : State M.Term
    next : x ≡ on state
    stands : StateAs E p state (where_in r c) store ds
    few : leb count most_terms ≡ true

  gone-on : {store store' : List ℕ} {ds ds' : List (Machine.Cell ℕ)} {x : Machine.Next M.Term} {r : Next} (c : Control) (count : ℕ)
      → NextAs E p store ds x r store' ds'
      → goes_in r count ≡ true
      → GoneOn x r c store' ds' count
  unfolding goes_in where_in
  gone-on c count (goes_on {s} h) e = record { state = s; next = refl; stands = h; few = e }
  gone-on c count (has_returned h) e = let z : ◌≡◌ {A = ℕ} 0 1 = cc in absurd (omega arith)
  gone-on c count (has_failed h) e = let z : ◌≡◌ {A = ℕ} 0 1 = cc in absurd (omega arith)
  gone-on c count has_vanished e = let z : ◌≡◌ {A = ℕ} 0 1 = cc in absurd (omega arith)
  gone-on c count (has_erred x) e = let z : ◌≡◌ {A = ℕ} 0 1 = cc in absurd (omega arith)
  gone-on c count (has_forked h j k) e = let z : ◌≡◌ {A = ℕ} 0 1 = cc in absurd (omega arith)

  module _ (ok : WellFormed p) where
    -- one command
    pub one_as : {w : M.World} {s : State M.Term} {x : Spot} → SpotAs w s x
        → MovedAs E p x.store x.cells (move M p w s) (one x).kept.next (one x).kept.store (one x).kept.cells (one x).pool (one x).count
    unfolding one_in
    one_as {w} {x = x} h = move_as E p ok h.state w x.pool x.count h.world

    -- what is known of every world and state of the path, such that the two counts of terms agree
    module _ (I : M.World → State M.Term → Type 0)
        (counts : (w : M.World) (s : State M.Term) (x : Spot) → I w s → SpotAs w s x → leb (one x).count most_terms ≡ true
        → overfull M p (move M p w s).world ≡ false)
        (keeps : (w : M.World) (s s' : State M.Term) → I w s → (move M p w s).next ≡ on s' → overfull M p (move M p w s).world ≡ false
        → I (move M p w s).world s') where
      follows_by : (k n : ℕ) (w : M.World) (s : State M.Term) (x : Spot) (b : Bool)
          → goes_in (one x).kept.next (one x).count ≡ b
          → ((n : ℕ) (w : M.World) (s : State M.Term) (x : Spot) → I w s → SpotAs w s x → Followed I k n w s (follow_in one k n x))
          → I w s
          → SpotAs w s x
          → Followed I (suc k) n w s (if? b (follow_in one k (suc n) (spot_after x (one x))) (stopped_at n x (one x)))
      unfolding spot_after
      follows_by k n w s x true e rest i h =
          let m = one_as h in
          let g = gone-on x.control (one x).count m.next e in
          let fits : overfull M p (move M p w s).world ≡ false = counts w s x i h g.few in
          let f = rest (suc n) (move M p w s).world g.state (spot_after x (one x))
          (keeps w s g.state i g.next fits) (record { state = g.stands; world = m.world }) in
          record {
            left = f.left;
            taken = f.taken;
            world = f.world;
            state = f.state;
            spot = f.spot;
            onward = moves g.next fits f.onward;
            stands = f.stands;
            stops = f.stops;
            still = f.still;
          }
      follows_by k n w s x false e rest i h =
          record {
            left = suc k;
            taken = n;
            world = w;
            state = s;
            spot = x;
            onward = stays;
            stands = h;
            stops = by_command e refl;
            still = i;
          }

      pub follows : (k n : ℕ) (w : M.World) (s : State M.Term) (x : Spot) → I w s → SpotAs w s x → Followed I k n w s (follow_in one k n x)
      unfolding follow_in
      follows zero n w s x i h =
          record {
            left = zero;
            taken = n;
            world = w;
            state = s;
            spot = x;
            onward = stays;
            stands = h;
            stops = used_up refl;
            still = i;
          }
      follows (suc k) n w s x i h =
          follows_by k n w s x (goes_in (one x).kept.next (one x).count) refl (follows k) i h

-- a path's end in words
module _ {M : Model} (E : Engine M) where
  pub data EndAs : Machine.End M.Term → Next → Type 0 where
    end_returned : {v : Value M.Term} {x : ℕ} → As E v x → EndAs (returned v) (Returned (x / 4294967296) (x % 4294967296))
    end_failed : {v : Value M.Term} {x : ℕ} → As E v x → EndAs (failed v) (Failed (x / 4294967296) (x % 4294967296))
    end_vanished : EndAs vanished Vanished
    end_erred : (e : Errors.Error) → EndAs (error (error_number e)) (Error e)

  pub end-outcome : {e : Machine.End M.Term} {r : Next} (n : ℕ) → EndAs e r
      → OutcomeAs (As E) (ended e) (outcome_number (end_of r n).outcome) (end_of r n).tag (end_of r n).word
  unfolding end_of
  end-outcome n (end_returned h) = a_return h
  end-outcome n (end_failed h) = a_fail h
  end-outcome n end_vanished = a_vanish
  end-outcome n (end_erred e) = an_error

  pub end-steps : {e : Machine.End M.Term} {r : Next} (n : ℕ) → n < 4294967295 → EndAs e r → (end_of r n).steps ≡ suc n
  unfolding end_of
  end-steps n h (end_returned a) = omega arith
  end-steps n h (end_failed a) = omega arith
  end-steps n h end_vanished = omega arith
  end-steps n h (end_erred e) = omega arith

  -- what a command comes to, with its ends in one
  pub data Came (p : Program) (store : List ℕ) (ds : List (Machine.Cell ℕ)) : Machine.Next M.Term → Next → List ℕ → List (Machine.Cell ℕ) → Type 0 where
    came_on :
        {s : State M.Term} {c : Control} {store' : List ℕ} {ds' : List (Machine.Cell ℕ)}
        → StateAs E p s c store' ds'
        → Came p store ds (on s) (On c) store' ds'
    came_end : {e : Machine.End M.Term} {r : Next} → EndAs e r → Came p store ds (ends e) r store ds
    came_fork :
        {t : M.Term} {x : ℕ} {a b : State M.Term} {ca cb : Control}
        → E.TermAs t x
        → StateAs E p a ca store ds
        → StateAs E p b cb store ds
        → Came p store ds (fork t a b) (Fork (x % 4294967296) ca cb) store ds

  pub came : {p : Program} {store store' : List ℕ} {ds ds' : List (Machine.Cell ℕ)} {x : Machine.Next M.Term} {r : Next}
      → NextAs E p store ds x r store' ds'
      → Came p store ds x r store' ds'
  came (goes_on h) = came_on h
  came (has_returned h) = came_end (end_returned h)
  came (has_failed h) = came_end (end_failed h)
  came has_vanished = came_end end_vanished
  came (has_erred e) = came_end (end_erred e)
  came (has_forked h j k) = came_fork h j k

-- cells as the row writer takes them
module _ {T : Type 0} (TermAs : T → ℕ → Type 0) where
  pub cells-listed : {cs : List (Machine.Cell T)} {ds : List (Machine.Cell ℕ)} → CellsAs TermAs cs ds → (l : List Cell) → map cell_of l ≡ ds
      → Listed (CellAs (ValueAs TermAs)) cs l
  cells-listed no_cells [] e = Held.nothing
  cells-listed no_cells (c ∷ l) e = let z : ◌≡◌ {A = ℕ} 0 1 = cc in absurd (omega arith)
  cells-listed (a_cell h hs) [] e = let z : ◌≡◌ {A = ℕ} 0 1 = cc in absurd (omega arith)
  cells-listed (a_cell {l = a} {q} {x} {v} h hs) (c ∷ l) e =
      let here : cell_of c ≡ record { location = a; property = q; value = term x } = cc in
      let same : term c.value ≡ term x = ap (λ (d : Machine.Cell ℕ). d.value) here in
      let value : c.value ≡ x = cc in
      Held.more {a = record { location = a; property = q; value = v }} {w = c}
      (record {
        location = ap (λ (d : Machine.Cell ℕ). d.location) here;
        property = ap (λ (d : Machine.Cell ℕ). d.property) here;
        value = rw value h;
      })
      (cells-listed hs l (cc))

  slot_variable : {o : Option (Value T)} {y : ℕ} → SlotAs TermAs o y → VariableAs (ValueAs TermAs) o y
  slot_variable unbound = Held.unbound
  slot_variable (bound h) = Held.bound h

-- the row of a path in words
module _ {M : Model} (E : Engine M) (p : Program) (ok : WellFormed p) (place : M.Term → ℕ) (q : Path M.Term) {c : Control} {store : List ℕ}
    {ds : List (Machine.Cell ℕ)} (h : StateAs E p q.state c store ds) (few : length q.state.memory.cells ≤ most_cells) where
  pub row_as : {o : Rows.Outcome M.Term} {n many : ℕ} (e : Ending) {conditions : List ℕ} {cells : List Cell}
      → OutcomeAs (As E) o (outcome_number e.outcome) e.tag e.word
      → e.steps ≡ n
      → many ≡ length q.conditions
      → many ≤ 16
      → Listed (ConditionAs place) q.conditions (take many conditions)
      → map cell_of cells ≡ ds
      → RowAs (As E) place (row_of o n q) (head_in (program_words p) e c many) conditions store c.frame cells
  unfolding row_of head_in
  row_as e {cells} outcome taken size bounded conditions same =
      let there : q.state.control.procedure < length p.procedures = frame.there in
      record {
        outcome = outcome;
        steps = taken;
        procedure = h.procedure;
        command = h.command;
        inputs = h.memory.inputs;
        condition_count = size;
        variable_count =
            ap (λ (f : ℕ). code_word (program_words p) (3 * f + 3)) h.procedure
            ∙ variables-is p ok q.state.control.procedure there
            ∙ sym frame.size;
        within =
            record {
              conditions = omega arith;
              variables = omega (arith, frame.size, (procedure-fits p ok q.state.control.procedure there).few_variables);
              cells = few;
            };
        frame_fits = h.low;
        conditions_held = conditions;
        variables_held = λ x inside.
            slot_variable E.TermAs
            (frame.slots x (omega (arith, frame.size, (procedure-fits p ok q.state.control.procedure there).few_variables)));
        cells_held = cells-listed E.TermAs h.memory.cells cells same;
      }
    where
      frame : FrameAt E.TermAs p store c.frame q.state.control.procedure q.state.variables
      frame = top E.TermAs h.frames

pub few_on_lem : {T : Type 0} {x : Machine.Next T} {s : State T} → FewNext x → x ≡ on s → length s.memory.cells ≤ most_cells
few_on_lem {s} (few_on {s = a} h) e =
    let same : a ≡ s = cc in
    rw same at h
few_on_lem few_end e = let z : ◌≡◌ {A = ℕ} 0 1 = cc in absurd (omega arith)
few_on_lem (few_fork a b) e = let z : ◌≡◌ {A = ℕ} 0 1 = cc in absurd (omega arith)
