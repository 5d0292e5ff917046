-- "One command": the machine, once, over any model of terms, as source 003 makes GIL parametric in the state model. A command is a row
-- of actions by `do`; an action passes the model's world on and gives an answer or an error number. Assumes nothing.
use Rattle.std.specs.Prelude.{ℕ, suc, Bool, true, false, ◌&&◌, ◌||◌, List, [], ◌∷◌, length, get_or, set, replicate, ltb, leb, eqb}
use Rattle.std.proofs.Math.Option.{Option, none, some}
use Rattle.gil.specs.Numbers.{not_bound, wrong_sort, no_such_cell, ninth_frame, seventeenth_input, seventeenth_location, thirty_third_cell, most_frames, most_inputs, most_locations, most_cells}
use Rattle.gil.specs.Tree.{Op, Expr, num, bool, var, neg, bin, Cmd, assign, ifgoto, call, lookup, mutate, dispose, u_sym, i_sym, return, fail, vanish}
use Rattle.gil.specs.Names.{Procedure, Program}
use Rattle.gil.specs.Values.{Constant, number, boolean, location, Sort, numbers, booleans, locations, sort_of, same_sort, Fit, right, wrong, unlike, fit, work, work_not, Value, const, term, Node}
use Rattle.gil.specs.Values as Values

infixl 10 ◌>>=◌
infixl 10 ◌>>◌
-- What a term is, and the world in which terms are made: nothing where all inputs are known, the pool of terms while exploring.
pub record Model : Type 1 where
  pub World : Type 0
  pub Term : Type 0
  pub sort : Term → Sort
  pub made : World → ℕ
  pub make : World → Node Term → World × Value Term

-- a call stack's frame of source 003, ⟨f, x, ρ, i⟩, without its store: the caller, the command it goes on at, the variable it assigns to
pub record Caller : Type 0 where
  pub procedure : ℕ
  pub next : ℕ
  pub target : ℕ

-- where a path stands: no values
pub record Control : Type 0 where
  pub procedure : ℕ
  pub command : ℕ
  pub callers : List Caller

-- what a path has used up, inputs and locations: no values
pub record Counters : Type 0 where
  pub inputs : ℕ
  pub locations : ℕ

-- a frame's variables, bound or not, in order of first appearance
abbrev pub Store : Type 0 → Type 0
Store T = List (Option (Value T))

pub record Cell (T : Type 0) : Type 0 where
  pub location : ℕ
  pub property : ℕ
  pub value : Value T

-- what the actions act on
pub record Memory (T : Type 0) : Type 0 where
  pub counters : Counters
  pub cells : List (Cell T)

-- what an action on the memory gives: the value for its variable, and the memory after it
pub record Answer (T : Type 0) : Type 0 where
  pub value : Value T
  pub memory : Memory T

-- `saved` are the callers' variables, one store for each caller
pub record State (T : Type 0) : Type 0 where
  pub control : Control
  pub variables : Store T
  pub saved : List (Store T)
  pub memory : Memory T

-- "Outcomes: returned, failed, vanished, error" are how a path ends; a cut is no end
pub data End (T : Type 0) : Type 0 where
  returned : Value T → End T
  failed : Value T → End T
  vanished : End T
  error : ℕ → End T

-- what a command comes to: on in a new state, the path's end, or a fork on a term (the state where it is true, and where false)
pub data Next (T : Type 0) : Type 0 where
  on : State T → Next T
  ends : End T → Next T
  fork : T → State T → State T → Next T

-- an action's answer in a world: a value, or an error number; the terms made before an error stay made
pub data Result (W A : Type 0) : Type 0 where
  ok : W → A → Result W A
  err : W → ℕ → Result W A

-- where control goes
unfoldable pub goto : ℕ → Control → Control
goto n c = record { procedure = c.procedure; command = n; callers = c.callers }

unfoldable pub onward : Control → Control
onward c = goto (suc c.command) c

unfoldable pub entered : ℕ → ℕ → Control → Control
entered f x c =
    record {
      procedure = f;
      command = 0;
      callers = record { procedure = c.procedure; next = suc c.command; target = x } ∷ c.callers;
    }

unfoldable pub back_to : Caller → List Caller → Control
back_to k ks = record { procedure = k.procedure; command = k.next; callers = ks }

-- "main is the first" frame
unfoldable pub frames : Control → ℕ
frames c = suc (length c.callers)

-- Commands are found by their procedure and number. In an accepted program they are all there (refusals 6, 7 and 8).
unfoldable pub procedure_at : Program → ℕ → Procedure
procedure_at p f = get_or p.procedures f (record { name = []; variables = 0; body = [] })

unfoldable pub command_at : Program → Control → Cmd ℕ
command_at p c = get_or (procedure_at p c.procedure).body c.command vanish

-- nothing used up; one input or one location more
unfoldable pub unused : Counters
unused = record { inputs = 0; locations = 0 }

unfoldable pub with_input : Counters → Counters
with_input k = record { inputs = suc k.inputs; locations = k.locations }

unfoldable pub with_location : Counters → Counters
with_location k = record { inputs = k.inputs; locations = suc k.locations }

module _ {T : Type 0} where
  -- a memory with other counters, and with other cells
  unfoldable pub counting : (Counters → Counters) → Memory T → Memory T
  counting f m = record { counters = f m.counters; cells = m.cells }

  unfoldable pub with_cells : List (Cell T) → Memory T → Memory T
  with_cells cs m = record { counters = m.counters; cells = cs }

  unfoldable pub steer : (Control → Control) → State T → State T
  steer f s = record { control = f s.control; variables = s.variables; saved = s.saved; memory = s.memory }

  -- a variable assigned, and on to the next command
  unfoldable pub assigned : ℕ → Value T → State T → State T
  assigned x v s =
      record { control = onward s.control; variables = set s.variables x (some v); saved = s.saved; memory = s.memory }

  unfoldable pub with_memory : Memory T → State T → State T
  with_memory m s = record { control = s.control; variables = s.variables; saved = s.saved; memory = m }

  -- an action's answer: its value assigned, its memory kept
  unfoldable pub answered : ℕ → Answer T → State T → State T
  answered x a s = assigned x a.value (with_memory a.memory s)

  -- "a frame in which only the parameter is bound"
  unfoldable pub frame : ℕ → Value T → Store T
  frame n v = set (replicate n none) 0 (some v)

  unfoldable pub top_store : List (Store T) → Store T
  top_store [] = []
  top_store (ρ ∷ ρs) = ρ

  unfoldable pub below_top : List (Store T) → List (Store T)
  below_top [] = []
  below_top (ρ ∷ ρs) = ρs

  -- a frame opened for a call, and closed by a return
  unfoldable pub opened : Program → ℕ → ℕ → Value T → State T → State T
  opened p x f v s =
      record {
        control = entered f x s.control;
        variables = frame (procedure_at p f).variables v;
        saved = s.variables ∷ s.saved;
        memory = s.memory;
      }

  unfoldable pub closed : Caller → List Caller → Value T → State T → State T
  closed k ks v s =
      record {
        control = back_to k ks;
        variables = set (top_store s.saved) k.target (some v);
        saved = below_top s.saved;
        memory = s.memory;
      }

  -- "return in the first frame ends the run, in any other it assigns to the caller's variable and goes on after the call"
  unfoldable pub returns_to : List Caller → Value T → State T → Next T
  returns_to [] v s = ends (returned v)
  returns_to (k ∷ ks) v s = on (closed k ks v s)

  -- "Cells are kept in order of location, then of property by its first place in the text"
  unfoldable pub is_at : ℕ → ℕ → Cell T → Bool
  is_at l q c = eqb l c.location && eqb q c.property

  unfoldable pub is_before : ℕ → ℕ → Cell T → Bool
  is_before l q c = ltb l c.location || eqb l c.location && ltb q c.property

  unfoldable pub cell_at : ℕ → ℕ → List (Cell T) → Option (Value T)
  cell_at l q [] = none
  cell_at l q (c ∷ cs) = elim (is_at l q c) [ true ↦ some c.value | false ↦ cell_at l q cs ]

  -- "`mutate` writes the cell, adding it if absent"
  unfoldable pub put_cell : ℕ → ℕ → Value T → List (Cell T) → List (Cell T)
  put_cell l q v [] = record { location = l; property = q; value = v } ∷ []
  put_cell l q v (c ∷ cs) =
      elim (is_at l q c) [
        | true ↦ record { location = l; property = q; value = v } ∷ cs
        | false ↦ elim (is_before l q c) [
          | true ↦ record { location = l; property = q; value = v } ∷ c ∷ cs
          | false ↦ c ∷ put_cell l q v cs
        ]
      ]

  -- "`dispose` removes all cells of the location, also if there are none"
  unfoldable pub without_cells : ℕ → List (Cell T) → List (Cell T)
  without_cells l [] = []
  without_cells l (c ∷ cs) = elim (eqb l c.location) [ true ↦ without_cells l cs | false ↦ c ∷ without_cells l cs ]

  -- "`main` starts with its parameter at 0"
  unfoldable pub start : Program → State T
  start p =
      record {
        control = record { procedure = p.main; command = 0; callers = [] };
        variables = frame (procedure_at p p.main).variables (const (number 0));
        saved = [];
        memory = record { counters = unused; cells = [] };
      }

module _ (M : Model) where
  abbrev pub Act : Type 0 → Type 0
  Act A = M.World → Result M.World A

  abbrev pub Val : Type 0
  Val = Value M.Term

-- actions in a row, by `do`: an error ends them
module _ {W : Type 0} where
  unfoldable pub and_then : {A B : Type 0} → Result W A → (A → W → Result W B) → Result W B
  and_then (ok w a) f = f a w
  and_then (err w n) f = err w n

  unfoldable pub ◌>>=◌ : {A B : Type 0} → (W → Result W A) → (A → W → Result W B) → W → Result W B
  ◌>>=◌ m f w = and_then (m w) f

  unfoldable pub ◌>>◌ : {A B : Type 0} → (W → Result W A) → (W → Result W B) → W → Result W B
  ◌>>◌ m f w = and_then (m w) (λ a. f)

  unfoldable pub give : {A : Type 0} → A → W → Result W A
  give a w = ok w a

  unfoldable pub stop : {A : Type 0} → ℕ → W → Result W A
  stop n w = err w n

  -- an error number where a test fails; where there is nothing
  unfoldable pub must : Bool → ℕ → W → Result W (Unit {0})
  must true n = give tt
  must false n = stop n

  unfoldable pub there : {A : Type 0} → Option A → ℕ → W → Result W A
  there none n = stop n
  there (some a) n = give a

module _ (M : Model) where
  unfoldable pub sort_in : Val M → Sort
  sort_in (const c) = sort_of c
  sort_in (term t) = M.sort t

  unfoldable pub making : Node M.Term → Act M (Val M)
  making n w = let r = M.make w n in ok r.0 r.1

  -- "An operator is worked out at once exactly if all its operands are constants"; "Otherwise, where the sorts are right, it makes one term"
  unfoldable pub combine : Op → Val M → Val M → Act M (Val M)
  combine o (const a) (const b) = give (const (work o a b))
  combine o (const a) (term u) = making (Values.bin o (const a) (term u))
  combine o (term t) (const b) = making (Values.bin o (term t) (const b))
  combine o (term t) (term u) = making (Values.bin o (term t) (term u))

  -- "or if it is `=` on two sorts, which is the constant false"
  unfoldable pub fitted : Fit → Op → Val M → Val M → Act M (Val M)
  fitted right o a b = combine o a b
  fitted wrong o a b = stop wrong_sort
  fitted unlike o a b = give (const (boolean false))

  unfoldable pub operate : Op → Val M → Val M → Act M (Val M)
  operate o a b = fitted (fit o (sort_in a) (sort_in b)) o a b

  unfoldable pub negated : Val M → Act M (Val M)
  negated (const c) = give (const (work_not c))
  negated (term t) = making (Values.neg (term t))

  unfoldable pub negate : Val M → Act M (Val M)
  negate a = do
    must (same_sort booleans (sort_in a)) wrong_sort
    negated a

  -- "Both operands are always evaluated, left first, and only then are their sorts tested."
  unfoldable pub eval : Store M.Term → Expr ℕ → Act M (Val M)
  eval ρ (num n) = give (const (number n))
  eval ρ (bool b) = give (const (boolean b))
  eval ρ (var x) = there (get_or ρ x none) not_bound
  eval ρ (neg e) = do
    a ← eval ρ e
    negate a
  eval ρ (bin o e d) = do
    a ← eval ρ e
    b ← eval ρ d
    operate o a b

  -- "an action's first operand a location"
  unfoldable pub the_location : Val M → Act M ℕ
  the_location (const (number n)) = stop wrong_sort
  the_location (const (boolean b)) = stop wrong_sort
  the_location (const (location l)) = give l
  the_location (term t) = stop wrong_sort

  -- "`ifgoto` on true goes to n, on false to the next command"; "a number term is error 2"
  unfoldable pub jump : ℕ → State M.Term → Val M → Act M (Next M.Term)
  jump n s (const (number k)) = stop wrong_sort
  jump n s (const (boolean true)) = give (on (steer (goto n) s))
  jump n s (const (boolean false)) = give (on (steer onward s))
  jump n s (const (location l)) = stop wrong_sort
  jump n s (term t) = must (same_sort booleans (M.sort t)) wrong_sort >> give (fork t (steer (goto n) s) (steer onward s))

  -- The actions on the memory: each gives its answer or errs, whatever control goes with it. The site j changes nothing.
  -- "`lookup` gives the cell's value"
  unfoldable pub looked_up : (l q : ℕ) → Memory M.Term → Act M (Answer M.Term)
  looked_up l q m = do
    v ← there (cell_at l q m.cells) no_such_cell
    give (record { value = v; memory = m })

  -- "`mutate` writes the cell, adding it if absent"; "Both of the last give `true`"
  unfoldable pub written : (l q : ℕ) → Val M → Memory M.Term → Act M (Answer M.Term)
  written l q v m = do
    must (leb (length (put_cell l q v m.cells)) most_cells) thirty_third_cell
    give (record { value = const (boolean true); memory = with_cells (put_cell l q v m.cells) m })

  -- "`dispose` removes all cells of the location"
  unfoldable pub dropped : (l : ℕ) → Memory M.Term → Act M (Answer M.Term)
  dropped l m = give (record { value = const (boolean true); memory = with_cells (without_cells l m.cells) m })

  -- "`uSym` gives the next location of this path"
  unfoldable pub fresh_location : (j : ℕ) → Memory M.Term → Act M (Answer M.Term)
  fresh_location j m = do
    must (ltb m.counters.locations most_locations) seventeenth_location
    give (record { value = const (location m.counters.locations); memory = counting with_location m })

  -- "`iSym` the next input, always a number"
  unfoldable pub fresh_input : (j : ℕ) → Memory M.Term → Act M (Answer M.Term)
  fresh_input j m = do
    must (ltb m.counters.inputs most_inputs) seventeenth_input
    v ← making (Values.input m.counters.inputs)
    give (record { value = v; memory = counting with_input m })

  unfoldable pub exec : Program → State M.Term → Cmd ℕ → Act M (Next M.Term)
  exec p s (assign x e) = do
    v ← eval s.variables e
    give (on (assigned x v s))
  exec p s (ifgoto e n) = do
    v ← eval s.variables e
    jump n s v
  exec p s (call x f e) = do
    v ← eval s.variables e
    must (ltb (frames s.control) most_frames) ninth_frame
    give (on (opened p x f v s))
  exec p s (lookup x e q) = do
    v ← eval s.variables e
    l ← the_location v
    a ← looked_up l q s.memory
    give (on (answered x a s))
  exec p s (mutate x e q d) = do
    v ← eval s.variables e
    u ← eval s.variables d
    l ← the_location v
    a ← written l q u s.memory
    give (on (answered x a s))
  exec p s (dispose x e) = do
    v ← eval s.variables e
    l ← the_location v
    a ← dropped l s.memory
    give (on (answered x a s))
  exec p s (u_sym x j) = do
    a ← fresh_location j s.memory
    give (on (answered x a s))
  exec p s (i_sym x j) = do
    a ← fresh_input j s.memory
    give (on (answered x a s))
  exec p s (return e) = do
    v ← eval s.variables e
    give (returns_to s.control.callers v s)
  exec p s (fail e) = do
    v ← eval s.variables e
    give (ends (failed v))
  exec p s vanish = give (ends vanished)

-- one command's outcome: the world after it, and what comes next
pub record Moved (M : Model) : Type 0 where
  pub world : M.World
  pub next : Next M.Term

unfoldable pub settled : (M : Model) → Result M.World (Next M.Term) → Moved M
settled M (ok w n) = record { world = w; next = n }
settled M (err w n) = record { world = w; next = ends (error n) }

unfoldable pub move : (M : Model) → Program → M.World → State M.Term → Moved M
move M p w s = settled M (exec M p s (command_at p s.control) w)
