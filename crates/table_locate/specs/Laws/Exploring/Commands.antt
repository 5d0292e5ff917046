-- Over a sound pool every operator, expression and command of a well-formed program gives what fits the pool as it then is.
-- Assumes nothing.
use Rattle.std.specs.Prelude.{ℕ, zero, suc, ◌+◌, ◌-◌, ◌%◌, ◌≤◌, ◌<◌, ◌≡◌, Bool, true, false, get_or, set, replicate, ltb, leb, eqb}
use native.Mathlib.Omega.{arith}
use Rattle.std.proofs.Math.Path.{refl}
use Rattle.std.proofs.Common.{sym, subst, length-append, length-set}
use mathlib.Core.List.{List, [], ◌∷◌, ◌++◌}
use Rattle.std.proofs.Math.Option.{none, some}
use Rattle.std.proofs.Math.ListN.{length, get_or-eq_default}
use Rattle.std.proofs.lemmas.List.{length-replicate}
use borrow.Author.Tests.{ltb-true, ltb-false, leb-true}
use Rattle.gil.specs.Numbers.{most_commands, most_variables, most_properties, most_frames, most_inputs, most_locations, most_cells, not_bound, no_such_cell, ninth_frame, seventeenth_input, seventeenth_location, thirty_third_cell}
use Rattle.gil.specs.Tree.{Op, plus, minus, equal, less, and, or, Expr, Cmd, vanish}
use Rattle.gil.specs.Names.{gather, Procedure, Program}
use Rattle.gil.specs.Values.{Constant, number, booleans, sort_of, number_in, same_sort, Fit, right, wrong, unlike, fit, work, work_not, Value, const, term, Node}
use Rattle.gil.specs.Machine.{Caller, Control, Counters, Store, Cell, Memory, Answer, State, End, Next, on, ends, fork, Result, and_then, ◌>>=◌, ◌>>◌, give, stop, must, there, sort_in, making, combine, fitted, operate, negated, negate, eval, frames, goto, onward, entered, back_to, with_input, with_location, counting, procedure_at, command_at, steer, assigned, with_memory, answered, with_cells, frame, top_store, below_top, opened, closed, returns_to, is_at, is_before, cell_at, put_cell, without_cells, the_location, jump, looked_up, written, dropped, fresh_location, fresh_input, exec}
use Rattle.gil.specs.Pool.{Ref, number_term, boolean_term, ref_sort, Pool, added, pooled}
use Rattle.gil.proofs.Theory.Tests.{chosen}
use Rattle.machine_code.specs.Code.{all_commands}
use Rattle.machine_code.specs.WellFormed as WellFormed
use Rattle.machine_code.specs.WellFormed.{Each, ExprFits, CmdFits, ProcedureFits, WellFormed}
use Rattle.machine_code.proofs.Accepted.Lists.{each_to}
use Rattle.table_locate.specs.Laws.Sound.{value_sort, RefFits, ValueFits, fits_number, fits_truth, fits_location, fits_term, NodeFits, fits_input, fits_not, fits_op, TermsFit, VariableFits, unbound, bound, StoreFits, CellFits, CellsFit, EndFits, fits_returned, fits_failed, fits_vanished}
use Rattle.table_locate.specs.Laws.Exploring.Growing.{Grows, same-pool, then_grows, value_grows, variable_grows, store-grows, cells-grow, made-grows, made-fits, made_after, Gives, gives, then-gives, wrong_sort_lem, must-give, there-gives}

-- The machine over pools
abbrev making_p : Node Ref → Pool → Result Pool (Value Ref)
unfolding pooled
making_p = making pooled

abbrev combine_p : Op → Value Ref → Value Ref → Pool → Result Pool (Value Ref)
unfolding pooled
combine_p = combine pooled

abbrev fitted_p : Fit → Op → Value Ref → Value Ref → Pool → Result Pool (Value Ref)
unfolding pooled
fitted_p = fitted pooled

abbrev operate_p : Op → Value Ref → Value Ref → Pool → Result Pool (Value Ref)
unfolding pooled
operate_p = operate pooled

abbrev negate_p : Value Ref → Pool → Result Pool (Value Ref)
unfolding pooled
negate_p = negate pooled

unfoldable abbrev pub eval_p : Store Ref → Expr ℕ → Pool → Result Pool (Value Ref)
unfolding pooled
eval_p = eval pooled

-- Operators
make-gives : {w : Pool} {n : Node Ref} → TermsFit [] w → NodeFits w n → Gives ValueFits w (making_p n w)
unfolding pooled making added
make-gives {w} {n} t f = gives (made-grows w n) (made_after t f) (fits_term (made-fits w n))

wrapped : {w : Pool} (n : ℕ) → ValueFits w (const (number (n % 4294967296)))
wrapped n = fits_number {n = n % 4294967296} (omega arith)

work-fits : {w : Pool} (o : Op) (a b : Constant) → ValueFits w (const (work o a b))
unfolding work
work-fits plus a b = wrapped (number_in a + number_in b)
work-fits minus a b = wrapped (number_in a + 4294967296 - number_in b)
work-fits equal a b = fits_truth
work-fits less a b = fits_truth
work-fits and a b = fits_truth
work-fits or a b = fits_truth

combine-gives :
    {w : Pool} (o : Op) (a b : Value Ref) → TermsFit [] w → ValueFits w a → ValueFits w b → fit o (value_sort a) (value_sort b) ≡ right
    → Gives ValueFits w (combine_p o a b w)
unfolding pooled combine give
combine-gives {w} o (const a) (const b) t f g e = gives (same-pool w) t (work-fits o a b)
combine-gives {w} o (const a) (term u) t f g e = make-gives t (fits_op f g e)
combine-gives {w} o (term r) (const b) t f g e = make-gives t (fits_op f g e)
combine-gives {w} o (term r) (term u) t f g e = make-gives t (fits_op f g e)

fitted-gives :
    {w : Pool} (x : Fit) (o : Op) (a b : Value Ref) → TermsFit [] w → ValueFits w a → ValueFits w b → fit o (value_sort a) (value_sort b) ≡ x
    → Gives ValueFits w (fitted_p x o a b w)
unfolding pooled fitted give stop
fitted-gives {w} right o a b t f g e = combine-gives o a b t f g e
fitted-gives {w} wrong o a b t f g e = wrong_sort_lem t
fitted-gives {w} unlike o a b t f g e = gives (same-pool w) t fits_truth

operate-gives :
    {w : Pool} (o : Op) (a b : Value Ref) → TermsFit [] w → ValueFits w a → ValueFits w b → Gives ValueFits w (operate_p o a b w)
unfolding pooled operate sort_in value_sort
operate-gives o (const a) (const b) t f g = fitted-gives (fit o (sort_of a) (sort_of b)) o (const a) (const b) t f g refl
operate-gives o (const a) (term u) t f g = fitted-gives (fit o (sort_of a) (ref_sort u)) o (const a) (term u) t f g refl
operate-gives o (term r) (const b) t f g = fitted-gives (fit o (ref_sort r) (sort_of b)) o (term r) (const b) t f g refl
operate-gives o (term r) (term u) t f g = fitted-gives (fit o (ref_sort r) (ref_sort u)) o (term r) (term u) t f g refl

negate-gives : {w : Pool} {a : Value Ref} → TermsFit [] w → ValueFits w a → Gives ValueFits w (negate_p a w)
unfolding pooled negate negated sort_in sort_of ref_sort same_sort must give stop and_then ◌>>◌ work_not value_sort
negate-gives {w} t (fits_number h) = wrong_sort_lem t
negate-gives {w} t fits_truth = gives (same-pool w) t fits_truth
negate-gives {w} t (fits_location h) = wrong_sort_lem t
negate-gives {w} t (fits_term {r = number_term k} f) = wrong_sort_lem t
negate-gives {w} t (fits_term {r = boolean_term k} f) = make-gives t (fits_not (fits_term f) refl)

-- Expressions
each_at : {A : Type 0} {P : A → Type 0} {l : List A} (d : A) (i : ℕ) → Each P l → P d → P (get_or l i d)
each_at d i WellFormed.none p = p
each_at d zero (WellFormed.more q qs) p = q
each_at d (suc i) (WellFormed.more q qs) p = each_at d i qs p

pub each_more : {A : Type 0} {P : A → Type 0} {a : A} {l : List A} → Each P l → P a → Each P (l ++ (a ∷ []))
each_more WellFormed.none p = WellFormed.more p WellFormed.none
each_more (WellFormed.more q qs) p = WellFormed.more q (each_more qs p)

each_in : {A : Type 0} {P : A → Type 0} {l : List A} (d : A) (i : ℕ) → Each P l → i < length l → P (get_or l i d)
each_in d i WellFormed.none h = absurd (omega arith)
each_in d zero (WellFormed.more q qs) h = q
each_in d (suc i) (WellFormed.more q qs) h = each_in d i qs (omega arith)

pub eval-gives :
    {variables d : ℕ} {w : Pool} {ρ : Store Ref} {e : Expr ℕ}
    → TermsFit [] w
    → Each (VariableFits w) ρ
    → ExprFits variables d e
    → Gives ValueFits w (eval_p ρ e w)
unfolding pooled eval give ◌>>=◌
eval-gives {w = w} t f (WellFormed.a_number h) = gives (same-pool w) t (fits_number h)
eval-gives {w = w} t f WellFormed.a_truth = gives (same-pool w) t fits_truth
eval-gives {w = w} t f (WellFormed.a_variable {x = x} h) = there-gives not_bound t (omega arith) (omega arith) (each_at none x f unbound)
eval-gives {w = w} t f (WellFormed.a_not e) = then-gives (eval-gives t f e) (λ u a g s p. negate-gives s p)
eval-gives {w = w} t f (WellFormed.an_operator {o = o} e d) =
    then-gives (eval-gives t f e) (λ u a g s p.
    then-gives (eval-gives s (each_to (variable_grows g) f) d) (λ v b h r q. operate-gives o a b r (value_grows h p) q))

nowhere : Procedure
nowhere = record { name = []; variables = 0; body = [] }

body-short : (l : List Procedure) (h : ℕ) → h < length l → length (get_or l h nowhere).body ≤ length (gather (λ q. q.body) l)
unfolding gather
body-short [] h there = absurd (omega arith)
body-short (q ∷ l) zero there = simp length-append (omega arith)
body-short (q ∷ l) (suc h) there =
    let i : h < length l = omega arith in
    let shorter : length (get_or l h nowhere).body ≤ length (gather (λ q. q.body) l) = body-short l h i in
    simp length-append (omega arith)

-- Cells
module _ {w : Pool} (l q : ℕ) where
  cell-there : {cs : List (Cell Ref)} → Each (CellFits w) cs → VariableFits w (cell_at l q cs)
  unfolding cell_at
  cell-there WellFormed.none = unbound
  cell-there (WellFormed.more {a = c} f fs) = chosen (VariableFits w) (is_at l q c) (λ e. bound f.value) (λ e. cell-there fs)

  put-fits :
      {v : Value Ref} {cs : List (Cell Ref)} → l < most_locations → q < most_properties → ValueFits w v → Each (CellFits w) cs → Each (CellFits w) (put_cell l q v cs)
  unfolding put_cell
  put-fits h i g WellFormed.none = WellFormed.more (record { location = h; property = i; value = g }) WellFormed.none
  put-fits {v} h i g (WellFormed.more {a = c} {l = cs} f fs) =
      chosen (Each (CellFits w)) (is_at l q c)
      (λ e. WellFormed.more (record { location = h; property = i; value = g }) fs)
      (λ e.
      chosen (Each (CellFits w)) (is_before l q c)
      (λ d. WellFormed.more (record { location = h; property = i; value = g }) (WellFormed.more f fs))
      (λ d. WellFormed.more f (put-fits h i g fs)))

without_fits : {w : Pool} {cs : List (Cell Ref)} (l : ℕ) → Each (CellFits w) cs → Each (CellFits w) (without_cells l cs)
unfolding without_cells
without_fits l WellFormed.none = WellFormed.none
without_fits {w} l (WellFormed.more {a = c} f fs) =
    chosen (Each (CellFits w)) (eqb l c.location) (λ e. without_fits l fs) (λ e. WellFormed.more f (without_fits l fs))

without_fewer : (l : ℕ) (cs : List (Cell Ref)) → length (without_cells l cs) ≤ length cs
unfolding without_cells
without_fewer l [] = omega arith
without_fewer l (c ∷ cs) =
    let h : length (without_cells l cs) ≤ length cs = without_fewer l cs in
    chosen (λ (ds : List (Cell Ref)). length ds ≤ suc (length cs)) (eqb l c.location) (λ e. omega arith) (λ e. omega arith)

-- Variables
each_set : {A : Type 0} {P : A → Type 0} {a : A} {l : List A} (i : ℕ) → Each P l → P a → Each P (set l i a)
each_set i WellFormed.none p = WellFormed.none
each_set zero (WellFormed.more q qs) p = WellFormed.more p qs
each_set (suc i) (WellFormed.more q qs) p = WellFormed.more q (each_set i qs p)

set-fits : {w : Pool} {ρ : Store Ref} {v : Value Ref} (x : ℕ) → StoreFits w ρ → ValueFits w v → StoreFits w (set ρ x (some v))
set-fits {ρ = ρ} {v} x f g =
    record {
      some_variable = rw (length-set ρ x (some v)) f.some_variable;
      few_variables = rw (length-set ρ x (some v)) f.few_variables;
      variables = each_set x f.variables (bound g);
    }

all-unbound : {w : Pool} (n : ℕ) → Each (VariableFits w) (replicate n none)
all-unbound zero = WellFormed.none
all-unbound (suc n) = WellFormed.more unbound (all-unbound n)

pub frame-fits : {w : Pool} {v : Value Ref} (n : ℕ) → 1 ≤ n → n ≤ most_variables → ValueFits w v → StoreFits w (frame n v)
unfolding frame
frame-fits n h i g =
    set-fits 0
    (record { some_variable = rw length-replicate h; few_variables = rw length-replicate i; variables = all-unbound n })
    g

-- A memory, and what an action on it gives
pub record CountersFit (k : Counters) : Type 0 where
  pub inputs : k.inputs ≤ most_inputs
  pub locations : k.locations ≤ most_locations

pub record MemoryFits (w : Pool) (m : Memory Ref) : Type 0 where
  pub counters : CountersFit m.counters
  pub cells : CellsFit w m.cells

pub record AnswerFits (w : Pool) (a : Answer Ref) : Type 0 where
  pub value : ValueFits w a.value
  pub memory : MemoryFits w a.memory

memory-grows : {w u : Pool} {m : Memory Ref} → Grows w u → MemoryFits w m → MemoryFits u m
memory-grows g f = record { counters = f.counters; cells = cells-grow g f.cells }

abbrev looked_up_p : (l q : ℕ) → Memory Ref → Pool → Result Pool (Answer Ref)
unfolding pooled
looked_up_p = looked_up pooled

abbrev written_p : (l q : ℕ) → Value Ref → Memory Ref → Pool → Result Pool (Answer Ref)
unfolding pooled
written_p = written pooled

abbrev dropped_p : (l : ℕ) → Memory Ref → Pool → Result Pool (Answer Ref)
unfolding pooled
dropped_p = dropped pooled

abbrev fresh_location_p : (j : ℕ) → Memory Ref → Pool → Result Pool (Answer Ref)
unfolding pooled
fresh_location_p = fresh_location pooled

abbrev fresh_input_p : (j : ℕ) → Memory Ref → Pool → Result Pool (Answer Ref)
unfolding pooled
fresh_input_p = fresh_input pooled

module _ {w : Pool} {m : Memory Ref} (t : TermsFit [] w) (f : MemoryFits w m) where
  looked_up-gives : (l q : ℕ) → Gives AnswerFits w (looked_up_p l q m w)
  unfolding pooled looked_up give ◌>>=◌
  looked_up-gives l q =
      then-gives (there-gives no_such_cell t (omega arith) (omega arith) (cell-there l q f.cells.cells)) (λ u v g r a.
      gives (same-pool u) r (record { value = a; memory = memory-grows g f }))

  written-gives : (l q : ℕ) {v : Value Ref} → l < most_locations → q < most_properties → ValueFits w v → Gives AnswerFits w (written_p l q v m w)
  unfolding pooled written give ◌>>◌ with_cells
  written-gives l q {v} h i a =
      let cs = put_cell l q v m.cells in
      then-gives (must-give (leb (length cs) most_cells) thirty_third_cell t (omega arith) (omega arith)) (λ u y g r e.
      let here : MemoryFits u m = memory-grows g f in
      let cells : CellsFit u cs =
      record { few_cells = leb-true (length cs) most_cells e; cells = put-fits l q h i (value_grows g a) here.cells.cells } in
      gives (same-pool u) r (record { value = fits_truth; memory = record { counters = f.counters; cells = cells } }))

  dropped-gives : (l : ℕ) → Gives AnswerFits w (dropped_p l m w)
  unfolding pooled dropped give with_cells
  dropped-gives l =
      let few : length (without_cells l m.cells) ≤ most_cells = omega (arith, without_fewer l m.cells, f.cells.few_cells) in
      let cells : CellsFit w (without_cells l m.cells) = record { few_cells = few; cells = without_fits l f.cells.cells } in
      gives (same-pool w) t (record { value = fits_truth; memory = record { counters = f.counters; cells = cells } })

  fresh_location-gives : (j : ℕ) → Gives AnswerFits w (fresh_location_p j m w)
  unfolding pooled fresh_location give ◌>>◌ counting with_location
  fresh_location-gives j =
      then-gives (must-give (ltb m.counters.locations most_locations) seventeenth_location t (omega arith) (omega arith)) (λ u y g r e.
      let few : m.counters.locations < most_locations = ltb-true m.counters.locations most_locations e in
      let here : MemoryFits u m = memory-grows g f in
      gives (same-pool u) r
      (record {
        value = fits_location few;
        memory = record { counters = record { inputs = f.counters.inputs; locations = few }; cells = here.cells };
      }))

  fresh_input-gives : (j : ℕ) → Gives AnswerFits w (fresh_input_p j m w)
  unfolding pooled fresh_input give ◌>>◌ ◌>>=◌ counting with_input
  fresh_input-gives j =
      then-gives (must-give (ltb m.counters.inputs most_inputs) seventeenth_input t (omega arith) (omega arith)) (λ u y g r e.
      let few : m.counters.inputs < most_inputs = ltb-true m.counters.inputs most_inputs e in
      then-gives (make-gives r (fits_input few)) (λ u' v g' r' q.
      let here : MemoryFits u' m = memory-grows (then_grows g g') f in
      gives (same-pool u') r'
      (record {
        value = q;
        memory = record { counters = record { inputs = few; locations = f.counters.locations }; cells = here.cells };
      })))

-- A state of a program, and what comes next
module _ (p : Program) where
  pub data SavedFit (w : Pool) : List Caller → List (Store Ref) → Type 0 where
    no_caller : SavedFit w [] []
    next_caller :
        {k : Caller} {ks : List Caller} {ρ : Store Ref} {ρs : List (Store Ref)}
        → k.procedure < length p.procedures
        → k.next < 4294967296
        → StoreFits w ρ
        → SavedFit w ks ρs
        → SavedFit w (k ∷ ks) (ρ ∷ ρs)

  pub record ControlFits (c : Control) : Type 0 where
    pub procedure : c.procedure < length p.procedures
    pub command : c.command < 4294967296

  pub record StateFits (w : Pool) (s : State Ref) : Type 0 where
    pub control : ControlFits s.control
    pub variables : StoreFits w s.variables
    pub saved : SavedFit w s.control.callers s.saved
    pub memory : MemoryFits w s.memory

  pub data NextFits (w : Pool) : Next Ref → Type 0 where
    fits_on : {s : State Ref} → StateFits w s → NextFits w (on s)
    fits_ends : {e : End Ref} → EndFits w e → NextFits w (ends e)
    fits_fork :
        {t : Ref} {a b : State Ref} → RefFits w t → ref_sort t ≡ booleans → StateFits w a → StateFits w b → NextFits w (fork t a b)

  saved-grows : {w u : Pool} {ks : List Caller} {ρs : List (Store Ref)} → Grows w u → SavedFit w ks ρs → SavedFit u ks ρs
  saved-grows g no_caller = no_caller
  saved-grows g (next_caller h i f fs) = next_caller h i (store-grows g f) (saved-grows g fs)

  pub state-grows : {w u : Pool} {s : State Ref} → Grows w u → StateFits w s → StateFits u s
  state-grows g f =
      record {
        control = f.control;
        variables = store-grows g f.variables;
        saved = saved-grows g f.saved;
        memory = memory-grows g f.memory;
      }

  module _ {w : Pool} {s : State Ref} (f : StateFits w s) where
    -- a variable assigned, cells changed, a jump
    goto-fits : (n : ℕ) → n < 4294967296 → StateFits w (steer (goto n) s)
    unfolding steer goto
    goto-fits n h =
        record {
          control = record { procedure = f.control.procedure; command = h };
          variables = f.variables;
          saved = f.saved;
          memory = f.memory;
        }

    assigned-fits : {v : Value Ref} (x : ℕ) → suc s.control.command < 4294967296 → ValueFits w v → StateFits w (assigned x v s)
    unfolding assigned onward goto
    assigned-fits x h g =
        record {
          control = record { procedure = f.control.procedure; command = h };
          variables = set-fits x f.variables g;
          saved = f.saved;
          memory = f.memory;
        }

    answered-fits :
        {a : Answer Ref} (x : ℕ) → suc s.control.command < 4294967296 → AnswerFits w a → StateFits w (answered x a s)
    unfolding answered assigned with_memory onward goto
    answered-fits x h g =
        record {
          control = record { procedure = f.control.procedure; command = h };
          variables = set-fits x f.variables g.value;
          saved = f.saved;
          memory = g.memory;
        }

    opened-fits :
        {v : Value Ref} (x h : ℕ) → suc s.control.command < 4294967296 → h < length p.procedures
        → ProcedureFits (length p.procedures) (procedure_at p h) → ValueFits w v → StateFits w (opened p x h v s)
    unfolding opened entered
    opened-fits x h after there fits g =
        record {
          control = record { procedure = there; command = omega arith };
          variables = frame-fits (procedure_at p h).variables fits.some_variable fits.few_variables g;
          saved = next_caller f.control.procedure after f.variables f.saved;
          memory = f.memory;
        }

  top-fits :
      {w : Pool} {k : Caller} {ks : List Caller} {ρs : List (Store Ref)} → SavedFit w (k ∷ ks) ρs
      → (k.procedure < length p.procedures) × (k.next < 4294967296) × StoreFits w (top_store ρs) × SavedFit w ks (below_top ρs)
  unfolding top_store below_top
  top-fits (next_caller h i f fs) = (h, i, f, fs)

  returns-fits :
      {w : Pool} {s : State Ref} {v : Value Ref} (ks : List Caller)
      → StateFits w s
      → SavedFit w ks s.saved
      → ValueFits w v
      → NextFits w (returns_to ks v s)
  unfolding returns_to closed back_to
  returns-fits [] f r g = fits_ends (fits_returned g)
  returns-fits (k ∷ ks) f r g =
      let (h, i, top, below) = top-fits r in
      fits_on
      (record {
        control = record { procedure = h; command = i };
        variables = set-fits k.target top g;
        saved = below;
        memory = f.memory;
      })

  abbrev location_p : Value Ref → Pool → Result Pool ℕ
  unfolding pooled
  location_p = the_location pooled

  abbrev jump_p : ℕ → State Ref → Value Ref → Pool → Result Pool (Next Ref)
  unfolding pooled
  jump_p = jump pooled

  unfoldable abbrev pub exec_p : State Ref → Cmd ℕ → Pool → Result Pool (Next Ref)
  unfolding pooled
  exec_p = exec pooled p

  -- Commands
  location-gives : {w : Pool} {v : Value Ref} → TermsFit [] w → ValueFits w v → Gives (λ u l. l < most_locations) w (location_p v w)
  unfolding pooled the_location give stop
  location-gives {w} t (fits_number h) = wrong_sort_lem t
  location-gives {w} t fits_truth = wrong_sort_lem t
  location-gives {w} t (fits_location h) = gives (same-pool w) t h
  location-gives {w} t (fits_term f) = wrong_sort_lem t

  jump-gives :
      {w : Pool} {s : State Ref} {v : Value Ref} (n : ℕ)
      → TermsFit [] w
      → StateFits w s
      → suc s.control.command < 4294967296
      → n < 4294967296
      → ValueFits w v
      → Gives NextFits w (jump_p n s v w)
  unfolding pooled jump give stop must and_then ◌>>◌ same_sort ref_sort onward steer
  jump-gives {w} n t f after h (fits_number i) = wrong_sort_lem t
  jump-gives {w} {s} n t f after h (fits_truth {b = true}) = gives (same-pool w) t (fits_on (goto-fits f n h))
  jump-gives {w} {s} n t f after h (fits_truth {b = false}) = gives (same-pool w) t (fits_on (goto-fits f (suc s.control.command) after))
  jump-gives {w} n t f after h (fits_location i) = wrong_sort_lem t
  jump-gives {w} n t f after h (fits_term {r = number_term k} g) = wrong_sort_lem t
  jump-gives {w} {s} n t f after h (fits_term {r = boolean_term k} g) =
      gives (same-pool w) t (fits_fork g refl (goto-fits f n h) (goto-fits f (suc s.control.command) after))

  answer-gives :
      {w : Pool} {s : State Ref} {m : Result Pool (Answer Ref)} (x : ℕ)
      → suc s.control.command < 4294967296
      → StateFits w s
      → Gives AnswerFits w m
      → Gives NextFits w (and_then m (λ a. give (on (answered x a s))))
  unfolding give
  answer-gives x after f h = then-gives h (λ u a g r q. gives (same-pool u) r (fits_on (answered-fits (state-grows g f) x after q)))

  module _ (well_formed : WellFormed p) where
    pub procedure-fits : (h : ℕ) → h < length p.procedures → ProcedureFits (length p.procedures) (procedure_at p h)
    unfolding procedure_at
    procedure-fits h there = each_in _ h well_formed.procedures there

    pub exec-gives :
        {w : Pool} {s : State Ref} {c : Cmd ℕ} {variables : ℕ}
        → TermsFit [] w
        → StateFits w s
        → suc s.control.command < 4294967296
        → CmdFits variables (length p.procedures) c
        → Gives NextFits w (exec_p s c w)
    unfolding pooled exec give ◌>>=◌ ◌>>◌
    exec-gives {s = s} t f after (WellFormed.an_assign {x} h i) =
        then-gives (eval-gives t f.variables.variables i) (λ u v g r q.
        gives (same-pool u) r (fits_on (assigned-fits (state-grows g f) x after q)))
    exec-gives {s = s} t f after (WellFormed.a_jump {n} i h) =
        then-gives (eval-gives t f.variables.variables i) (λ u v g r q. jump-gives n r (state-grows g f) after h q)
    exec-gives {s = s} t f after (WellFormed.a_call {x} {f = h} i j k) =
        then-gives (eval-gives t f.variables.variables k) (λ u v g r q.
        then-gives (must-give (ltb (frames s.control) most_frames) ninth_frame r (omega arith) (omega arith)) (λ u' y g' r' e.
        let here : StateFits u' s = state-grows (then_grows g g') f in
        gives (same-pool u') r' (fits_on (opened-fits here x h after j (procedure-fits h j) (value_grows g' q)))))
    exec-gives {s = s} t f after (WellFormed.a_lookup {x} {q} i j k) =
        then-gives (eval-gives t f.variables.variables j) (λ u v g r y.
        then-gives (location-gives r y) (λ u' l g' r' z.
        let here : StateFits u' s = state-grows (then_grows g g') f in
        answer-gives x after here (looked_up-gives r' here.memory l q)))
    exec-gives {s = s} t f after (WellFormed.a_mutate {x} {q} i j k l) =
        then-gives (eval-gives t f.variables.variables j) (λ u v g r y.
        then-gives (eval-gives r (each_to (variable_grows g) f.variables.variables) l) (λ u' v' g' r' y'.
        then-gives (location-gives r' (value_grows g' y)) (λ o m h i z.
        let here : StateFits o s = state-grows (then_grows (then_grows g g') h) f in
        answer-gives x after here (written-gives i here.memory m q z k (value_grows h y')))))
    exec-gives {s = s} t f after (WellFormed.a_dispose {x} i j) =
        then-gives (eval-gives t f.variables.variables j) (λ u v g r y.
        then-gives (location-gives r y) (λ u' l g' r' z.
        let here : StateFits u' s = state-grows (then_grows g g') f in
        answer-gives x after here (dropped-gives r' here.memory l)))
    exec-gives {s = s} t f after (WellFormed.a_u_sym {x} {j} i k) = answer-gives x after f (fresh_location-gives t f.memory j)
    exec-gives {s = s} t f after (WellFormed.an_i_sym {x} {j} i k) = answer-gives x after f (fresh_input-gives t f.memory j)
    exec-gives {s = s} t f after (WellFormed.a_return i) =
        then-gives (eval-gives t f.variables.variables i) (λ u v g r q.
        gives (same-pool u) r (returns-fits s.control.callers (state-grows g f) (saved-grows g f.saved) q))
    exec-gives {s = s} t f after (WellFormed.a_fail i) =
        then-gives (eval-gives t f.variables.variables i) (λ u v g r q. gives (same-pool u) r (fits_ends (fits_failed q)))
    exec-gives {w} t f after WellFormed.a_vanish = gives (same-pool w) t (fits_ends fits_vanished)

    short-body : (h : ℕ) → h < length p.procedures → length (procedure_at p h).body ≤ most_commands
    unfolding procedure_at all_commands nowhere
    short-body h there = omega (arith, body-short p.procedures h there, well_formed.few_commands)

    vanish-gives : {w : Pool} {s : State Ref} → TermsFit [] w → StateFits w s → Gives NextFits w (exec_p s vanish w)
    unfolding pooled exec give
    vanish-gives {w} t f = gives (same-pool w) t (fits_ends fits_vanished)

    -- the command where a path stands: one of its procedure's, or past them all, where it is as `vanish`
    pub standing-gives :
        {w : Pool} {s : State Ref} → TermsFit [] w → StateFits w s → Gives NextFits w (exec_p s (command_at p s.control) w)
    unfolding command_at
    standing-gives {w} {s} t f = by (ltb s.control.command (length body)) refl
      where
        body : List (Cmd ℕ)
        body = (procedure_at p s.control.procedure).body

        fits : ProcedureFits (length p.procedures) (procedure_at p s.control.procedure)
        fits = procedure-fits s.control.procedure f.control.procedure

        short : length body ≤ most_commands
        short = short-body s.control.procedure f.control.procedure

        by : (b : Bool) → ltb s.control.command (length body) ≡ b → Gives NextFits w (exec_p s (get_or body s.control.command vanish) w)
        by true e =
            let h : s.control.command < length body = ltb-true s.control.command (length body) e in
            exec-gives t f (omega (arith, short)) (each_in vanish s.control.command fits.commands h)
        by false e =
            let h : length body ≤ s.control.command = ltb-false s.control.command (length body) e in
            subst (λ (c : Cmd ℕ). Gives NextFits w (exec_p s c w)) (sym (get_or-eq_default body vanish h)) (vanish-gives t f)
