-- The pool only grows: what fits a pool fits every one that it grows to; a term made fits; and what an action of the machine gives, in a
-- pool that grew. Assumes nothing.
use Rattle.std.specs.Prelude.{ℕ, ◌≤◌, ◌≡◌, refl, Bool, true, false, List, [], ◌∷◌, ◌++◌, length}
use Rattle.std.proofs.Common.{arith, sym, ◌∙◌, ap, subst, append_assoc, append-nil, length-append}
use Rattle.std.proofs.Math.Option.{Option}
use Rattle.std.proofs.Math.ListN.{get_or-append}
use Rattle.std.proofs.Math.Seq.{get_or-append_seam}
use Rattle.gil.specs.Numbers.{wrong_sort, last_error}
use Rattle.gil.specs.Values.{Value, Node, input, gives_number}
use Rattle.gil.specs.Machine.{Store, Cell, End, Result, ok, err, and_then, give, stop, must, there}
use Rattle.gil.specs.Rows.{Condition, Outcome, Row}
use Rattle.gil.specs.Pool.{Ref, place_in, ref_to, Pool}
use Rattle.machine_code.proofs.Accepted.Lists.{each_to}
use Rattle.table_locate.specs.Laws.Sound.{RefFits, ValueFits, fits_number, fits_truth, fits_location, fits_term, NodeFits, TermsFit, no_term, next_term, ConditionFits, VariableFits, unbound, bound, StoreFits, CellFits, CellsFit, EndFits, fits_returned, fits_failed, fits_vanished, fits_error, OutcomeFits, fits_ended, fits_cut, RowFits}

-- A pool that grew: every reference that fitted still does
abbrev pub Grows : Pool → Pool → Type 0
Grows w u = (r : Ref) → RefFits w r → RefFits u r

pub same-pool : (w : Pool) → Grows w w
same-pool w r f = f

pub then_grows : {w u v : Pool} → Grows w u → Grows u v → Grows w v
then_grows g h r f = h r (g r f)

module _ {w u : Pool} (g : Grows w u) where
  pub value_grows : {v : Value Ref} → ValueFits w v → ValueFits u v
  value_grows (fits_number h) = fits_number h
  value_grows fits_truth = fits_truth
  value_grows (fits_location h) = fits_location h
  value_grows (fits_term {r} f) = fits_term (g r f)

  pub variable_grows : (v : Option (Value Ref)) → VariableFits w v → VariableFits u v
  variable_grows v unbound = unbound
  variable_grows v (bound f) = bound (value_grows f)

  pub store-grows : {ρ : Store Ref} → StoreFits w ρ → StoreFits u ρ
  store-grows f =
      record { some_variable = f.some_variable; few_variables = f.few_variables; variables = each_to variable_grows f.variables }

  cell-grows : (c : Cell Ref) → CellFits w c → CellFits u c
  cell-grows c f = record { location = f.location; property = f.property; value = value_grows f.value }

  pub cells-grow : {cs : List (Cell Ref)} → CellsFit w cs → CellsFit u cs
  cells-grow f = record { few_cells = f.few_cells; cells = each_to cell-grows f.cells }

  pub condition-grows : (c : Condition Ref) → ConditionFits w c → ConditionFits u c
  condition-grows c f = record { reference = g c.term f.reference; sort = f.sort }

  end-grows : {e : End Ref} → EndFits w e → EndFits u e
  end-grows (fits_returned f) = fits_returned (value_grows f)
  end-grows (fits_failed f) = fits_failed (value_grows f)
  end-grows fits_vanished = fits_vanished
  end-grows (fits_error h i) = fits_error h i

  outcome-grows : {o : Outcome Ref} → OutcomeFits w o → OutcomeFits u o
  outcome-grows (fits_ended f) = fits_ended (end-grows f)
  outcome-grows fits_cut = fits_cut

  pub row-grows : (r : Row Ref) → RowFits w r → RowFits u r
  row-grows r f =
      record {
        outcome = outcome-grows f.outcome;
        steps = f.steps;
        procedure = f.procedure;
        command = f.command;
        inputs = f.inputs;
        few_conditions = f.few_conditions;
        conditions = each_to condition-grows f.conditions;
        variables = store-grows f.variables;
        cells = cells-grow f.cells;
      }

-- A term made: the pool grows by it, and the reference to it fits
pub made-grows : (w : Pool) (n : Node Ref) → Grows w (w ++ (n ∷ []))
made-grows w n r f =
    record {
      there = simp length-append (omega (arith, f.there));
      sort =
          f.sort
          ∙ ap (λ (m : Node Ref). ref_to (gives_number m) (place_in r)) (sym (get_or-append w (n ∷ []) (input 0) (place_in r) f.there));
    }

place_of_lem : (b : Bool) (k : ℕ) → place_in (ref_to b k) ≡ k
unfolding place_in ref_to
place_of_lem true k = refl
place_of_lem false k = refl

pub made-fits : (w : Pool) (n : Node Ref) → RefFits (w ++ (n ∷ [])) (ref_to (gives_number n) (length w))
made-fits w n =
    record {
      there = rw (place_of_lem (gives_number n) (length w), length-append) (omega arith);
      sort =
          rw (place_of_lem (gives_number n) (length w))
          (ap (λ (m : Node Ref). ref_to (gives_number m) (length w)) (sym (get_or-append_seam w n [] (input 0))));
    }

pub made_after :
    {before terms : Pool} {n : Node Ref} → TermsFit before terms → NodeFits (before ++ terms) n → TermsFit before (terms ++ (n ∷ []))
made_after {before} {n = n} no_term f = next_term (subst (λ (u : Pool). NodeFits u n) (append-nil before) f) no_term
made_after {before} {n = n} (next_term {terms = terms} {n = m} f fs) h =
    next_term f (made_after fs (subst (λ (u : Pool). NodeFits u n) (sym (append_assoc before (m ∷ []) terms)) h))

-- What an action gives: an answer or an error, in a pool that grew and is sound
pub data Gives {A : Type 0} (P : Pool → A → Type 0) (w : Pool) : Result Pool A → Type 0 where
  gives : {u : Pool} {a : A} → Grows w u → TermsFit [] u → P u a → Gives P w (ok u a)
  errs : {u : Pool} {n : ℕ} → Grows w u → TermsFit [] u → 1 ≤ n → n ≤ last_error → Gives P w (err u n)

first-grows : {A : Type 0} {P : Pool → A → Type 0} {w u : Pool} {m : Result Pool A} → Grows w u → Gives P u m → Gives P w m
first-grows g (gives h t p) = gives (then_grows g h) t p
first-grows g (errs h t a b) = errs (then_grows g h) t a b

pub then-gives :
    {A B : Type 0} {P : Pool → A → Type 0} {Q : Pool → B → Type 0} {w : Pool} {m : Result Pool A} {f : A → Pool → Result Pool B}
    → Gives P w m
    → ((u : Pool) (a : A) → Grows w u → TermsFit [] u → P u a → Gives Q u (f a u))
    → Gives Q w (and_then m f)
unfolding and_then
then-gives (gives {u} {a} g t p) k = first-grows g (k u a g t p)
then-gives (errs g t h i) k = errs g t h i

pub wrong_sort_lem : {A : Type 0} {P : Pool → A → Type 0} {w : Pool} → TermsFit [] w → Gives P w (err w wrong_sort)
wrong_sort_lem {w = w} t = errs {n = wrong_sort} (same-pool w) t (omega arith) (omega arith)

pub must-give : {w : Pool} (b : Bool) (n : ℕ) → TermsFit [] w → 1 ≤ n → n ≤ last_error → Gives (λ u x. b ≡ true) w (must b n w)
unfolding must give stop
must-give {w} true n t h i = gives (same-pool w) t refl
must-give {w} false n t h i = errs (same-pool w) t h i

pub there-gives :
    {w : Pool} {o : Option (Value Ref)} (n : ℕ) → TermsFit [] w → 1 ≤ n → n ≤ last_error → VariableFits w o → Gives ValueFits w (there o n w)
unfolding there give stop
there-gives {w} n t h i unbound = errs (same-pool w) t h i
there-gives {w} n t h i (bound f) = gives (same-pool w) t f
