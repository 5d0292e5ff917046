-- Related rows are the same row with inputs put in, and their conditions hold alike; a plain run's row is itself. Assumes nothing.
use Rattle.std.specs.Prelude.{ℕ, Bool, true, ◌&&◌, ◌≡◌}
use Rattle.std.proofs.Math.Path.{refl, ap, ap₂}
use mathlib.Core.List.{List, [], ◌∷◌, map}
use Rattle.std.proofs.Math.Option.{Option, none, some}
use Rattle.gil.specs.Values.{Constant, truth_in, same_truth, Value, const, term}
use Rattle.gil.specs.Machine.{Model, Cell, Store, State, End, returned, failed, vanished, error, Val}
use Rattle.gil.specs.Rows.{Condition, Outcome, Row, row_of}
use Rattle.gil.specs.Plain.{ran}
use Rattle.gil.specs.Accounts.{row_with, put_value, put_variable, put_cell, put_end, put_outcome, put_in}
use Rattle.gil.proofs.Theory.Relation.{Each, nil, cons, Perhaps, unbound, bound, Relation, Values, Stores, Cells, cell, memories, States, states, Ends}
use Rattle.gil.proofs.Theory.Relation as Relation
use Rattle.gil.proofs.Theory.Together.{Conditions, condition, Outcomes, ended, cut, path, RowsOf, row}

-- `f` and `g` make the same values of what is related
module _
    {M N : Model} {R : Relation M N} {w : M.World} {U : Type 0} (f : Val M → Value U) (g : Val N → Value U)
    (agree : (a : Val M) (b : Val N) → Values R w a b → f a ≡ g b)
  where
    put_variable_lem : {a : Option (Val M)} {b : Option (Val N)} → Perhaps (Values R w) a b → put_variable f a ≡ put_variable g b
    unfolding put_variable
    put_variable_lem unbound = refl
    put_variable_lem (bound {a} {b} h) = ap some (agree a b h)

    pub put-store : {ρ : Store M.Term} {ρ' : Store N.Term} → Stores R w ρ ρ' → map (put_variable f) ρ ≡ map (put_variable g) ρ'
    put-store nil = refl
    put-store (cons h hs) = ap₂ {C = Store U} (λ x xs. x ∷ xs) (put_variable_lem h) (put-store hs)

    put-cell : {c : Cell M.Term} {c' : Cell N.Term} → Cells R w c c' → put_cell f c ≡ put_cell g c'
    unfolding put_cell
    put-cell (cell {l} {q} {a} {b} h) = ap {B = Cell U} (λ v. record { location = l; property = q; value = v }) (agree a b h)

    pub put-cells :
        {cs : List (Cell M.Term)} {cs' : List (Cell N.Term)} → Each (Cells R w) cs cs' → map (put_cell f) cs ≡ map (put_cell g) cs'
    put-cells nil = refl
    put-cells (cons h hs) = ap₂ {C = List (Cell U)} (λ x xs. x ∷ xs) (put-cell h) (put-cells hs)

    pub put-end : {e : End M.Term} {e' : End N.Term} → Ends R w e e' → put_end f e ≡ put_end g e'
    unfolding put_end
    put-end (Relation.returned {a} {b} h) = ap returned (agree a b h)
    put-end (Relation.failed {a} {b} h) = ap failed (agree a b h)
    put-end Relation.vanished = refl
    put-end Relation.error = refl

-- what changes no value changes nothing
module _ {T : Type 0} (f : Value T → Value T) (same : (v : Value T) → f v ≡ v) where
  pub same_store : (ρ : Store T) → map (put_variable f) ρ ≡ ρ
  unfolding put_variable
  same_store [] = refl
  same_store (none ∷ ρ) = ap {B = Store T} (λ xs. none ∷ xs) (same_store ρ)
  same_store (some v ∷ ρ) = ap₂ {C = Store T} (λ x xs. some x ∷ xs) (same v) (same_store ρ)

  pub same-cells : (cs : List (Cell T)) → map (put_cell f) cs ≡ cs
  unfolding put_cell
  same-cells [] = refl
  same-cells (c ∷ cs) =
      ap₂ {C = List (Cell T)} (λ v xs. record { location = c.location; property = c.property; value = v } ∷ xs)
      (same c.value) (same-cells cs)

  pub same_end : (e : End T) → put_end f e ≡ e
  unfolding put_end
  same_end (returned v) = ap returned (same v)
  same_end (failed v) = ap failed (same v)
  same_end vanished = refl
  same_end (error n) = refl

pub parts :
    {T U : Type 0} (r : Row T) {o o' : Outcome U} {ds ds' : List (Condition U)} {ρ ρ' : Store U} {cs cs' : List (Cell U)}
    → o ≡ o' → ds ≡ ds' → ρ ≡ ρ' → cs ≡ cs' → row_with r o ds ρ cs ≡ row_with r o' ds' ρ' cs'
parts r a b c d = λ j. row_with r (a j) (b j) (c j) (d j)

-- conditions hold if each term has the truth it must have
unfoldable pub holds : {T : Type 0} → (Value T → Constant) → List (Condition T) → Bool
holds value [] = true
holds value (c ∷ cs) = same_truth c.truth (truth_in (value (term c.term))) && holds value cs

-- `f` and `g` value what is related alike
module _
    {M N : Model} {R : Relation M N} {w : M.World} (f : Val M → Constant) (g : Val N → Constant)
    (agree : (a : Val M) (b : Val N) → Values R w a b → f a ≡ g b)
  where
    pub put-value : (a : Val M) (b : Val N) → Values R w a b → put_value f a ≡ put_value g b
    put-value a b h = ap const (agree a b h)

    put-outcome : {o : Outcome M.Term} {o' : Outcome N.Term} → Outcomes R w o o' → put_outcome f o ≡ put_outcome g o'
    unfolding put_outcome
    put-outcome (ended h) = ap Rattle.gil.specs.Rows.ended (put-end (put_value f) (put_value g) put-value h)
    put-outcome cut = refl

    -- two paths that stand in related states, whatever their conditions
    pub put-state :
        (n : ℕ) (o : Outcome M.Term) (o' : Outcome N.Term) (m m' : ℕ) (ds : List (Condition M.Term))
        (ds' : List (Condition N.Term))
        {s : State M.Term} {s' : State N.Term} → put_outcome f o ≡ put_outcome g o' → States R w s s'
        → put_in f (row_of o n (record { state = s; steps = m; conditions = ds }))
        ≡ put_in g (row_of o' n (record { state = s'; steps = m'; conditions = ds' }))
    unfolding put_in row_of row_with
    put-state n o o' m m' ds ds' {s} e (states h hs (memories k)) =
        parts (put_in f (row_of o n (record { state = s; steps = m; conditions = ds }))) e refl
        (put-store (put_value f) (put_value g) put-value h) (put-cells (put_value f) (put_value g) put-value k)

    pub put-row : {r : Row M.Term} {r' : Row N.Term} → RowsOf R w r r' → put_in f r ≡ put_in g r'
    put-row (row {o} {o'} n h (path {n = m} {cs} {cs'} s c)) = put-state n o o' m m cs cs' (put-outcome h) s

    pub holds_rel :
        {cs : List (Condition M.Term)} {cs' : List (Condition N.Term)} → Each (Conditions R w) cs cs' → holds f cs ≡ holds g cs'
    unfolding holds
    holds_rel nil = refl
    holds_rel (cons (condition {b} h) hs) = ap₂ (λ x y. same_truth b (truth_in x) && y) (agree _ _ (Relation.terms h)) (holds_rel hs)

-- in a plain run every value is a constant
unfoldable pub plainly : Value ⊥ → Constant
plainly (const c) = c
plainly (term t) = absurd t

pub plain_value : (v : Value ⊥) → put_value plainly v ≡ v
unfolding plainly
plain_value (const c) = refl
plain_value (term t) = absurd t

pub plain_row :
    (o : Outcome ⊥) (n m : ℕ) (s : State ⊥) → put_outcome plainly o ≡ o → put_in plainly (row_of o n (ran m s)) ≡ row_of o n (ran m s)
unfolding put_in row_of ran row_with
plain_row o n m s e =
    parts (row_of o n (ran m s)) e refl
    (same_store (put_value plainly) plain_value s.variables) (same-cells (put_value plainly) plain_value s.memory.cells)
