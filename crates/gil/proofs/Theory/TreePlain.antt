-- Trees beside plain values: a term goes with the constant it comes to on the inputs, so a fork goes with the jump that is taken.
-- Assumes nothing.
use Rattle.std.specs.Prelude.{ℕ, true, false, ◌≡◌}
use Rattle.std.proofs.Math.Path.{refl, sym, ap}
use Rattle.std.proofs.Common.{ap₂, ◌∙◌}
use mathlib.Core.List.{List, []}
use Rattle.gil.specs.Tree.{Op}
use Rattle.gil.specs.Names.{Program}
use Rattle.gil.specs.Values.{Constant, boolean, sort_of, work, work_not, Value}
use Rattle.gil.specs.Machine.{State, End, Next, on, ends, fork, move, start, making, combine, negated, give}
use Rattle.gil.specs.Rows.{Condition, Outcome, row_of}
use Rattle.gil.specs.Plain.{plain, known, ran}
use Rattle.gil.specs.Accounts.{put_value, put_end, put_outcome, put_in}
use Rattle.gil.proofs.Theory.Trees
use Rattle.gil.proofs.Theory.Trees.{Tree, trees, value_in, tree_value, value-sort, value-place}
use Rattle.gil.proofs.Theory.Relation
use Rattle.gil.proofs.Theory.Relation.{Relation, Laws, Values, consts, valued, terms, States, Nexts, Acts, oks, Grows, grow-state, give_rel, start_rel, move_rel}
use Rattle.gil.proofs.Theory.PutIn.{put-value, put-end, same_end, put-state, plainly, plain_value, plain_row}

-- where the plain run goes by one command
unfoldable pub plain_next : List ℕ → Program → State ⊥ → Next ⊥
unfolding plain
plain_next inputs p s = (move (plain inputs) p tt s).next

module _ (count : List Tree → ℕ) (inputs : List ℕ) where
  unfoldable pub on_inputs : Relation (trees count) (plain inputs)
  unfolding plain
  on_inputs = record { Worlds = λ w v. Unit {0}; Valued = λ w t c. value_in inputs t ≡ c; Terms = λ w t u. ⊥ }

  -- no term of an earlier world changes its value
  pub still : (w w' : (trees count).World) → Grows on_inputs w w'
  unfolding on_inputs
  still w w' = record { stays = λ t c h. h; keeps = λ t u h. h }

  not_rel :
      (w : (trees count).World) (a : Value (trees count).Term) (b : Value (plain inputs).Term)
      → Values on_inputs w a b → Acts on_inputs (Values on_inputs) w (negated (trees count) a) (negated (plain inputs) b)
  unfolding on_inputs negated making plain Trees.grown Trees.planted Trees.operand value_in give
  not_rel w a b consts = give_rel _ _ consts
  not_rel w a b (valued h) = λ v k. oks (still w _) k (valued (ap work_not h))
  not_rel w a b (terms h) = absurd h

  operator_rel :
      (w : (trees count).World) (o : Op) (a b : Value (trees count).Term) (a' b' : Value (plain inputs).Term)
      → Values on_inputs w a a' → Values on_inputs w b b'
      → Acts on_inputs (Values on_inputs) w (combine (trees count) o a b) (combine (plain inputs) o a' b')
  unfolding on_inputs combine making plain Trees.grown Trees.planted Trees.operand value_in give
  operator_rel w o a b a' b' consts consts = give_rel _ _ consts
  operator_rel w o a b a' b' (consts {c}) (valued k) = λ v i. oks (still w _) i (valued (ap (work o c) k))
  operator_rel w o a b a' b' consts (terms k) = absurd k
  operator_rel w o a b a' b' (valued h) (consts {c}) = λ v i. oks (still w _) i (valued (ap (λ (d : Constant). work o d c) h))
  operator_rel w o a b a' b' (valued h) (valued k) = λ v i. oks (still w _) i (valued (ap₂ (work o) h k))
  operator_rel w o a b a' b' (valued h) (terms k) = absurd k
  operator_rel w o a b a' b' (terms h) k = absurd h

  pub on_inputs_laws : Laws on_inputs
  unfolding on_inputs making plain known Trees.grown Trees.planted value_in
  on_inputs_laws =
      record {
        terms-sort = λ w t u h. absurd h;
        valued-sort = λ w t c h. value-sort inputs t ∙ ap sort_of h;
        no-location = λ w t l h. value-place inputs t l h;
        inputs = λ w k v i. oks (still w _) i (valued refl);
        nots = not_rel;
        operators = operator_rel;
      }

  pub same-value :
      (w : List Tree) (a : Value Tree) (b : Value ⊥) → (unfold plain in Values on_inputs w a b) → tree_value inputs a ≡ plainly b
  unfolding on_inputs plain tree_value plainly
  same-value w a b consts = refl
  same-value w a b (valued h) = h
  same-value w a b (terms h) = absurd h

  -- a state of trees is the plain one, on the inputs
  unfoldable pub Alike : State Tree → State ⊥ → Type 0
  unfolding plain
  Alike s s' = States on_inputs [] s s'

  pub alike-start : (p : Program) → Alike (start p) (start p)
  unfolding Alike plain
  alike-start p = start_rel p

  -- where a command of the tree's state goes, and where the plain one goes by it
  pub data Follows : Next Tree → Next ⊥ → Type 0 where
    goes : {s : State Tree} {s' : State ⊥} → Alike s s' → Follows (on s) (on s')
    stops : {e : End Tree} {e' : End ⊥} → put_end (put_value (tree_value inputs)) e ≡ e' → Follows (ends e) (ends e')
    is_true : {t : Tree} {a b : State Tree} {s : State ⊥} → value_in inputs t ≡ boolean true → Alike a s → Follows (fork t a b) (on s)
    is_false : {t : Tree} {a b : State Tree} {s : State ⊥} → value_in inputs t ≡ boolean false → Alike b s → Follows (fork t a b) (on s)

  followed : (w : List Tree) {x : Next Tree} {y : Next ⊥} → (unfold plain in Nexts on_inputs w x y) → Follows x y
  unfolding Alike on_inputs plain
  followed w (Relation.goes h) = goes (grow-state (still w []) h)
  followed w (Relation.stops {e'} h) =
      let agree = put-value (tree_value inputs) plainly (same-value w) in
      stops (put-end (put_value (tree_value inputs)) (put_value plainly) agree h ∙ same_end (put_value plainly) plain_value e')
  followed w (Relation.forks h a b) = absurd h
  followed w (Relation.is_true h a) = is_true h (grow-state (still w []) a)
  followed w (Relation.is_false h b) = is_false h (grow-state (still w []) b)

  pub follow :
      (p : Program) (w : List Tree) (s : State Tree) (s' : State ⊥) → Alike s s'
      → Follows (move (trees count) p w s).next (plain_next inputs p s')
  unfolding Alike on_inputs plain plain_next
  follow p w s s' h =
      let m = move_rel on_inputs_laws p w tt s s' tt (grow-state (still [] w) h) in
      followed (move (trees count) p w s).world m.nexts

  -- their rows are one, with the inputs put in
  pub put-alike :
      (n : ℕ) (o : Outcome Tree) (o' : Outcome ⊥) (m m' : ℕ) (ds : List (Condition Tree)) (s : State Tree) (s' : State ⊥)
      → put_outcome (tree_value inputs) o ≡ o' → put_outcome plainly o' ≡ o' → Alike s s'
      → put_in (tree_value inputs) (row_of o n (record { state = s; steps = m; conditions = ds })) ≡ row_of o' n (ran m' s')
  unfolding Alike plain ran
  put-alike n o o' m m' ds s s' e d h =
      put-state (tree_value inputs) plainly (same-value []) n o o' m m' ds [] (e ∙ sym d) h ∙ plain_row o' n m' s' d
