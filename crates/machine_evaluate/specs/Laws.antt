-- On the words of an expression tree, where they stand, evaluation over words is document 01's evaluation of the tree, for every model that
-- stands in words. Assumes nothing.
use Rattle.std.specs.Prelude.{ℕ, suc, ◌+◌, ◌-◌, ◌*◌, ◌/◌, ◌%◌, ◌<◌, ◌≤◌, Bool, true, false, ◌≡◌, refl, List, [], ◌∷◌, ◌++◌, length, drop, get_or, eqb, ltb, Option, Some, None, Result, Ok, Err}
use Rattle.std.proofs.Common.{sym, ◌∙◌, ap, add-zero, length-drop, length-append, get_or-drop, drop-drop, arith, ne_eqb, lt-ltb, le-ltb, ltb-true}
use Rattle.std.proofs.lemmas.List.{append_assoc}
use Rattle.std.proofs.Math.Option as Maybe
use Rattle.std.proofs.Math.Option.{none, some}
use Rattle.std.proofs.Math.Seq.{drop-append_seam}
use Rattle.gil.specs.Numbers.{most_depth, most_variables, most_frames}
use Rattle.gil.specs.declared.errors.Error.{Error}
use Rattle.gil.specs.declared.errors.Error.TheVariants.{NotBound}
use Rattle.gil.specs.Tree.{Op, plus, minus, equal, less, and, or, Expr}
use Rattle.gil.specs.Values.{Value}
use Rattle.gil.specs.Layout.{bit}
use Rattle.gil.specs.Machine as Machine
use Rattle.gil.specs.Machine.{Model, Store, and_then, ◌>>=◌, give, stop, there, eval}
use Rattle.machine_code.specs.Code.{op_word, node, number_words, expr_words, code_words, frame_words, store_words, variable_node, next_word_node, kind_range, variable_from, next_word_from, not_from}
use Rattle.machine_code.specs.WellFormed.{ExprFits, a_number, a_truth, a_variable, a_not, an_operator}
use Rattle.machine_code.specs.Mirror.{if?}
use Rattle.machine_values.specs.Mirror.{truth_word}
use Rattle.machine_values.specs.Laws as Values
use Rattle.machine_terms.specs.Mirror.{Did, did}
use Rattle.machine_terms.specs.Laws.Engine.{Engine, ValueAs, const_as, As, EvalAs, gives, errs, value_low, operate_as, negate_as}
use Rattle.machine_evaluate.specs.Mirror.{and_then_in, at_leaf, variable_in, number_in, leaf_of, leaf_in, operand_by, second_by, operator_by, operator_in, operand_in, evaluate_in}

-- an expression's words stand at a place
pub record Placed (code : List ℕ) (at : ℕ) (e : Expr ℕ) : Type 0 where
  pub rest : List ℕ
  pub words : drop at code ≡ expr_words e ++ rest

-- the first word of what stands at a place, and what stands behind it
module _ (code : List ℕ) (at : ℕ) {k : ℕ} {rest : List ℕ} (e : drop at code ≡ k ∷ rest) where
  first_word : get_or code at 0 ≡ k
  first_word = ap (λ (n : ℕ). get_or code n 0) (sym (add-zero at)) ∙ sym (get_or-drop at code 0 0) ∙ ap (λ (l : List ℕ). get_or l 0 0) e

  behind : drop (at + 1) code ≡ rest
  behind = sym (drop-drop 1 at code) ∙ ap (λ (l : List ℕ). drop 1 l) e

  inside : length code ≡ code_words → at < code_words
  inside h = omega (arith, length-drop at code, ap (λ (l : List ℕ). length l) e)

-- a variable's word: 0 where it is not bound
pub data SlotAs {T : Type 0} (TermAs : T → ℕ → Type 0) : Maybe.Option (Value T) → ℕ → Type 0 where
  unbound : SlotAs TermAs none 0
  bound : {v : Value T} {x : ℕ} → ValueAs TermAs v x → SlotAs TermAs (some v) x

-- a frame's variables in the store
abbrev pub FrameAs : {T : Type 0} → (T → ℕ → Type 0) → Store T → List ℕ → ℕ → Type 0
FrameAs TermAs ρ store frame = (x : ℕ) → x < most_variables → SlotAs TermAs (get_or ρ x none) (get_or store (frame_words * frame + x) 0)

-- an operator's node is no leaf, and no `not`
op_high : (o : Op) → 5 ≤ op_word o
unfolding op_word
op_high plus = omega arith
op_high minus = omega arith
op_high equal = omega arith
op_high less = omega arith
op_high and = omega arith
op_high or = omega arith

op_not_not : (o : Op) → eqb (op_word o) 4 ≡ false
op_not_not o = ne_eqb (op_word o) 4 (λ z. absurd (omega (arith, op_high o)))

-- the nodes at a place
module _ (code store : List ℕ) (frame at : ℕ) where
  op_node : (o : Op) (w : ℕ) → leaf_of code store frame at (node (op_word o) w) ≡ Ok None
  unfolding leaf_of
  op_node o w =
      let h = op_high o in
      simp
      (le-ltb (node (op_word o) w) variable_from (omega arith), le-ltb (node (op_word o) w) next_word_from (omega arith), le-ltb (node (op_word o) w) not_from (omega arith))

  near_node : (n : ℕ) → n < kind_range → leaf_of code store frame at n ≡ Ok (Some (4294967296 + n))
  unfolding leaf_of
  near_node n h = let e : 4294967296 * (n / kind_range + 1) + n % kind_range ≡ 4294967296 + n = omega arith in simp (lt-ltb n variable_from (omega arith), e)

  variable_node_lem : (x : ℕ) → x < most_variables → leaf_of code store frame at (node variable_node x) ≡ at_leaf (variable_in store frame x)
  unfolding leaf_of
  variable_node_lem x h =
      let e : node variable_node x - variable_from ≡ x = omega arith in
      simp (le-ltb (node variable_node x) variable_from (omega arith), lt-ltb (node variable_node x) next_word_from (omega arith), e)

  truth-node : (b : Bool) → leaf_of code store frame at (node 1 (bit b)) ≡ Ok (Some (truth_word b))
  unfolding leaf_of bit truth_word
  truth-node true = refl
  truth-node false = refl

  not_node_lem : leaf_of code store frame at (node 4 0) ≡ Ok None
  unfolding leaf_of
  not_node_lem = refl

  far-node : leaf_of code store frame at (node next_word_node 0) ≡ at_leaf (number_in code (at + 1))
  unfolding leaf_of
  far-node = refl

-- a node's two parts
kind_part : (k w : ℕ) → w < kind_range → node k w / kind_range ≡ k
kind_part k w h = omega arith

other-part : (k w : ℕ) → w < kind_range → node k w % kind_range ≡ w
other-part k w h = omega arith

module _ {M : Model} (E : Engine M) where
  pub then_as : {r : Machine.Result M.World (Value M.Term)} {d : Did (Result ℕ Error)}
      {f : Value M.Term → M.World → Machine.Result M.World (Value M.Term)} {g : ℕ → List ℕ → ℕ → Did (Result ℕ Error)}
      → EvalAs E r d
      → ((w : M.World) (v : Value M.Term) (x : ℕ) (pool : List ℕ) (count : ℕ)
      → E.WorldAs w pool count → As E v x → EvalAs E (f v w) (g x pool count))
      → EvalAs E (and_then r f) (and_then_in d g)
  unfolding and_then and_then_in
  then_as (gives {w} {v} {x} {pool} {count} h p) k = k w v x pool count h p
  then_as (errs e h) k = errs e h

  module _ (code store : List ℕ) (frame : ℕ) (whole : length code ≡ code_words) where
    -- a leaf, and an operator
    leaf-is : (at : ℕ) {k : ℕ} {x : Result (Option ℕ) Error} {rest : List ℕ} → drop at code ≡ k ∷ rest → leaf_of code store frame at k ≡ x → leaf_in code store frame at ≡ x
    unfolding leaf_in
    leaf-is at e f = simp (lt-ltb at code_words (inside code at e whole), first_word code at e) f

    number_is : (at n : ℕ) (rest : List ℕ) → drop at code ≡ number_words n ++ rest → leaf_in code store frame at ≡ Ok (Some (4294967296 + n))
    unfolding number_words
    number_is at n rest = by (ltb n kind_range) refl
      where
        by : (b : Bool) → ltb n kind_range ≡ b → drop at code ≡ (elim b [ true ↦ n ∷ [] | false ↦ node next_word_node 0 ∷ n ∷ [] ]) ++ rest → leaf_in code store frame at ≡ Ok (Some (4294967296 + n))
        by true t e = leaf-is at e (near_node code store frame at n (ltb-true n kind_range t))
        by false t e = leaf-is at e (far-node code store frame at ∙ ap at_leaf (far (behind code at e)))
          where
            far : drop (at + 1) code ≡ n ∷ rest → number_in code (at + 1) ≡ Ok (4294967296 + n)
            far f = unfold number_in in simp (lt-ltb (at + 1) code_words (inside code (at + 1) f whole), first_word code (at + 1) f)

    leaf_given : (d at : ℕ) {x : ℕ} (pool : List ℕ) (count : ℕ) → leaf_in code store frame at ≡ Ok (Some x)
        → operand_in code store frame d at pool count ≡ did (Ok x) pool count
    unfolding operand_in operand_by
    leaf_given d at pool count e = rw e refl

    at_operator : (d at k w : ℕ) (pool : List ℕ) (count : ℕ) {rest : List ℕ}
        → drop at code ≡ node k w ∷ rest
        → w < kind_range
        → leaf_of code store frame at (node k w) ≡ Ok None
        → operand_in code store frame (suc d) at pool count
        ≡ and_then_in (operand_in code store frame d (at + 1) pool count) (second_by code store frame (operand_in code store frame d) k (at + 1 + w))
    unfolding operand_in operand_by operator_in operator_by
    at_operator d at k w pool count e h f =
        simp (leaf-is at e f, lt-ltb at code_words (inside code at e whole), first_word code at e, kind_part k w h, other-part k w h)

    variable_is : (x : ℕ) → frame < most_frames → x < most_variables
        → variable_in store frame x ≡ if? (eqb (get_or store (frame_words * frame + x) 0) 0) (Err NotBound) (Ok (get_or store (frame_words * frame + x) 0))
    unfolding variable_in
    variable_is x hf hx = simp (lt-ltb (frame_words * frame + x) store_words (omega arith))

    slot_as : (d at : ℕ) (w : M.World) (pool : List ℕ) (count : ℕ) {o : Maybe.Option (Value M.Term)} {y : ℕ}
        → leaf_in code store frame at ≡ at_leaf (if? (eqb y 0) (Err NotBound) (Ok y))
        → E.WorldAs w pool count
        → SlotAs E.TermAs o y
        → EvalAs E (there o 1 w) (operand_in code store frame d at pool count)
    unfolding there stop give operand_in operand_by
    slot_as d at w pool count e h unbound = rw e (errs NotBound h)
    slot_as d at w pool count e h (bound {x} p) =
        let nz : x ≡ 0 → ⊥ = omega (arith, value_low E p) in
        let f : leaf_in code store frame at ≡ Ok (Some x) = e ∙ simp (ne_eqb x 0 nz) in
        rw (leaf_given d at pool count f) (gives h p)

    -- an operand is not longer than the words, and where the second one stands
    operand_short : (at : ℕ) {k : ℕ} (a b : Expr ℕ) (rest : List ℕ)
        → drop at code ≡ k ∷ ((expr_words a ++ expr_words b) ++ rest)
        → length (expr_words a) < kind_range
    operand_short at a b rest e =
        omega (arith, whole, length-drop at code, ap (λ (l : List ℕ). length l) e, length-append (expr_words a ++ expr_words b) rest, length-append (expr_words a) (expr_words b))

    second-stands : (at : ℕ) {k : ℕ} (a b : Expr ℕ) (rest : List ℕ)
        → drop at code ≡ k ∷ ((expr_words a ++ expr_words b) ++ rest)
        → drop (at + 1 + length (expr_words a)) code ≡ expr_words b ++ rest
    second-stands at a b rest e =
        sym (drop-drop (length (expr_words a)) (at + 1) code)
        ∙ ap (λ (l : List ℕ). drop (length (expr_words a)) l) (behind code at e ∙ append_assoc (expr_words a) (expr_words b) rest)
        ∙ drop-append_seam (expr_words a) (expr_words b ++ rest)

    module _ (ρ : Store M.Term) {variables : ℕ} (frame-as : FrameAs E.TermAs ρ store frame) (low : frame < most_frames) (few : variables ≤ most_variables) where
      pub operand_as : {d : ℕ} {e : Expr ℕ} → ExprFits variables d e
          → (at : ℕ) (rest : List ℕ)
          → drop at code ≡ expr_words e ++ rest
          → (w : M.World) (pool : List ℕ) (count : ℕ)
          → E.WorldAs w pool count
          → EvalAs E (eval M ρ e w) (operand_in code store frame d at pool count)
      unfolding eval expr_words give second_by ◌>>=◌
      operand_as (a_number {d} {n} h) at rest e w pool count world =
          rw (leaf_given (suc d) at pool count (number_is at n rest e)) (gives world (const_as (Values.a_number h)))
      operand_as (a_truth {d} {b}) at rest e w pool count world =
          rw (leaf_given (suc d) at pool count (leaf-is at e (truth-node code store frame at b))) (gives world (const_as Values.a_truth))
      operand_as (a_variable {d} {x} h) at rest e w pool count world =
          slot_as (suc d) at w pool count (leaf-is at e (variable_node_lem code store frame at x (omega arith) ∙ ap at_leaf (variable_is x low (omega arith)))) world (frame-as x (omega arith))
      operand_as (a_not {d} {e = a} h) at rest e w pool count world =
          rw (at_operator d at 4 0 pool count e (omega arith) (not_node_lem code store frame at))
          (then_as (operand_as h (at + 1) rest (behind code at e) w pool count world) (λ w v x pool count h p. negate_as E h p))
      operand_as (an_operator {d} {o} {a} {b} h k) at rest e w pool count world =
          rw (at_operator d at (op_word o) (length (expr_words a)) pool count e (operand_short at a b rest e) (op_node code store frame at o (length (expr_words a))))
          (then_as
          (operand_as h (at + 1) (expr_words b ++ rest) (behind code at e ∙ append_assoc (expr_words a) (expr_words b) rest) w pool count world)
          (λ w v x pool count world p. simp (op_not_not o)
          (then_as
          (operand_as k (at + 1 + length (expr_words a)) rest (second-stands at a b rest e) w pool count world)
          (λ w u y pool count world q. operate_as E o world p q))))

      -- an expression, at most eight deep, evaluated
      pub evaluate_as : {e : Expr ℕ} → ExprFits variables most_depth e → (at : ℕ) → Placed code at e
          → (w : M.World) (pool : List ℕ) (count : ℕ)
          → E.WorldAs w pool count
          → EvalAs E (eval M ρ e w) (evaluate_in code store frame at pool count)
      unfolding evaluate_in
      evaluate_as h at p w pool count world = operand_as h at p.rest p.words w pool count world
