-- The words of each form of an expression. Assumes nothing.
use Rattle.std.specs.Prelude.{ℕ, ◌+◌, ◌-◌, ◌≤◌, ◌≡◌, Bool, List, ◌∷◌, ◌++◌, set}
use Rattle.std.proofs.Math.Path.{refl, sym, ap, subst}
use Rattle.std.proofs.Common.{◌∙◌, append_assoc, add-one}
use Rattle.std.proofs.Common.{arith}
use Rattle.std.proofs.Math.ListN.{length}
use Rattle.std.proofs.lemmas.List.Edits.{sets}
use Rattle.gil.specs.Tree.{Op, Expr, num, bool, neg, bin, Name}
use Rattle.gil.specs.Names.{expr_vars, rename_expr, with_names}
use Rattle.machine_code.specs.Code as Code
use Rattle.machine_code.specs.Code.{node, expr_words, code_words, not_node, truth_node}
use Rattle.machine_code.proofs.Accepted.Sizes.{expr_size}
use Rattle.machine_code.specs.declared.kinds.Operator.{Operator}
use Rattle.machine_code.specs.Kinds.{op_of, operator_number, operator-word}
use Rattle.gil.specs.Layout.{bit}
use Rattle.gil.specs.Numbers.{most_variables}
use Rattle.text_names.specs.declared.Names.{Names}
use Rattle.text_names.specs.Mirror.Tables.{Kept, Grows}
use Rattle.text_names.specs.Laws.Lists.{with_names-append}
use Rattle.text_names.specs.Laws.Tables.{grows_none, grows_then}
use Rattle.text_forms.specs.Mirror.Stores.{put, up_from, put_number, after_number}
use Rattle.text_forms.specs.Mirror.Wrote.{nodes_of, Wrote}
use Rattle.text_forms.specs.Laws.Stores.{put-long, put-set, up_room, sets-append}
use Rattle.text_forms.specs.Laws.Wrote.{nodes-size}
use Rattle.text_forms.specs.Steps.Stores.{number-long, number-sets, number-room, node-before}

module _ {s code code' : List ℕ} {t : Names} {out out' : ℕ} where
  pub wrote_num : (n : ℕ) → out' ≡ after_number out n → code' ≡ put_number code out n → Wrote s t t code code' out out' (num n)
  unfolding expr_vars expr_size nodes_of expr_words rename_expr
  wrote_num n o c =
      record {
        vars = grows_none;
        long = ap length c ∙ number-long code out n;
        size = λ h. o ∙ number-room out n h;
        words = λ all more k l h. c ∙ number-sets code out n l h;
      }

  pub wrote_bool : (b : Bool) (v : ℕ) → v ≡ node truth_node (bit b) → out' ≡ up_from out → code' ≡ put code out v → Wrote s t t code code' out out' (bool b)
  unfolding expr_vars expr_size nodes_of expr_words rename_expr
  wrote_bool b v z o c =
      record {
        vars = grows_none;
        long = ap length c ∙ put-long code out v;
        size = λ h. o ∙ up_room out h;
        words = λ all more k l h. c ∙ put-set code out v l ∙ ap (set code out) z;
      }

pub wrote_neg : {s code code₁ code' : List ℕ} {t t' : Names} {out out₁ out' : ℕ} {e : Expr Name} → code₁ ≡ put code out (node not_node 0) → out₁ ≡ up_from out → Wrote s t t' code₁ code' out₁ out' e → Wrote s t t' code code' out out' (neg e)
unfolding expr_vars
wrote_neg {s} {code} {code₁} {code'} {t} {t'} {out} {out₁} {out'} {e} c o w =
    record {
      vars = w.vars;
      long = w.long ∙ ap length c ∙ put-long code out (node not_node 0);
      size = at_size;
      words = at_words;
    }
  where
    room : out + expr_size (neg e) ≤ code_words → out + 1 + expr_size e ≤ code_words
    room h = unfold expr_size in omega arith

    placed : out + expr_size (neg e) ≤ code_words → out₁ ≡ out + 1
    placed h = o ∙ up_room out (omega (arith, room h))

    at_size : out + expr_size (neg e) ≤ code_words → out' ≡ out + expr_size (neg e)
    at_size h = w.size (omega (arith, room h, placed h)) ∙ (unfold expr_size in omega (arith, placed h))

    at_words : (all more : List Name) → Kept s most_variables t all → length code ≡ code_words → out + expr_size (neg e) ≤ code_words → code' ≡ sets code out (nodes_of (with_names all (expr_vars e ++ more)) (neg e))
    at_words all more k l h =
        w.words all more k (ap length c ∙ put-long code out (node not_node 0) ∙ l) (omega (arith, room h, placed h))
        ∙ ap (λ (n : ℕ). sets code₁ n (nodes_of (with_names all (expr_vars e ++ more)) e)) (placed h)
        ∙ ap (λ (x : List ℕ). sets x (out + 1) (nodes_of (with_names all (expr_vars e ++ more)) e)) (c ∙ put-set code out (node not_node 0) l)
        ∙ ap (λ (n : ℕ). sets (set code out (node not_node 0)) n (nodes_of (with_names all (expr_vars e ++ more)) e)) (add-one out)
        ∙ (unfold nodes_of expr_words rename_expr in refl)

-- an operator's node stands before the words of its operands, and is stored between them
module _ {s code code₁ code₂ code' : List ℕ} {t t₁ t' : Names} {out₀ out₁ out' len op : ℕ} {a b : Expr Name} (out : ℕ) (o : Op) (u : out₀ ≡ up_from out) (wa : Wrote s t t₁ code code₁ out₀ out₁ a) (q : op ≡ Code.op_word o) (c : code₂ ≡ put code₁ out (node op len)) (l : out + 1 ≤ out₁ → len ≡ out₁ - (out + 1)) (wb : Wrote s t₁ t' code₂ code' out₁ out' b) where
  room : out + expr_size (bin o a b) ≤ code_words → out + 1 + expr_size a + expr_size b ≤ code_words
  unfolding expr_size
  room h = omega arith

  start : out + expr_size (bin o a b) ≤ code_words → out₀ ≡ out + 1
  start h = u ∙ up_room out (omega (arith, room h))

  middle : out + expr_size (bin o a b) ≤ code_words → out₁ ≡ out + 1 + expr_size a
  middle h = let z = start h in wa.size (omega (arith, room h)) ∙ omega arith

  end : out + expr_size (bin o a b) ≤ code_words → out' ≡ out + expr_size (bin o a b)
  unfolding expr_size
  end h = let z = middle h in wb.size (omega (arith, room h)) ∙ omega arith

  long₂ : length code₂ ≡ length code
  long₂ = ap length c ∙ put-long code₁ out (node op len) ∙ wa.long

  module _ (all more : List Name) (k : Kept s most_variables t all) (lc : length code ≡ code_words) (h : out + expr_size (bin o a b) ≤ code_words) where
    first-words : code₁ ≡ sets code (out + 1) (nodes_of (with_names all (expr_vars a ++ (expr_vars b ++ more))) a)
    first-words = let z = start h in wa.words all (expr_vars b ++ more) k lc (omega (arith, room h)) ∙ ap (λ (n : ℕ). sets code n (nodes_of (with_names all (expr_vars a ++ (expr_vars b ++ more))) a)) z

    counted : len ≡ expr_size a
    counted = let z = middle h in l (omega arith) ∙ omega arith

    both_words : code₂ ≡ sets code out (node op len ∷ nodes_of (with_names all (expr_vars a ++ (expr_vars b ++ more))) a)
    both_words = c ∙ put-set code₁ out (node op len) (wa.long ∙ lc) ∙ ap (λ (x : List ℕ). set x out (node op len)) first-words ∙ node-before code out (node op len) (nodes_of (with_names all (expr_vars a ++ (expr_vars b ++ more))) a)

    second-words : code' ≡ sets code₂ (out + 1 + expr_size a) (nodes_of (with_names all (expr_vars a ++ (expr_vars b ++ more))) b)
    second-words =
        let z = middle h in
        wb.words (with_names all (expr_vars a)) more (wa.vars.kept all k) (long₂ ∙ lc) (omega (arith, room h))
        ∙ ap (λ (n : ℕ). sets code₂ n (nodes_of (with_names (with_names all (expr_vars a)) (expr_vars b ++ more)) b)) z
        ∙ ap (λ (ns : List Name). sets code₂ (out + 1 + expr_size a) (nodes_of ns b)) (sym (with_names-append all (expr_vars a) (expr_vars b ++ more)))

    joined : code' ≡ sets code out (node op len ∷ (nodes_of (with_names all (expr_vars a ++ (expr_vars b ++ more))) a ++ nodes_of (with_names all (expr_vars a ++ (expr_vars b ++ more))) b))
    joined =
        let z : out + 1 + expr_size a ≡ out + length (node op len ∷ nodes_of (with_names all (expr_vars a ++ (expr_vars b ++ more))) a) = omega (arith, nodes-size (with_names all (expr_vars a ++ (expr_vars b ++ more))) a) in
        second-words
        ∙ ap (λ (x : List ℕ). sets x (out + 1 + expr_size a) (nodes_of (with_names all (expr_vars a ++ (expr_vars b ++ more))) b)) both_words
        ∙ ap (λ (n : ℕ). sets (sets code out (node op len ∷ nodes_of (with_names all (expr_vars a ++ (expr_vars b ++ more))) a)) n (nodes_of (with_names all (expr_vars a ++ (expr_vars b ++ more))) b)) z
        ∙ sym (sets-append code out (node op len ∷ nodes_of (with_names all (expr_vars a ++ (expr_vars b ++ more))) a) (nodes_of (with_names all (expr_vars a ++ (expr_vars b ++ more))) b))

    node-is : (ns : List Name) → node (Code.op_word o) (length (nodes_of ns a)) ∷ (nodes_of ns a ++ nodes_of ns b) ≡ nodes_of ns (bin o a b)
    unfolding nodes_of expr_words rename_expr
    node-is ns = refl

    whole : code' ≡ sets code out (nodes_of (with_names all (expr_vars (bin o a b) ++ more)) (bin o a b))
    whole =
        let ns = with_names all (expr_vars a ++ (expr_vars b ++ more)) in
        joined
        ∙ ap (λ (i : ℕ). sets code out (node i len ∷ (nodes_of ns a ++ nodes_of ns b))) q
        ∙ ap (λ (i : ℕ). sets code out (node (Code.op_word o) i ∷ (nodes_of ns a ++ nodes_of ns b))) (counted ∙ sym (nodes-size ns a))
        ∙ ap (sets code out) (node-is ns)
        ∙ ap (λ (ws : List Name). sets code out (nodes_of (with_names all ws) (bin o a b))) grouped
      where
        grouped : expr_vars a ++ (expr_vars b ++ more) ≡ expr_vars (bin o a b) ++ more
        grouped = unfold expr_vars in sym (append_assoc (expr_vars a) (expr_vars b) more)

  pub wrote_bin : Wrote s t t' code code' out out' (bin o a b)
  wrote_bin = record { vars = together; long = wb.long ∙ long₂; size = end; words = whole }
    where
      together : Grows s most_variables t t' (expr_vars (bin o a b))
      together = unfold expr_vars in grows_then wa.vars wb.vars

-- the same as the code has it: a word is left for the node at `at`, and stored between the operands
pub wrote_op : {s code code₀ code₁ code₂ code' : List ℕ} {t t₁ t' : Names} {out out₀ out₁ out₂ out' at : ℕ} {a b : Expr Name} {o : Op} (x : Operator) → code₀ ≡ code → (out₀ ≡ up_from out) × (at ≡ out) → Wrote s t t₁ code₀ code₁ out₀ out₁ a → op_of x ≡ o → code₂ ≡ put code₁ at (node (operator_number x) (out₁ - (at + 1))) → out₂ ≡ out₁ → Wrote s t₁ t' code₂ code' out₂ out' b → Wrote s t t' code code' out out' (bin o a b)
wrote_op {s} {code₁ = code₁} {code₂} {code'} {t} {t₁} {t'} {out = out} {out₀} {out₁} {out' = out'} {a = a} {b} {o} x k (u, z) wa q c y wb =
    wrote_bin out o u (subst (λ (ws : List ℕ). Wrote s t t₁ ws code₁ out₀ out₁ a) k wa) (sym (operator-word x) ∙ ap Code.op_word q) (c ∙ ap (λ (i : ℕ). put code₁ i (node (operator_number x) (out₁ - (i + 1)))) z) (λ h. refl) (subst (λ (i : ℕ). Wrote s t₁ t' code₂ code' i out' b) y wb)
