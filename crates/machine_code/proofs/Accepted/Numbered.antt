-- Names replaced by numbers: sizes stay, and where each name has a place among the known ones the numbers are below their counts.
-- Assumes nothing.
use Prim.Native.Nat.{ℕ, ◌+◌, ◌≤◌}
use Rattle.std.proofs.Common.{arith, sym, ◌∙◌, length-append}
use Rattle.std.specs.Prelude.{◌≡◌, List, ◌∷◌, map}
use Rattle.std.proofs.Math.Path.{refl, ap₂}
use Rattle.std.proofs.Math.ListN.{length, length-map}
use Rattle.gil.specs.Tree.{Expr, num, bool, var, neg, bin, Cmd, assign, ifgoto, call, lookup, mutate, dispose, u_sym, i_sym, return, fail, vanish, Proc, Name}
use Rattle.gil.specs.Names.{Procedure, place_of, distinct, expr_vars, cmd_vars, cmd_properties, cmd_calls, proc_vars, rename_expr, rename_cmd, number_proc, gather}
use Rattle.machine_code.specs.Code.{expr_words, cmd_nodes}
use Rattle.machine_code.specs.WellFormed.{Each, none, more, ExprFits, a_number, a_truth, a_variable, a_not, an_operator, CmdFits, an_assign, a_jump, a_call, a_lookup, a_mutate, a_dispose, a_u_sym, an_i_sym, a_return, a_fail, a_vanish, ProcedureFits}
use Rattle.machine_code.proofs.Accepted.Lists.{each_to, each_both, each_append, each_map, each-gather, total, total_equal, length-gather, total-gather, total-map}
use Rattle.machine_code.proofs.Accepted.Places.{Known, place_of-below, place_of-within, distinct-has}
use Rattle.machine_code.proofs.Accepted.Sizes.{expr_size, cmd_size, proc_size, ExprSmall, small_number, small_truth, small_variable, small_not, small_operator, CmdSmall, small_assign, small_jump, small_call, small_lookup, small_mutate, small_dispose, small_u_sym, small_i_sym, small_return, small_fail, small_vanish, ProcSmall}

-- the size of a tree is how many words `Code` writes for it
pub expr_words-size : (e : Expr ℕ) → length (expr_words e) ≡ expr_size e
unfolding expr_words expr_size
expr_words-size (num n) = refl
expr_words-size (bool b) = refl
expr_words-size (var x) = refl
expr_words-size (neg e) = omega (arith, expr_words-size e)
expr_words-size (bin o a b) = omega (arith, length-append (expr_words a) (expr_words b), expr_words-size a, expr_words-size b)

pub cmd_nodes-size : (c : Cmd ℕ) → length (cmd_nodes c) ≡ cmd_size c
unfolding cmd_nodes cmd_size
cmd_nodes-size (assign x e) = expr_words-size e
cmd_nodes-size (ifgoto e n) = expr_words-size e
cmd_nodes-size (call x f e) = expr_words-size e
cmd_nodes-size (lookup x e q) = expr_words-size e
cmd_nodes-size (mutate x e q d) = omega (arith, length-append (expr_words e) (expr_words d), expr_words-size e, expr_words-size d)
cmd_nodes-size (dispose x e) = expr_words-size e
cmd_nodes-size (u_sym x j) = refl
cmd_nodes-size (i_sym x j) = refl
cmd_nodes-size (return e) = expr_words-size e
cmd_nodes-size (fail e) = expr_words-size e
cmd_nodes-size vanish = refl

-- renaming keeps sizes
module _ (v : Name → ℕ) where
  pub rename_expr-size : (e : Expr Name) → expr_size (rename_expr v e) ≡ expr_size e
  unfolding rename_expr expr_size
  rename_expr-size (num n) = refl
  rename_expr-size (bool b) = refl
  rename_expr-size (var x) = refl
  rename_expr-size (neg e) = omega (arith, rename_expr-size e)
  rename_expr-size (bin o a b) = omega (arith, rename_expr-size a, rename_expr-size b)

  pub rename_cmd-size : (p f : Name → ℕ) (c : Cmd Name) → cmd_size (rename_cmd v p f c) ≡ cmd_size c
  unfolding rename_cmd cmd_size
  rename_cmd-size p f (assign x e) = rename_expr-size e
  rename_cmd-size p f (ifgoto e n) = rename_expr-size e
  rename_cmd-size p f (call x g e) = rename_expr-size e
  rename_cmd-size p f (lookup x e q) = rename_expr-size e
  rename_cmd-size p f (mutate x e q d) = ap₂ ◌+◌ (rename_expr-size e) (rename_expr-size d)
  rename_cmd-size p f (dispose x e) = rename_expr-size e
  rename_cmd-size p f (u_sym x j) = refl
  rename_cmd-size p f (i_sym x j) = refl
  rename_cmd-size p f (return e) = rename_expr-size e
  rename_cmd-size p f (fail e) = rename_expr-size e
  rename_cmd-size p f vanish = refl

-- a small expression whose variables are known
pub rename_expr-fits :
    (vs : List Name) {d : ℕ} {e : Expr Name}
    → ExprSmall d e
    → Known vs (expr_vars e)
    → ExprFits (length vs) d (rename_expr (λ w. place_of w vs) e)
unfolding expr_vars rename_expr
rename_expr-fits vs (small_number h) k = a_number h
rename_expr-fits vs small_truth k = a_truth
rename_expr-fits vs (small_variable {x}) (more k none) = a_variable (place_of-below x vs k)
rename_expr-fits vs (small_not h) k = a_not (rename_expr-fits vs h k)
rename_expr-fits vs (small_operator {a} {b} h i) k =
    let (x, y) = each_append (expr_vars a) (expr_vars b) k in
    an_operator (rename_expr-fits vs h x) (rename_expr-fits vs i y)

-- a small command whose variables, properties and procedures are known
pub rename_cmd-fits :
    (vs qs fs : List Name)
    → length qs ≤ 32
    → {c : Cmd Name}
    → CmdSmall c
    → Known vs (cmd_vars c)
    → Known qs (cmd_properties c)
    → Known fs (cmd_calls c)
    → CmdFits (length vs) (length fs) (rename_cmd (λ w. place_of w vs) (λ w. place_of w qs) (λ w. place_of w fs) c)
unfolding cmd_vars cmd_properties cmd_calls rename_cmd
rename_cmd-fits vs qs fs few (small_assign {x} h) (more v es) ps cs = an_assign (place_of-below x vs v) (rename_expr-fits vs h es)
rename_cmd-fits vs qs fs few (small_jump h n) es ps cs = a_jump (rename_expr-fits vs h es) n
rename_cmd-fits vs qs fs few (small_call {x} {f} h) (more v es) ps (more c none) =
    a_call (place_of-below x vs v) (place_of-below f fs c) (rename_expr-fits vs h es)
rename_cmd-fits vs qs fs few (small_lookup {x} {q} h) (more v es) (more p none) cs =
    a_lookup (place_of-below x vs v) (rename_expr-fits vs h es) (place_of-within q qs few p)
rename_cmd-fits vs qs fs few (small_mutate {x} {q} {e} {d} h i) (more v es) (more p none) cs =
    let (a, b) = each_append (expr_vars e) (expr_vars d) es in
    a_mutate (place_of-below x vs v) (rename_expr-fits vs h a) (place_of-within q qs few p) (rename_expr-fits vs i b)
rename_cmd-fits vs qs fs few (small_dispose {x} h) (more v es) ps cs = a_dispose (place_of-below x vs v) (rename_expr-fits vs h es)
rename_cmd-fits vs qs fs few (small_u_sym {x} {j} k) (more v none) ps cs = a_u_sym {j = j} (place_of-below x vs v) (omega arith)
rename_cmd-fits vs qs fs few (small_i_sym {x} {j} k) (more v none) ps cs = an_i_sym {j = j} (place_of-below x vs v) (omega arith)
rename_cmd-fits vs qs fs few (small_return h) es ps cs = a_return (rename_expr-fits vs h es)
rename_cmd-fits vs qs fs few (small_fail h) es ps cs = a_fail (rename_expr-fits vs h es)
rename_cmd-fits vs qs fs few small_vanish es ps cs = a_vanish

-- a small procedure of few variables, whose properties and calls are known
pub number_proc-fits :
    (qs fs : List Name)
    → length qs ≤ 32
    → (p : Proc Name)
    → ProcSmall p
    → length (proc_vars p) ≤ 16
    → Each (λ c. Known qs (cmd_properties c)) p.body
    → Each (λ c. Known fs (cmd_calls c)) p.body
    → ProcedureFits (length fs) (number_proc (λ w. place_of w qs) (λ w. place_of w fs) p)
unfolding number_proc proc_vars
number_proc-fits qs fs few p h v ps cs = known (distinct-has (p.parameter ∷ gather cmd_vars p.body))
  where
    vs : List Name
    vs = distinct (p.parameter ∷ gather cmd_vars p.body)

    known : Known vs (p.parameter ∷ gather cmd_vars p.body) → ProcedureFits (length fs) (number_proc (λ w. place_of w qs) (λ w. place_of w fs) p)
    known (more k ks) =
        record {
          some_variable = omega (arith, place_of-below p.parameter vs k);
          few_variables = v;
          some_command = rw length-map h.some;
          commands = each_map _ (each_to
              (λ c f. rename_cmd-fits vs qs fs few f.0 f.1.0 f.1.1.0 f.1.1.1)
              (each_both h.small (each_both (each-gather cmd_vars p.body ks) (each_both ps cs))));
        }

-- numbering the names of a program keeps how many commands it has, and how many words its expressions take
module _ (p f : Name → ℕ) where
  number_proc-commands : (q : Proc Name) → length (number_proc p f q).body ≡ length q.body
  unfolding number_proc
  number_proc-commands q = length-map q.body _

  number_proc-nodes : (q : Proc Name) → total (λ c. length (cmd_nodes c)) (number_proc p f q).body ≡ proc_size q
  unfolding number_proc
  number_proc-nodes q =
      total-map (λ c. length (cmd_nodes c)) (rename_cmd (λ w. place_of w (proc_vars q)) p f) q.body
      ∙ total_equal _ cmd_size (λ c. cmd_nodes-size _ ∙ rename_cmd-size (λ w. place_of w (proc_vars q)) p f c) q.body

  pub numbered-commands :
      (ps : List (Proc Name)) → length (gather (λ q. q.body) (map (number_proc p f) ps)) ≡ length (gather (λ q. q.body) ps)
  numbered-commands ps =
      length-gather (λ (q : Procedure). q.body) (map (number_proc p f) ps)
      ∙ total-map (λ q. length q.body) (number_proc p f) ps
      ∙ total_equal _ (λ q. length q.body) number_proc-commands ps
      ∙ sym (length-gather (λ (q : Proc Name). q.body) ps)

  pub numbered-nodes :
      (ps : List (Proc Name)) → length (gather cmd_nodes (gather (λ q. q.body) (map (number_proc p f) ps))) ≡ total proc_size ps
  numbered-nodes ps =
      length-gather cmd_nodes (gather (λ q. q.body) (map (number_proc p f) ps))
      ∙ total-gather (λ c. length (cmd_nodes c)) (λ (q : Procedure). q.body) (map (number_proc p f) ps)
      ∙ total-map (λ q. total (λ c. length (cmd_nodes c)) q.body) (number_proc p f) ps
      ∙ total_equal _ proc_size number_proc-nodes ps
