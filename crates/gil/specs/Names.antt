-- "Numbered refusals": the names of a program tree, the tests behind refusals 5 to 8, each over the whole text before the next, and the
-- accepted program, in which every name is a number. Assumes nothing.
use Rattle.std.specs.Prelude.{ℕ, suc, Bool, true, false, not, ◌||◌, List, [], ◌∷◌, ◌++◌, map, length, ltb, leb}
use Rattle.gil.specs.Text.{bytes, same}
use Rattle.gil.specs.Numbers.{most_bytes, most_procedures, most_commands, most_variables, most_properties, for_length, for_form, for_limits, for_names, for_jump, for_end}
use Rattle.gil.specs.Tree.{Expr, num, bool, var, neg, bin, Cmd, assign, ifgoto, call, lookup, mutate, dispose, u_sym, i_sym, return, fail, vanish, Proc, Name}
use Rattle.gil.specs.Reading.{Read, faulty, read, procedures}

-- lists of anything, tested and joined
unfoldable pub any : {A : Type 0} → (A → Bool) → List A → Bool
any p [] = false
any p (a ∷ l) = p a || any p l

unfoldable pub gather : {A B : Type 0} → (A → List B) → List A → List B
gather f [] = []
gather f (a ∷ l) = f a ++ gather f l

-- a name stands in a list; the place where it first stands, or the length
unfoldable pub has : Name → List Name → Bool
has w ns = any (same w) ns

unfoldable pub place_of : Name → List Name → ℕ
place_of w [] = 0
place_of w (n ∷ ns) = elim (same w n) [ true ↦ 0 | false ↦ suc (place_of w ns) ]

-- the distinct names of a list, in order of first appearance, after those known already
unfoldable pub with_name : List Name → Name → List Name
with_name ns w = elim (has w ns) [ true ↦ ns | false ↦ ns ++ (w ∷ []) ]

unfoldable pub with_names : List Name → List Name → List Name
with_names ns [] = ns
with_names ns (w ∷ ws) = with_names (with_name ns w) ws

unfoldable pub distinct : List Name → List Name
distinct ws = with_names [] ws

-- the names in variable places, as they stand: a target comes before its expression's
unfoldable pub expr_vars : Expr Name → List Name
expr_vars (num n) = []
expr_vars (bool b) = []
expr_vars (var x) = x ∷ []
expr_vars (neg e) = expr_vars e
expr_vars (bin o a b) = expr_vars a ++ expr_vars b

unfoldable pub cmd_vars : Cmd Name → List Name
cmd_vars (assign v e) = v ∷ expr_vars e
cmd_vars (ifgoto e n) = expr_vars e
cmd_vars (call v f e) = v ∷ expr_vars e
cmd_vars (lookup v e p) = v ∷ expr_vars e
cmd_vars (mutate v e p d) = v ∷ (expr_vars e ++ expr_vars d)
cmd_vars (dispose v e) = v ∷ expr_vars e
cmd_vars (u_sym v j) = v ∷ []
cmd_vars (i_sym v j) = v ∷ []
cmd_vars (return e) = expr_vars e
cmd_vars (fail e) = expr_vars e
cmd_vars vanish = []

-- the properties of a command, and the procedures that it calls
unfoldable pub cmd_properties : Cmd Name → List Name
cmd_properties (assign v e) = []
cmd_properties (ifgoto e n) = []
cmd_properties (call v f e) = []
cmd_properties (lookup v e p) = p ∷ []
cmd_properties (mutate v e p d) = p ∷ []
cmd_properties (dispose v e) = []
cmd_properties (u_sym v j) = []
cmd_properties (i_sym v j) = []
cmd_properties (return e) = []
cmd_properties (fail e) = []
cmd_properties vanish = []

unfoldable pub cmd_calls : Cmd Name → List Name
cmd_calls (assign v e) = []
cmd_calls (ifgoto e n) = []
cmd_calls (call v f e) = f ∷ []
cmd_calls (lookup v e p) = []
cmd_calls (mutate v e p d) = []
cmd_calls (dispose v e) = []
cmd_calls (u_sym v j) = []
cmd_calls (i_sym v j) = []
cmd_calls (return e) = []
cmd_calls (fail e) = []
cmd_calls vanish = []

-- "16 variables in a procedure (parameter included)", "32 distinct properties"
unfoldable pub proc_vars : Proc Name → List Name
proc_vars p = distinct (p.parameter ∷ gather cmd_vars p.body)

unfoldable pub properties : List (Proc Name) → List Name
properties ps = distinct (gather (λ p. gather cmd_properties p.body) ps)

unfoldable pub proc_names : List (Proc Name) → List Name
proc_names ps = map (λ p. p.name) ps

-- 5: "over 16 procedures, 512 commands in all, 16 variables in a procedure (parameter included), or 32 distinct properties"
unfoldable pub over_limits : List (Proc Name) → Bool
over_limits ps =
    ltb most_procedures (length ps)
    || ltb most_commands (length (gather (λ p. p.body) ps))
    || any (λ p. ltb most_variables (length (proc_vars p))) ps
    || ltb most_properties (length (properties ps))

-- 6: "two procedures of one name, a call of a procedure that is not there, or no `main`"
unfoldable pub repeated : List Name → Bool
repeated [] = false
repeated (w ∷ ws) = has w ws || repeated ws

unfoldable pub wrong_names : List (Proc Name) → Bool
wrong_names ps =
    let ns = proc_names ps in
    repeated ns || any (λ f. not (has f ns)) (gather (λ p. gather cmd_calls p.body) ps) || not (has (bytes "main") ns)

-- 7: "a jump number not below its procedure's count of commands"
unfoldable pub jumps_past : ℕ → Cmd Name → Bool
jumps_past count (assign v e) = false
jumps_past count (ifgoto e n) = leb count n
jumps_past count (call v f e) = false
jumps_past count (lookup v e p) = false
jumps_past count (mutate v e p d) = false
jumps_past count (dispose v e) = false
jumps_past count (u_sym v j) = false
jumps_past count (i_sym v j) = false
jumps_past count (return e) = false
jumps_past count (fail e) = false
jumps_past count vanish = false

unfoldable pub wrong_jump : List (Proc Name) → Bool
wrong_jump ps = any (λ p. any (jumps_past (length p.body)) p.body) ps

-- 8: "a procedure whose last command is not return, fail or vanish"
unfoldable pub is_end : Cmd Name → Bool
is_end (assign v e) = false
is_end (ifgoto e n) = false
is_end (call v f e) = false
is_end (lookup v e p) = false
is_end (mutate v e p d) = false
is_end (dispose v e) = false
is_end (u_sym v j) = false
is_end (i_sym v j) = false
is_end (return e) = true
is_end (fail e) = true
is_end vanish = true

unfoldable pub ends_open : List (Cmd Name) → Bool
ends_open [] = true
ends_open (c ∷ []) = not (is_end c)
ends_open (c ∷ d ∷ cs) = ends_open (d ∷ cs)

unfoldable pub wrong_end : List (Proc Name) → Bool
wrong_end ps = any (λ p. ends_open p.body) ps

-- names replaced by numbers: variables, properties, procedures
unfoldable pub rename_expr : (Name → ℕ) → Expr Name → Expr ℕ
rename_expr v (num n) = num n
rename_expr v (bool b) = bool b
rename_expr v (var x) = var (v x)
rename_expr v (neg e) = neg (rename_expr v e)
rename_expr v (bin o a b) = bin o (rename_expr v a) (rename_expr v b)

unfoldable pub rename_cmd : (v p f : Name → ℕ) → Cmd Name → Cmd ℕ
rename_cmd v p f (assign x e) = assign (v x) (rename_expr v e)
rename_cmd v p f (ifgoto e n) = ifgoto (rename_expr v e) n
rename_cmd v p f (call x g e) = call (v x) (f g) (rename_expr v e)
rename_cmd v p f (lookup x e q) = lookup (v x) (rename_expr v e) (p q)
rename_cmd v p f (mutate x e q d) = mutate (v x) (rename_expr v e) (p q) (rename_expr v d)
rename_cmd v p f (dispose x e) = dispose (v x) (rename_expr v e)
rename_cmd v p f (u_sym x j) = u_sym (v x) j
rename_cmd v p f (i_sym x j) = i_sym (v x) j
rename_cmd v p f (return e) = return (rename_expr v e)
rename_cmd v p f (fail e) = fail (rename_expr v e)
rename_cmd v p f vanish = vanish

-- an accepted procedure: its name, the number of its variables (the parameter is variable 0), its commands
pub record Procedure : Type 0 where
  pub name : Name
  pub variables : ℕ
  pub body : List (Cmd ℕ)

-- an accepted program; `main` is the number of that procedure
pub record Program : Type 0 where
  pub procedures : List Procedure
  pub main : ℕ

unfoldable pub number_proc : (p f : Name → ℕ) → Proc Name → Procedure
number_proc p f q =
    let vs = proc_vars q in
    record { name = q.name; variables = length vs; body = map (rename_cmd (λ w. place_of w vs) p f) q.body }

unfoldable pub number_program : List (Proc Name) → Program
number_program ps =
    let qs = properties ps in
    let fs = proc_names ps in
    record {
      procedures = map (number_proc (λ w. place_of w qs) (λ w. place_of w fs)) ps;
      main = place_of (bytes "main") fs;
    }

-- what a text is: refused by a number from 3 to 8, or accepted
pub data Checked : Type 0 where
  refused : ℕ → Checked
  accepted : Program → Checked

unfoldable pub refused_if : Bool → ℕ → Checked → Checked
refused_if true n t = refused n
refused_if false n t = t

unfoldable pub tested : Read (List (Proc Name)) → Checked
tested faulty = refused for_form
tested (read ps next) =
    refused_if (over_limits ps) for_limits
    (refused_if (wrong_names ps) for_names
    (refused_if (wrong_jump ps) for_jump
    (refused_if (wrong_end ps) for_end
    (accepted (number_program ps)))))

-- 3: "text longer than 16,384 bytes"
unfoldable pub check_text : List ℕ → Checked
check_text s = elim (ltb most_bytes (length s)) [ true ↦ refused for_length | false ↦ tested (procedures s) ]
