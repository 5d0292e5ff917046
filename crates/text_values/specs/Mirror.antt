-- What each function answers, in the code's own terms: what reading a command that sets a variable does to the tables of names and to the words
-- of the program, and the beginning that `lookup` and `mutate` have in common. Assumes nothing.
use Rattle.std.specs.Prelude.{ℕ, suc, ◌+◌, ◌≤◌, ◌<◌, ◌≡◌, false, List, [], ◌∷◌, ◌++◌, length, Option, None, Some}
use Rattle.std.proofs.lemmas.List.Edits.{sets}
use Rattle.gil.specs.Tree.{Expr, Cmd, assign, ifgoto, call, lookup, mutate, dispose, u_sym, i_sym, return, fail, vanish, Name}
use Rattle.gil.specs.Names.{cmd_vars, cmd_properties, cmd_calls, is_end, rename_cmd, with_names}
use Rattle.machine_code.specs.Code.{cmd_nodes, cmd_words, code_words}
use Rattle.machine_code.proofs.Accepted.Sizes.{cmd_size}
use Rattle.gil.specs.Numbers.{most_procedures, most_properties, most_variables}
use Rattle.text_names.specs.declared.Names.{Names}
use Rattle.text_names.specs.Mirror.Tables.{Kept, number_in, Grows}
use Rattle.gil.specs.Reading.{faulty, Reader, ◌>>=◌, ◌>>◌, the_mark, the_property, expr}

-- one more than the number that a command jumps to
unfoldable pub jump_at : Cmd Name → ℕ
jump_at (assign v e) = 0
jump_at (ifgoto e n) = suc n
jump_at (call v f e) = 0
jump_at (lookup v e p) = 0
jump_at (mutate v e p d) = 0
jump_at (dispose v e) = 0
jump_at (u_sym v j) = 0
jump_at (i_sym v j) = 0
jump_at (return e) = 0
jump_at (fail e) = 0
jump_at vanish = 0

-- a command with its names numbered by tables that took in the names `vs`, `qs` and `fs`; callees are linked later
unfoldable pub numbered : List Name → List Name → List Name → Cmd Name → Cmd ℕ
numbered vs qs fs c = rename_cmd (number_in most_variables vs) (number_in most_properties qs) (number_in most_procedures fs) c

-- a command that sets the variable `v`, but for that: the variables read (table `t`), its property (`p`) and its callee (`k`)
pub record Sets (s : List ℕ) (v : Name) (t t' p p' k k' : Names) (code code' : List ℕ) (out out' kind place other second : ℕ) (c : Cmd Name) : Type 0 where
  pub reads : List Name
  pub variables : cmd_vars c ≡ v ∷ reads
  pub vars : Grows s most_variables t t' reads
  pub props : Grows s most_properties p p' (cmd_properties c)
  pub calls : Grows s most_procedures k k' (cmd_calls c)
  pub on : jump_at c ≡ 0
  pub stays : is_end c ≡ false
  pub long : length code' ≡ length code
  pub size : out + cmd_size c ≤ code_words → out' ≡ out + cmd_size c
  pub words : (vs vm qs qm fs fm : List Name) → Kept s most_variables t vs → Kept s most_properties p qs → Kept s most_procedures k fs → length code ≡ code_words → out + cmd_size c ≤ code_words → (code' ≡ sets code out (cmd_nodes (numbered (with_names vs (reads ++ vm)) (with_names qs (cmd_properties c ++ qm)) (with_names fs (cmd_calls c ++ fm)) c))) × (kind ∷ number_in most_variables (with_names vs (reads ++ vm)) v ∷ place ∷ other ∷ second ∷ [] ≡ cmd_words out (numbered (with_names vs (reads ++ vm)) (with_names qs (cmd_properties c ++ qm)) (with_names fs (cmd_calls c ++ fm)) c))

-- `([e, "p"`, the beginning that `lookup` and `mutate` have in common, and what reads on
unfoldable pub opening : (Expr Name → Name → Reader (Cmd Name)) → Reader (Cmd Name)
opening f = do
  the_mark 40
  the_mark 91
  e ← expr
  the_mark 44
  p ← the_property
  f e p

-- what `cell_of` answers: a fault whatever reads on, or an `e` that has `E` and a property that has `R`, and what reads on reads from there
pub data Opens (s : List ℕ) (at : ℕ) (E : Expr Name → Type 0) (R : ℕ → Name → Type 0) : Option (ℕ × ℕ) → Type 0 where
  broken : ((f : Expr Name → Name → Reader (Cmd Name)) → opening f s at ≡ faulty) → Opens s at E R None
  opened : {e : Expr Name} {p : Name} {q n : ℕ} → ((f : Expr Name → Name → Reader (Cmd Name)) → opening f s at ≡ f e p s n) → at < n → n ≤ length s → E e → R q p → Opens s at E R (Some (q, n))
