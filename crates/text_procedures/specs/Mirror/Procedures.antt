-- What reading a procedure, and all of them, does. Assumes nothing.
use Rattle.std.specs.Prelude.{ℕ, ◌+◌, ◌≤◌, ◌<◌, ◌≡◌, Bool, List, [], ◌∷◌, ◌++◌, map, length, ltb}
use Rattle.gil.specs.Tree.{Cmd, Proc, Name}
use Rattle.gil.specs.Names.{any, gather, cmd_properties, cmd_calls, jumps_past, ends_open, with_names, proc_vars}
use Rattle.machine_code.specs.Code.{code_words, nodes_at}
use Rattle.gil.specs.Numbers.{most_commands, most_procedures, most_properties, most_variables}
use Rattle.text_names.specs.declared.Names.{Names}
use Rattle.text_names.specs.Mirror.Tables.{Kept, Grows}
use Rattle.text_procedures.specs.Mirror.Lists.{body_size}
use Rattle.text_procedures.specs.Mirror.Words.{proc_of, proc_stored, program_stored}

-- a procedure
pub record Declares (s : List ℕ) (p p' k k' q q' : Names) (code code' : List ℕ) (number from out out' count : ℕ) (wide past unended : Bool) (r : Proc Name) : Type 0 where
  pub props : Grows s most_properties p p' (gather cmd_properties r.body)
  pub calls : Grows s most_procedures k k' (gather cmd_calls r.body)
  pub procs : Grows s most_procedures q q' (r.name ∷ [])
  pub counted : count ≡ length r.body
  pub wider : wide ≡ ltb most_variables (length (proc_vars r))
  pub passes : past ≡ any (jumps_past (length r.body)) r.body
  pub stays : unended ≡ ends_open r.body
  pub long : length code' ≡ length code
  pub size : out + body_size r.body ≤ code_words → out' ≡ out + body_size r.body
  pub words : (ns nm fs fm : List Name) → Kept s most_properties p ns → Kept s most_procedures k fs → length code ≡ code_words → nodes_at ≤ out → out + body_size r.body ≤ code_words → from + length r.body ≤ most_commands → number < most_procedures → code' ≡ proc_stored code number from out (proc_of (with_names ns (gather cmd_properties r.body ++ nm)) (with_names fs (gather cmd_calls r.body ++ fm)) r)

-- what is told of one procedure
abbrev pub wide_of : Proc Name → Bool
wide_of r = ltb most_variables (length (proc_vars r))

abbrev pub past_of : Proc Name → Bool
past_of r = any (jumps_past (length r.body)) r.body

abbrev pub open_of : Proc Name → Bool
open_of r = ends_open r.body

abbrev pub props_of : Proc Name → List Name
props_of r = gather cmd_properties r.body

abbrev pub calls_of : Proc Name → List Name
calls_of r = gather cmd_calls r.body

abbrev pub all_of : List (Proc Name) → List (Cmd Name)
all_of ps = gather (λ r. r.body) ps

-- all procedures
pub record Tells (s : List ℕ) (p p' k k' q q' : Names) (code code' : List ℕ) (procs commands : ℕ) (wide past unended : Bool) (ps : List (Proc Name)) : Type 0 where
  pub props : Grows s most_properties p p' (gather props_of ps)
  pub calls : Grows s most_procedures k k' (gather calls_of ps)
  pub names : Grows s most_procedures q q' (gather (λ r. r.name ∷ []) ps)
  pub counted : procs ≡ length ps
  pub summed : commands ≡ length (gather (λ r. r.body) ps)
  pub wider : wide ≡ any wide_of ps
  pub passes : past ≡ any past_of ps
  pub stays : unended ≡ any open_of ps
  pub long : length code' ≡ length code
  pub words : (ns nm fs fm : List Name) → Kept s most_properties p ns → Kept s most_procedures k fs → length code ≡ code_words → nodes_at + body_size (all_of ps) ≤ code_words → length (all_of ps) ≤ most_commands → length ps ≤ most_procedures → code' ≡ program_stored code (map (proc_of (with_names ns (gather props_of ps ++ nm)) (with_names fs (gather calls_of ps ++ fm))) ps)
