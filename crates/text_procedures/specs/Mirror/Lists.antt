-- What reading the commands of a procedure does. Assumes nothing.
use Rattle.std.specs.Prelude.{ℕ, ◌+◌, ◌≤◌, max, ◌≡◌, Bool, not, List, [], ◌∷◌, ◌++◌, map, length}
use Rattle.std.proofs.lemmas.List.Edits.{sets}
use Rattle.gil.specs.Tree.{Cmd, Name}
use Rattle.gil.specs.Names.{gather, cmd_vars, cmd_properties, cmd_calls, ends_open, with_names}
use Rattle.machine_code.specs.Code.{cmd_nodes, command_words, code_words, nodes_at, command_at}
use Rattle.machine_code.proofs.Accepted.Sizes.{cmd_size}
use Rattle.gil.specs.Numbers.{most_commands, most_procedures, most_properties, most_variables}
use Rattle.text_names.specs.declared.Names.{Names}
use Rattle.text_names.specs.Mirror.Tables.{Kept, Grows}
use Rattle.text_values.specs.Mirror.{jump_at, numbered}

-- one more than the highest number that commands jump to
unfoldable pub highest : List (Cmd Name) → ℕ
highest [] = 0
highest (c ∷ cs) = max (jump_at c) (highest cs)

-- how many words the expressions of commands take
unfoldable pub body_size : List (Cmd Name) → ℕ
body_size [] = 0
body_size (c ∷ cs) = cmd_size c + body_size cs

-- the words of commands: their nodes from `out` on, their five words each from that of command `first` on
unfoldable pub body_stored : List ℕ → ℕ → ℕ → List (Cmd ℕ) → List ℕ
body_stored code first out rs = sets (sets code out (gather cmd_nodes rs)) (command_at first) (command_words out rs)

-- the commands of a procedure: `first` is the number of the first of them among all
pub record Lists (s : List ℕ) (t t' p p' k k' : Names) (code code' : List ℕ) (first out out' count jump : ℕ) (ends : Bool) (cs : List (Cmd Name)) : Type 0 where
  pub vars : Grows s most_variables t t' (gather cmd_vars cs)
  pub props : Grows s most_properties p p' (gather cmd_properties cs)
  pub calls : Grows s most_procedures k k' (gather cmd_calls cs)
  pub counted : count ≡ length cs
  pub jumps : jump ≡ highest cs
  pub ending : ends_open cs ≡ not ends
  pub long : length code' ≡ length code
  pub size : out + body_size cs ≤ code_words → out' ≡ out + body_size cs
  pub words : (vs vm qs qm fs fm : List Name) → Kept s most_variables t vs → Kept s most_properties p qs → Kept s most_procedures k fs → length code ≡ code_words → nodes_at ≤ out → out + body_size cs ≤ code_words → first + length cs ≤ most_commands → code' ≡ body_stored code first out (map (numbered (with_names vs (gather cmd_vars cs ++ vm)) (with_names qs (gather cmd_properties cs ++ qm)) (with_names fs (gather cmd_calls cs ++ fm))) cs)
