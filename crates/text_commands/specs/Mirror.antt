-- What each function answers, in the code's own terms: what reading a command does to the tables of names and to the words of the program. Assumes nothing.
use Rattle.std.specs.Prelude.{ℕ, suc, ◌+◌, ◌≤◌, ◌<◌, ◌≡◌, Bool, List, ◌++◌, length, Option, None, Some}
use Rattle.std.proofs.lemmas.List.Edits.{sets}
use Rattle.gil.specs.Tree.{Expr, Cmd, return, fail, Name}
use Rattle.gil.specs.Names.{cmd_vars, cmd_properties, cmd_calls, is_end, with_names}
use Rattle.machine_code.specs.Code.{cmd_nodes, cmd_words, code_words, fail_kind, return_kind, command_at}
use Rattle.machine_code.proofs.Accepted.Sizes.{cmd_size}
use Rattle.gil.specs.Numbers.{most_commands, most_procedures, most_properties, most_variables}
use Rattle.text_names.specs.declared.Names.{Names}
use Rattle.text_names.specs.Mirror.Tables.{Kept, Grows}
use Rattle.gil.specs.Reading.{Reader, ◌>>=◌, token, as_word, command_word}
use Rattle.text_values.specs.Mirror.{jump_at, numbered}

-- one more than the number that is jumped to, if any is
abbrev pub one_past : Option ℕ → ℕ
one_past None = 0
one_past (Some n) = suc n

-- a command, number `n` of all
pub record Does (s : List ℕ) (t t' p p' k k' : Names) (code code' : List ℕ) (n out out' jump : ℕ) (ends : Bool) (c : Cmd Name) : Type 0 where
  pub vars : Grows s most_variables t t' (cmd_vars c)
  pub props : Grows s most_properties p p' (cmd_properties c)
  pub calls : Grows s most_procedures k k' (cmd_calls c)
  pub jumps : jump ≡ jump_at c
  pub ending : ends ≡ is_end c
  pub long : length code' ≡ length code
  pub size : out + cmd_size c ≤ code_words → out' ≡ out + cmd_size c
  pub words : (vs vm qs qm fs fm : List Name) → Kept s most_variables t vs → Kept s most_properties p qs → Kept s most_procedures k fs → length code ≡ code_words → out + cmd_size c ≤ code_words → n < most_commands → code' ≡ sets (sets code out (cmd_nodes (numbered (with_names vs (cmd_vars c ++ vm)) (with_names qs (cmd_properties c ++ qm)) (with_names fs (cmd_calls c ++ fm)) c))) (command_at n) (cmd_words out (numbered (with_names vs (cmd_vars c ++ vm)) (with_names qs (cmd_properties c ++ qm)) (with_names fs (cmd_calls c ++ fm)) c))

-- `return` and `fail`, by the kind of their words
pub data Ending : ℕ → (Expr Name → Cmd Name) → Type 0 where
  returning : Ending return_kind return
  failing : Ending fail_kind fail

-- a command but for its semicolon, by the kind of its first token
unfoldable pub bare_command : Reader (Cmd Name)
bare_command = token >>= λ t. command_word (as_word t)
