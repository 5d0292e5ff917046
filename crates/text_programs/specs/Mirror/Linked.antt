-- Linking: a call's callee, stored by its number in the table of callees, becomes the callee's place among the procedures. Assumes nothing.
use Rattle.std.specs.Prelude.{ℕ, ◌+◌, ◌≤◌, ◌≡◌, true, false, List, map, length, get_or, set, eqb}
use Rattle.std.proofs.Math.Dec.{lit<}
use Rattle.gil.specs.Tree.{Cmd, assign, ifgoto, call, lookup, mutate, dispose, u_sym, i_sym, return, fail, vanish}
use Rattle.gil.specs.Names.{gather, place_of, Procedure}
use Rattle.machine_code.specs.Code.{cmd_nodes, call_kind, code_words, nodes_room, command_at}
use Rattle.gil.specs.Numbers.{most_commands, most_procedures}
use Rattle.text_tokens.specs.declared.tokens.Place.{Place}
use Rattle.text_names.specs.declared.Names.{Names}
use Rattle.text_names.specs.Mirror.Tables.{known}
use Rattle.text_tokens.specs.Mirror.Seen.{name_at}
use Rattle.text_procedures.specs.Mirror.Words.{bodies, program_stored}

-- a command with its callee numbered anew, all else kept
unfoldable pub relink : (ℕ → ℕ) → Cmd ℕ → Cmd ℕ
relink g (assign x e) = assign x e
relink g (ifgoto e n) = ifgoto e n
relink g (call x f e) = call x (g f) e
relink g (lookup x e q) = lookup x e q
relink g (mutate x e q d) = mutate x e q d
relink g (dispose x e) = dispose x e
relink g (u_sym x j) = u_sym x j
relink g (i_sym x j) = i_sym x j
relink g (return e) = return e
relink g (fail e) = fail e
relink g vanish = vanish

unfoldable pub relink_proc : (ℕ → ℕ) → Procedure → Procedure
relink_proc g q = record { name = q.name; variables = q.variables; body = map (relink g) q.body }

-- the place of what stands nowhere in a text
abbrev pub nowhere : Place
nowhere = record { start = 0; size = 0; short = lit< tt }

-- the place of callee `f` of the table `calls` among the procedures of the table `procs`, or their count
unfoldable pub callee_in : (s : List ℕ) (calls procs : Names) → ℕ → ℕ
callee_in s calls procs f = place_of (name_at s (get_or calls.places f nowhere)) (known s procs)

-- what linking does to the words of procedures
pub record Links (s : List ℕ) (calls procs : Names) (commands : ℕ) (code code' : List ℕ) : Type 0 where
  pub long : length code' ≡ length code
  pub words : (code₀ : List ℕ) (qs : List Procedure) → length code₀ ≡ code_words → code ≡ program_stored code₀ qs → commands ≡ length (bodies qs) → length (bodies qs) ≤ most_commands → length qs ≤ most_procedures → length (gather cmd_nodes (bodies qs)) ≤ nodes_room → code' ≡ program_stored code₀ (map (relink_proc (callee_in s calls procs)) qs)

-- the words with command `i` linked
unfoldable pub link_command : (ℕ → ℕ) → List ℕ → ℕ → List ℕ
link_command g ws i = elim (eqb (get_or ws (command_at i) 0) call_kind) [ true ↦ set ws (command_at i + 3) (g (get_or ws (command_at i + 3) 0)) | false ↦ ws ]
