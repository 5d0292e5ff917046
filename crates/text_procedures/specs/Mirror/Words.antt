-- The words of procedures, as they are stored one after another. Assumes nothing.
use Rattle.std.specs.Prelude.{ℕ, ◌+◌, min, List, [], ◌∷◌, map, length}
use Rattle.std.proofs.lemmas.List.Edits.{sets}
use Rattle.gil.specs.Tree.{Cmd, Proc, Name}
use Rattle.gil.specs.Names.{gather, proc_vars, Procedure}
use Rattle.machine_code.specs.Code.{procedure_words, nodes_at, procedures_at, procedure_at}
use Rattle.gil.specs.Numbers.{most_variables}
use Rattle.text_values.specs.Mirror.{numbered}
use Rattle.text_procedures.specs.Mirror.Lists.{body_stored}

-- a procedure as it is stored: its variables counted up to one too many, its names numbered by tables that took in `qs` and `fs`
unfoldable pub proc_of : List Name → List Name → Proc Name → Procedure
proc_of qs fs r = record { name = r.name; variables = min (most_variables + 1) (length (proc_vars r)); body = map (numbered (proc_vars r) qs fs) r.body }

abbrev pub bodies : List Procedure → List (Cmd ℕ)
bodies qs = gather (λ q. q.body) qs

-- procedure `n`: its commands from that of number `first` on, their nodes from `out` on, and its three words
unfoldable pub proc_stored : List ℕ → ℕ → ℕ → ℕ → Procedure → List ℕ
proc_stored code n first out q = sets (body_stored code first out q.body) (procedure_at n) (first ∷ q.variables ∷ length q.body ∷ [])

-- all procedures
unfoldable pub program_stored : List ℕ → List Procedure → List ℕ
program_stored code qs = sets (body_stored code 0 nodes_at (bodies qs)) procedures_at (procedure_words 0 qs)
