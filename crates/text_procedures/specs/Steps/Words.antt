-- The words of one procedure more. Assumes nothing.
use Rattle.std.specs.Prelude.{ℕ, ◌+◌, ◌≤◌, ◌≡◌, List, [], ◌∷◌, ◌++◌, length}
use Rattle.std.proofs.Common.{sym, ap, ◌∙◌, arith, add-zero, length-append}
use Rattle.std.proofs.lemmas.List.Edits.{sets}
use Rattle.gil.specs.Tree.{Cmd}
use Rattle.gil.specs.Names.{gather, Procedure}
use Rattle.machine_code.specs.Code.{cmd_nodes, command_words, procedure_words, commands_at, nodes_at, procedures_at, command_at, procedure_at}
use Rattle.gil.specs.Numbers.{most_commands, most_procedures}
use Rattle.gil.proofs.Theory.Gathered.{gather-last}
use Rattle.text_forms.specs.Laws.Stores.{sets-append, sets_swap}
use Rattle.text_procedures.specs.Mirror.Lists.{body_stored}
use Rattle.text_procedures.specs.Mirror.Words.{bodies, proc_stored, program_stored}
use Rattle.text_procedures.specs.Laws.Words.{three-words}
use Rattle.text_procedures.specs.Steps.Lists.{stored-append}

procedures-more : (first : ℕ) (qs : List Procedure) (q : Procedure) → procedure_words first (qs ++ (q ∷ [])) ≡ procedure_words first qs ++ ((first + length (bodies qs)) ∷ q.variables ∷ length q.body ∷ [])
unfolding procedure_words gather
procedures-more first [] q = ap (λ (n : ℕ). n ∷ q.variables ∷ length q.body ∷ []) (sym (add-zero first))
procedures-more first (r ∷ qs) q =
    let e : first + length r.body + length (bodies qs) ≡ first + length (r.body ++ bodies qs) = omega (arith, length-append r.body (bodies qs)) in
    ap (λ (l : List ℕ). first ∷ r.variables ∷ length r.body ∷ l) (procedures-more (first + length r.body) qs q ∙ ap (λ (n : ℕ). procedure_words (first + length r.body) qs ++ (n ∷ q.variables ∷ length q.body ∷ [])) e)

-- the words of commands stand behind those of procedures
body-behind : (code : List ℕ) (i : ℕ) (ps : List ℕ) (first out : ℕ) (rs : List (Cmd ℕ)) → i + length ps ≤ commands_at → nodes_at ≤ out → body_stored (sets code i ps) first out rs ≡ sets (body_stored code first out rs) i ps
unfolding body_stored
body-behind code i ps first out rs h low =
    ap (λ (x : List ℕ). sets x (command_at first) (command_words out rs)) (sets_swap code i ps out (gather cmd_nodes rs) (omega arith))
    ∙ sets_swap (sets code out (gather cmd_nodes rs)) i ps (command_at first) (command_words out rs) (omega arith)

-- one procedure more
pub program-more : (code : List ℕ) (qs : List Procedure) (q : Procedure) → length qs ≤ most_procedures → length (bodies qs) ≤ most_commands → proc_stored (program_stored code qs) (length qs) (length (bodies qs)) (nodes_at + length (gather cmd_nodes (bodies qs))) q ≡ program_stored code (qs ++ (q ∷ []))
unfolding proc_stored program_stored
program-more code qs q few low =
    let n = length (bodies qs) in
    let at = nodes_at + length (gather cmd_nodes (bodies qs)) in
    let own = length (bodies qs) ∷ q.variables ∷ length q.body ∷ [] in
    let none : length (bodies qs) ≡ 0 + length (bodies qs) = omega arith in
    let z : procedure_at (length qs) ≡ procedures_at + length (procedure_words 0 qs) = omega (arith, three-words 0 qs) in
    ap (λ (x : List ℕ). sets x (procedure_at (length qs)) own) (body-behind (body_stored code 0 nodes_at (bodies qs)) procedures_at (procedure_words 0 qs) n at q.body (omega (arith, three-words 0 qs)) (omega arith))
    ∙ ap (λ (m : ℕ). sets (sets (body_stored (body_stored code 0 nodes_at (bodies qs)) n at q.body) procedures_at (procedure_words 0 qs)) m own) z
    ∙ sym (sets-append (body_stored (body_stored code 0 nodes_at (bodies qs)) n at q.body) procedures_at (procedure_words 0 qs) own)
    ∙ ap (λ (x : List ℕ). sets x procedures_at (procedure_words 0 qs ++ own)) (ap (λ (m : ℕ). body_stored (body_stored code 0 nodes_at (bodies qs)) m at q.body) none ∙ stored-append code 0 nodes_at (bodies qs) q.body (omega arith) (omega arith))
    ∙ ap (λ (x : List (Cmd ℕ)). sets (body_stored code 0 nodes_at x) procedures_at (procedure_words 0 qs ++ own)) (sym (gather-last (λ r. r.body) qs q))
    ∙ ap (sets (body_stored code 0 nodes_at (gather (λ r. r.body) (qs ++ (q ∷ [])))) procedures_at) (ap (λ (m : ℕ). procedure_words 0 qs ++ (m ∷ q.variables ∷ length q.body ∷ [])) none ∙ sym (procedures-more 0 qs q))
