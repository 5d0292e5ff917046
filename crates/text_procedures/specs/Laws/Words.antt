-- How many words procedures have; a procedure within the limits is numbered as document 01 says. Assumes nothing.
use Rattle.std.specs.Prelude.{ℕ, ◌+◌, ◌*◌, ◌≤◌, min, ◌≡◌, take}
use Rattle.std.proofs.Math.Path.{refl, ap}
use Rattle.std.proofs.Common.{◌∙◌, arith, take_all}
use mathlib.Core.List.{List, [], ◌∷◌, map}
use Rattle.std.proofs.Math.ListN.{length, length-append, length-map}
use Rattle.gil.specs.Tree.{Proc, Name}
use Rattle.gil.specs.Names.{gather, place_of, rename_cmd, proc_vars, Procedure, number_proc}
use Rattle.machine_code.specs.Code.{cmd_nodes, procedure_words, procedure_size}
use Rattle.gil.specs.Numbers.{most_procedures, most_properties, most_variables}
use Rattle.gil.proofs.Theory.Gathered.{gather_append}
use Rattle.text_names.specs.Mirror.Tables.{number_in}
use Rattle.text_values.specs.Mirror.{numbered}
use Rattle.text_procedures.specs.Mirror.Lists.{body_size}
use Rattle.text_procedures.specs.Mirror.Words.{proc_of, bodies}
use Rattle.text_procedures.specs.Laws.Lists.{size-append, body-nodes-size}

pub three-words : (first : ℕ) (qs : List Procedure) → length (procedure_words first qs) ≡ procedure_size * length qs
unfolding procedure_words
three-words first [] = refl
three-words first (q ∷ qs) = let h = three-words (first + length q.body) qs in omega arith

-- numbering keeps the counts of commands and of their nodes' words
module _ (ns fs : List Name) where
  pub commands-kept : (ps : List (Proc Name)) → length (bodies (map (proc_of ns fs) ps)) ≡ length (gather (λ r. r.body) ps)
  unfolding gather proc_of
  commands-kept [] = refl
  commands-kept (r ∷ ps) =
      length-append (map (numbered (proc_vars r) ns fs) r.body) (bodies (map (proc_of ns fs) ps))
      ∙ (let h = commands-kept ps in omega (arith, length-map r.body (numbered (proc_vars r) ns fs), length-append r.body (gather (λ q. q.body) ps)))

  pub nodes-kept : (ps : List (Proc Name)) → length (gather cmd_nodes (bodies (map (proc_of ns fs) ps))) ≡ body_size (gather (λ r. r.body) ps)
  unfolding gather proc_of body_size
  nodes-kept [] = refl
  nodes-kept (r ∷ ps) =
      ap length (gather_append cmd_nodes (map (numbered (proc_vars r) ns fs) r.body) (bodies (map (proc_of ns fs) ps)))
      ∙ length-append (gather cmd_nodes (map (numbered (proc_vars r) ns fs) r.body)) (gather cmd_nodes (bodies (map (proc_of ns fs) ps)))
      ∙ (let h = nodes-kept ps in omega (arith, body-nodes-size (proc_vars r) ns fs r.body, size-append r.body (gather (λ q. q.body) ps)))

-- within the limits a procedure is stored as document 01 numbers it, but for its callees
pub proc_is : (ns fs : List Name) (r : Proc Name) → length (proc_vars r) ≤ most_variables → length ns ≤ most_properties → proc_of ns fs r ≡ number_proc (λ w. place_of w ns) (number_in most_procedures fs) r
unfolding proc_of number_proc numbered number_in
proc_is ns fs r few small =
    let e : min (most_variables + 1) (length (proc_vars r)) ≡ length (proc_vars r) = omega arith in
    ap (λ (n : ℕ). made n (take most_variables (proc_vars r)) (take most_properties ns)) e
    ∙ ap (λ (l : List Name). made (length (proc_vars r)) l (take most_properties ns)) (take_all most_variables (proc_vars r) few)
    ∙ ap (made (length (proc_vars r)) (proc_vars r)) (take_all most_properties ns small)
  where
    made : ℕ → List Name → List Name → Procedure
    made n vs qs = record { name = r.name; variables = n; body = map (rename_cmd (λ w. place_of w vs) (λ w. place_of w qs) (λ w. place_of w (take most_procedures fs))) r.body }
