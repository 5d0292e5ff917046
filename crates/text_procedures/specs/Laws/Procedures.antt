-- The names of the procedures that were read. Assumes nothing.
use Rattle.std.specs.Prelude.{◌≡◌, refl, List, [], ◌∷◌}
use Rattle.std.proofs.Common.{ap}
use Rattle.gil.specs.Tree.{Proc, Name}
use Rattle.gil.specs.Names.{gather, proc_names}

pub named-gather : (ps : List (Proc Name)) → gather (λ r. r.name ∷ []) ps ≡ proc_names ps
unfolding gather proc_names
named-gather [] = refl
named-gather (r ∷ ps) = ap (λ (l : List Name). r.name ∷ l) (named-gather ps)
