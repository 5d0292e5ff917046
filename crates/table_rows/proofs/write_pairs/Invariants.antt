-- `rows::write_pairs` meets its contract. Assumes nothing.
use Rattle.std.proofs.Common.{◌≡◌, ◌+◌, ◌*◌, ◌∷◌, [], ℕ, List, drop}
use Rattle.std.specs.Fn.{FnReturnsAt}
use Rattle.gil.specs.Names.{gather}
use Rattle.lent_words.specs.Mirror.{put_words}
use Rattle.table_rows.proofs.write_pairs.Given as goal

abbrev pub invariant-loop-i : goal.invariant-loop-i
invariant-loop-i g l =
    (f : g.row.T.Denot → List ℕ) → ((x : g.row.T.Denot) (r : ℕ × ℕ) → FnReturnsAt g.F.Fn l.pair x r → r.0 ∷ r.1 ∷ [] ≡ f x)
    → put_words l.initial.part l.at (gather f l.things) ≡ put_words l.part (l.at + 8 * l.i) (gather f (drop l.i l.things))
