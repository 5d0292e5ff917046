-- A name more in a list that is longer than a table. Assumes nothing.
use Rattle.std.specs.Prelude.{ℕ, ◌≤◌, ◌≡◌, refl, Bool, true, false, List, [], ◌∷◌, ◌++◌, length, take}
use Rattle.std.proofs.Common.{arith, length-append}
use Rattle.std.proofs.lemmas.List.{take-append-le}
use Rattle.gil.specs.Tree.{Name}
use Rattle.gil.specs.Names.{has, with_name}

-- a list with one name more is as long or longer, and begins as before
pub with_name-longer : (ns : List Name) (w : Name) → length ns ≤ length (with_name ns w)
unfolding with_name
with_name-longer ns w = at (has w ns)
  where
    at : (t : Bool) → length ns ≤ length {A = Name} (elim t [ true ↦ ns | false ↦ ns ++ (w ∷ []) ])
    at true = omega arith
    at false = omega (arith, length-append ns (w ∷ []))

pub with_name-first : (cap : ℕ) (ns : List Name) (w : Name) → cap ≤ length ns → take cap (with_name ns w) ≡ take cap ns
unfolding with_name
with_name-first cap ns w h = at (has w ns)
  where
    at : (t : Bool) → take {A = Name} cap (elim t [ true ↦ ns | false ↦ ns ++ (w ∷ []) ]) ≡ take cap ns
    at true = refl
    at false = take-append-le cap ns (w ∷ []) h
