-- Two runs that are the same are one, and `==` tells. Assumes nothing.
use Rattle.std.specs.Prelude.{ℕ, ◌≡◌, refl, Bool, true, ◌&&◌, List, [], ◌∷◌, eqb}
use Rattle.std.specs.Cmp.Lexicographic.{pointwise}
use Rattle.std.proofs.Common.{ap, eqb-true}
use Rattle.gil.specs.Text.{same}
use Rattle.gil.proofs.Theory.Tests.{no_false, both}

-- two runs that are the same are one run
pub same-is : (a b : List ℕ) → same a b ≡ true → a ≡ b
unfolding same
same-is [] [] e = refl
same-is [] (b ∷ t) e = no_false e refl
same-is (a ∷ s) [] e = no_false e refl
same-is (a ∷ s) (b ∷ t) e = let parts = both (eqb a b) (same s t) e in rw (eqb-true a b parts.0, same-is s t parts.1)

-- what `==` answers
pub same-eq : (a b : List ℕ) → pointwise eqb a b ≡ same a b
unfolding same
same-eq [] [] = refl
same-eq [] (b ∷ t) = refl
same-eq (a ∷ s) [] = refl
same-eq (a ∷ s) (b ∷ t) = ap (λ (r : Bool). eqb a b && r) (same-eq s t)
