-- Numbers in the code against those of the definitions. Assumes nothing.
use Rattle.std.specs.Prelude.{ℕ, true, false, ◌&&◌, List, leb, Option, Some, None}
use Rattle.std.proofs.Math.Option as M
use Rattle.gil.specs.Text.{all_digits, decimal_from}

-- a number that may be missing, as the definitions have it
unfoldable pub counted : Option ℕ → M.Option ℕ
counted None = M.none
counted (Some n) = M.some n

-- what the digits come to from `n` on, where all are digits and the limit is kept
unfoldable pub worth : ℕ → ℕ → List ℕ → Option ℕ
worth limit n ds = elim (all_digits ds && leb (decimal_from n ds) limit) [ true ↦ Some (decimal_from n ds) | false ↦ None ]
