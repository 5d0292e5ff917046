-- What a call was given, where the test of its budgets passes. Assumes nothing.
use Rattle.std.specs.Prelude.{ℕ, ◌≤◌, ◌≡◌, refl, Bool, true, false, not, ◌&&◌, ◌||◌, ltb, leb}
use Rattle.std.proofs.Common.{ltb-false, leb-true}
use Rattle.gil.specs.Numbers.{most_steps, most_branches}
use Rattle.gil.specs.Calls.{wrong_budgets}
use Rattle.gil.proofs.Theory.Tests.{no_false}

pub budgets_small : (steps branches : ℕ) → wrong_budgets steps branches ≡ false → (steps ≤ most_steps) × (branches ≤ most_branches)
unfolding wrong_budgets
budgets_small steps branches e = at (leb 1 steps) (leb steps most_steps) refl (ltb most_branches branches) refl e
  where
    at :
        (a b : Bool) → leb steps most_steps ≡ b → (c : Bool) → ltb most_branches branches ≡ c → (not (a && b) || c) ≡ false
        → (steps ≤ most_steps) × (branches ≤ most_branches)
    at true true d false g e = (leb-true steps most_steps d, ltb-false most_branches branches g)
    at true true d true g e = no_false refl e
    at true false d c g e = no_false refl e
    at false b d c g e = no_false refl e
