-- What a test of bytes asks. Assumes nothing.
use Rattle.std.specs.Prelude.{ℕ, ◌<◌, ◌≡◌, Bool}

-- each answer of a test of bytes is that of the class `p`
abbrev pub Tests : (ℕ → Bool → Type 0) → (ℕ → Bool) → Type 0
Tests answers p = (b : ℕ) (r : Bool) → b < 256 → answers b r → r ≡ p b
