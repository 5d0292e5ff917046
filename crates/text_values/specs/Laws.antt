-- Laws that other crates cite: a token that is looked at and left where it is. Assumes nothing.
use Rattle.std.specs.Prelude.{ℕ, ◌≡◌, refl, List}
use Rattle.gil.specs.Text.{Token, lexeme}
use Rattle.gil.specs.Reading.{Reader, after, ◌>>=◌, ahead}

-- the next token, left where it is
pub ahead_step : {A : Type 0} (s : List ℕ) (n : ℕ) (g : Token → Reader A) → (ahead >>= g) s n ≡ g (lexeme s n).token s n
unfolding ahead ◌>>=◌ after
ahead_step s n g = refl
