-- What asking for a mark by its byte answers, without reading any other token. Assumes nothing.
use Rattle.std.specs.Prelude.{ℕ, ◌≡◌, Bool, false, ◌||◌, List, eqb, Option, Some, None}
use Rattle.gil.specs.Text.{lexeme}
use Rattle.gil.specs.Reading.{is_mark}
use Rattle.text_tokens.specs.declared.tokens.Token.TheVariants.{Mark}
use Rattle.text_tokens.specs.Mirror.Seen.{Found}

-- the marks that are asked for: ( ) , ; [ ] { }
abbrev pub lone : ℕ → Bool
lone b = eqb b 40 || (eqb b 41 || (eqb b 44 || (eqb b 59 || (eqb b 91 || (eqb b 93 || (eqb b 123 || eqb b 125))))))

-- what `past_mark` answers: the place after the mark, or nothing where the next token is no such mark
abbrev pub Marked : List ℕ → ℕ → ℕ → Option ℕ → Type 0
Marked s at b None = is_mark b (lexeme s at).token ≡ false
Marked s at b (Some n) = Found s at (lexeme s at) (Mark b) n
