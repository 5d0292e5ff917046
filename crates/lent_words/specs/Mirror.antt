-- Words in a list of bytes, and what the functions answer: the word at a place, words stored at one, a count that is read. Assumes nothing.
use Rattle.std.specs.Prelude.{ℕ, ◌+◌, ◌*◌, true, false, List, [], ◌∷◌, ◌++◌, length, get_or, take, drop, leb, ltb}
use Rattle.gil.specs.Layout.{word_bytes}

unfoldable pub word_at : List ℕ → ℕ → ℕ
word_at b at =
    elim (leb (at + 4) (length b)) [
      | true ↦ get_or b at 0 + 256 * get_or b (at + 1) 0 + 65536 * get_or b (at + 2) 0 + 16777216 * get_or b (at + 3) 0
      | false ↦ 0
    ]

unfoldable pub put_word : List ℕ → ℕ → ℕ → List ℕ
put_word b at x = elim (leb (at + 4) (length b)) [ true ↦ take at b ++ word_bytes x ++ drop (at + 4) b | false ↦ b ]

-- words stored one after another
unfoldable pub put_words : List ℕ → ℕ → List ℕ → List ℕ
put_words b at [] = b
put_words b at (w ∷ ws) = put_words (put_word b at w) (at + 4) ws

-- a count that is read, and never more than there is room for
unfoldable pub at_most : ℕ → ℕ → ℕ
at_most most n = elim (ltb most n) [ true ↦ most | false ↦ n ]
