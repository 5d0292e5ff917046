-- "The text": bytes, character classes, tokens, the reserved words in one list, and what a run of characters is.
-- A text is a list of bytes, and a place in it is a number. Assumes nothing.
use Rattle.std.specs.Prelude.{ℕ, suc, ◌+◌, ◌*◌, ◌-◌, Bool, true, false, ◌&&◌, ◌||◌, List, [], ◌∷◌, length, take, drop, leb, eqb}
use Prim.Native.Char.{code}
use Prim.Native.String.{String, [] as εᵗ, ◌∷◌ as ◌∷ᵗ◌}
use Rattle.std.proofs.Math.Option.{Option, none, some}
use Rattle.gil.specs.Numbers.{most_characters, largest_number, largest_site}

-- the bytes of an ASCII text
unfoldable pub bytes : String → List ℕ
bytes εᵗ = []
bytes (c ∷ᵗ s) = code c ∷ bytes s

-- "A letter is A to Z or a to z; a digit is 0 to 9"
abbrev pub within : ℕ → ℕ → ℕ → Bool
within low high b = leb low b && leb b high

unfoldable pub letter : ℕ → Bool
letter b = within 65 90 b || within 97 122 b

unfoldable pub digit : ℕ → Bool
digit b = within 48 57 b

-- "an unbroken run of letters, digits and underscores is one token"
unfoldable pub in_run : ℕ → Bool
in_run b = letter b || digit b || eqb b 95

-- "Space, tab, CR and LF may stand between tokens and at both ends"
unfoldable pub white : ℕ → Bool
white b = eqb b 32 || eqb b 9 || eqb b 13 || eqb b 10

-- how many bytes from the front pass a test
unfoldable pub span : (ℕ → Bool) → List ℕ → ℕ
span p [] = 0
span p (b ∷ s) = elim (p b) [ true ↦ suc (span p s) | false ↦ 0 ]

-- the bytes from a place, `n` of them
unfoldable pub part : List ℕ → ℕ → ℕ → List ℕ
part s at n = take n (drop at s)

-- A token. A quote that begins no property is the mark `"`, which no form of the text has.
pub data Token : Type 0 where
  word : List ℕ → Token
  property : List ℕ → Token
  becomes : Token
  mark : ℕ → Token
  ended : Token

-- a token and the place after it
pub record Lexeme : Type 0 where
  pub token : Token
  pub next : ℕ

-- "A property is 1 to 16 letters, digits or underscores in double quotes": `n` of them stand after the quote at `i`, and `after` follows
unfoldable pub quoted : List ℕ → ℕ → ℕ → List ℕ → Lexeme
quoted s i n [] = record { token = mark 34; next = suc i }
quoted s i n (b ∷ after) =
    elim (eqb b 34 && within 1 most_characters n) [
      | true ↦ record { token = property (part s (suc i) n); next = suc (suc (i + n)) }
      | false ↦ record { token = mark 34; next = suc i }
    ]

-- "`:=` is one": the colon at `i` and what follows it
unfoldable pub coloned : ℕ → List ℕ → Lexeme
coloned i [] = record { token = mark 58; next = suc i }
coloned i (b ∷ after) =
    elim (eqb b 61) [ true ↦ record { token = becomes; next = suc (suc i) } | false ↦ record { token = mark 58; next = suc i } ]

-- a byte that is in no run, at `i`
unfoldable pub marked : List ℕ → ℕ → ℕ → List ℕ → Lexeme
marked s i b after =
    elim (eqb b 34) [
      | true ↦ let n = span in_run after in quoted s i n (drop n after)
      | false ↦ elim (eqb b 58) [ true ↦ coloned i after | false ↦ record { token = mark b; next = suc i } ]
    ]

-- the token that begins at `i`, where what is left of the text is `rest`
unfoldable pub token_from : List ℕ → ℕ → List ℕ → Lexeme
token_from s i [] = record { token = ended; next = i }
token_from s i (b ∷ after) =
    elim (in_run b) [
      | true ↦ let n = suc (span in_run after) in record { token = word (part s i n); next = i + n }
      | false ↦ marked s i b after
    ]

unfoldable pub skip_white : List ℕ → ℕ → ℕ
skip_white s at = at + span white (drop at s)

-- the next token from a place on, past any white space
unfoldable pub lexeme : List ℕ → ℕ → Lexeme
lexeme s at = let i = skip_white s at in token_from s i (drop i s)

-- the reserved words, listed in one place
pub data Key : Type 0 where
  k_ifgoto k_return k_fail k_vanish k_true k_false k_not k_and k_or k_lookup k_mutate k_dispose : Key

unfoldable pub reserved_words : List (List ℕ × Key)
reserved_words =
    (bytes "ifgoto", k_ifgoto)
    ∷ (bytes "return", k_return)
    ∷ (bytes "fail", k_fail)
    ∷ (bytes "vanish", k_vanish)
    ∷ (bytes "true", k_true)
    ∷ (bytes "false", k_false)
    ∷ (bytes "not", k_not)
    ∷ (bytes "and", k_and)
    ∷ (bytes "or", k_or)
    ∷ (bytes "lookup", k_lookup)
    ∷ (bytes "mutate", k_mutate)
    ∷ (bytes "dispose", k_dispose)
    ∷ []

-- "and all identifiers that begin `uSym_` or `iSym_`"
unfoldable pub u_sym_prefix : List ℕ
u_sym_prefix = bytes "uSym_"

unfoldable pub i_sym_prefix : List ℕ
i_sym_prefix = bytes "iSym_"

-- What a run is. `fault` stands in no form of the text: "a run is never split".
pub data Word : Type 0 where
  name : List ℕ → Word
  number : ℕ → Word
  key : Key → Word
  u_site : ℕ → Word
  i_site : ℕ → Word
  fault : Word

-- two runs of bytes are the same
unfoldable pub same : List ℕ → List ℕ → Bool
same [] [] = true
same [] (b ∷ t) = false
same (a ∷ s) [] = false
same (a ∷ s) (b ∷ t) = eqb a b && same s t

unfoldable pub find : List ℕ → List (List ℕ × Key) → Option Key
find w [] = none
find w (e ∷ more) = elim (same w e.0) [ true ↦ some e.1 | false ↦ find w more ]

unfoldable pub all_digits : List ℕ → Bool
all_digits [] = true
all_digits (d ∷ ds) = digit d && all_digits ds

-- "with no leading zero but in `0` itself"
unfoldable pub plain_zero : List ℕ → Bool
plain_zero [] = false
plain_zero (d ∷ []) = true
plain_zero (d ∷ e ∷ ds) = leb 49 d

unfoldable pub decimal_from : ℕ → List ℕ → ℕ
decimal_from n [] = n
decimal_from n (d ∷ ds) = decimal_from (n * 10 + (d - 48)) ds

-- "A number is decimal, 0 to 4,294,967,295": the number up to a limit that the characters are
unfoldable pub numeral : ℕ → List ℕ → Option ℕ
numeral limit ds =
    let n = decimal_from 0 ds in
    elim (all_digits ds && plain_zero ds && leb n limit) [ true ↦ some n | false ↦ none ]

unfoldable pub numbered : Option ℕ → (ℕ → Word) → Word
numbered none f = fault
numbered (some n) f = f n

-- "`v := uSym_j`, `v := iSym_j`, j a number as above, 0 to 255"
unfoldable pub symbol : List ℕ → Word
symbol w =
    elim (same (take 5 w) u_sym_prefix) [
      | true ↦ numbered (numeral largest_site (drop 5 w)) u_site
      | false ↦ elim (same (take 5 w) i_sym_prefix) [ true ↦ numbered (numeral largest_site (drop 5 w)) i_site | false ↦ name w ]
    ]

unfoldable pub identified : List ℕ → Option Key → Word
identified w none = symbol w
identified w (some k) = key k

-- "An identifier starts with a letter and has 1 to 16 characters"
unfoldable pub identifier : List ℕ → Word
identifier w = elim (leb (length w) most_characters) [ true ↦ identified w (find w reserved_words) | false ↦ fault ]

-- what a run of characters is, by its first
unfoldable pub word_of : List ℕ → Word
word_of [] = fault
word_of (b ∷ w) =
    elim (letter b) [
      | true ↦ identifier (b ∷ w)
      | false ↦ numbered (numeral largest_number (b ∷ w)) number
    ]
