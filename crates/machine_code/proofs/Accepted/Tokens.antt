-- How many bytes a token takes, and what its run can be: a number below 2³² and of few words, a site below 256, a reserved word of two characters or more.
-- Assumes nothing.
use Prim.Native.Nat.{ℕ, suc, ◌+◌, ◌-◌, ◌*◌, ◌≤◌, ◌<◌}
use native.Mathlib.Omega.{arith}
use Rattle.std.specs.Prelude.{◌≡◌, refl, Bool, true, false, ◌&&◌, length, take, drop, leb, ltb, eqb}
use Rattle.std.proofs.Common.{ap, length-take, lt-ltb, ltb-false, leb-true}
use mathlib.Core.List.{List, [], ◌∷◌}
use Rattle.std.proofs.Math.Option.{Option}
use Rattle.std.proofs.Math.ListN.{length-drop}
use Rattle.gil.specs.Text.{Token, word, property, becomes, mark, ended, Lexeme, span, part, within, in_run, white, quoted, coloned, marked, token_from, skip_white, lexeme, Key, reserved_words, u_sym_prefix, i_sym_prefix, bytes, Word, name, number, key, u_site, i_site, fault, same, find, all_digits, plain_zero, decimal_from, numeral, numbered, symbol, identified, digit, letter, identifier, word_of}
use Rattle.gil.specs.Tree.{Name}
use Rattle.gil.specs.Reading.{as_word}
use Rattle.gil.specs.Names.{any}
use Rattle.gil.proofs.Theory.Tests.{chosen}
use Rattle.machine_code.specs.Code.{number_words}
use Rattle.machine_code.specs.WellFormed.{Each, none, more}
use Rattle.machine_code.proofs.Accepted.Lists.{and_true, none_passes}
use Rattle.machine_code.proofs.Accepted.Places.{same_equal}

-- the bytes that a token takes at least
unfoldable pub token_bytes : Token → ℕ
token_bytes (word w) = length w
token_bytes (property p) = suc (suc (length p))
token_bytes becomes = 2
token_bytes (mark b) = 1
token_bytes ended = 0

-- a token read from a place on: it ends in the text, past its bytes
pub record Ends (s : List ℕ) (at : ℕ) (l : Lexeme) : Type 0 where
  pub takes : at + token_bytes l.token ≤ l.next
  pub inside : l.next ≤ length s

pub span-length : (p : ℕ → Bool) (s : List ℕ) → span p s ≤ length s
unfolding span
span-length p [] = omega arith
span-length p (b ∷ s) =
    chosen (λ (n : ℕ). n ≤ suc (length s)) (p b)
    (λ _. let h : span p s ≤ length s = span-length p s in omega arith)
    (λ _. omega arith)

part_length : (s : List ℕ) (i n : ℕ) → length (part s i n) ≤ n
unfolding part
part_length s i n = simp length-take (omega arith)

-- a token that begins at `i`, past white space from `at`; what is left of the text from there ends in the text
module _ (s : List ℕ) (at i : ℕ) (from : at ≤ i) where
  quoted-ends : (n : ℕ) (after : List ℕ) → suc i + (n + length after) ≤ length s → Ends s at (quoted s i n after)
  unfolding quoted token_bytes
  quoted-ends n [] h = record { takes = omega arith; inside = omega arith }
  quoted-ends n (b ∷ after) h =
      chosen (Ends s at) (eqb b 34 && within 1 16 n)
      (λ _. record { takes = omega (arith, part_length s (suc i) n); inside = omega arith })
      (λ _. record { takes = omega arith; inside = omega arith })

  coloned-ends : (after : List ℕ) → suc i + length after ≤ length s → Ends s at (coloned i after)
  unfolding coloned token_bytes
  coloned-ends [] h = record { takes = omega arith; inside = omega arith }
  coloned-ends (b ∷ after) h =
      chosen (Ends s at) (eqb b 61)
      (λ _. record { takes = omega arith; inside = omega arith })
      (λ _. record { takes = omega arith; inside = omega arith })

  marked-ends : (b : ℕ) (after : List ℕ) → suc i + length after ≤ length s → Ends s at (marked s i b after)
  unfolding marked token_bytes
  marked-ends b after h =
      let n : ℕ = span in_run after in
      chosen (Ends s at) (eqb b 34)
      (λ _. quoted-ends n (drop n after) (omega (arith, length-drop n after, span-length in_run after)))
      λ _.
      chosen (Ends s at) (eqb b 58)
      (λ _. coloned-ends after h)
      λ _. record { takes = omega arith; inside = omega arith }

  token_from-ends : (rest : List ℕ) → i + length rest ≤ length s → Ends s at (token_from s i rest)
  unfolding token_from token_bytes
  token_from-ends [] h = record { takes = omega arith; inside = omega arith }
  token_from-ends (b ∷ after) h =
      let n : ℕ = suc (span in_run after) in
      chosen (Ends s at) (in_run b)
      (λ _. record { takes = omega (arith, part_length s i n); inside = omega (arith, span-length in_run after) })
      (λ _. marked-ends b after (omega arith))

pub lexeme-ends : (s : List ℕ) (at : ℕ) → at ≤ length s → Ends s at (lexeme s at)
unfolding lexeme skip_white
lexeme-ends s at h =
    let i : ℕ = at + span white (drop at s) in
    let j : i ≤ length s = omega (arith, span-length white (drop at s), length-drop at s) in
    token_from-ends s at i (omega arith) (drop i s) (omega (arith, length-drop i s))

-- what a run of so many bytes can be
pub data WordFits (size : ℕ) : Word → Type 0 where
  a_name : {w : Name} → 1 ≤ size → WordFits size (name w)
  a_number : {n : ℕ} → 1 ≤ size → n < 4294967296 → 2 * length (number_words n) ≤ suc size → WordFits size (number n)
  a_key : {k : Key} → 2 ≤ size → WordFits size (key k)
  a_u_site : {j : ℕ} → 1 ≤ size → j < 256 → WordFits size (u_site j)
  an_i_site : {j : ℕ} → 1 ≤ size → j < 256 → WordFits size (i_site j)
  a_fault : WordFits size fault

-- a digit is at most 9, so a number of one or two digits has one word
digit-few : (d : ℕ) → digit d ≡ true → d ≤ 57
unfolding digit
digit-few d e = leb-true d 57 (and_true (leb 48 d) (leb d 57) e).1

number-words : (n : ℕ) → length (number_words n) ≤ 2
unfolding number_words
number-words n = chosen (λ (ws : List ℕ). length ws ≤ 2) (ltb n 268435456) (λ _. omega arith) (λ _. omega arith)

one_word : (n : ℕ) → n < 268435456 → length (number_words n) ≡ 1
unfolding number_words
one_word n h = rw (lt-ltb n 268435456 h, number_words)

few_words : (b : ℕ) (ds : List ℕ) → all_digits (b ∷ ds) ≡ true → 2 * length (number_words (decimal_from 0 (b ∷ ds))) ≤ suc (suc (length ds))
unfolding all_digits decimal_from
few_words b [] e = let h = digit-few b (and_true (digit b) true e).0 in omega (arith, one_word (0 * 10 + (b - 48)) (omega arith))
few_words b (c ∷ []) e =
    let (x, y) = and_true (digit b) (digit c && true) e in
    let h = digit-few b x in
    let k = digit-few c (and_true (digit c) true y).0 in
    omega (arith, one_word ((0 * 10 + (b - 48)) * 10 + (c - 48)) (omega arith))
few_words b (c ∷ d ∷ ds) e = omega (arith, number-words (decimal_from 0 (b ∷ c ∷ d ∷ ds)))

-- a numeral is within its limit
numbered-fits :
    {size : ℕ} (limit : ℕ) (f : ℕ → Word) (ds : List ℕ)
    → (all_digits ds ≡ true → decimal_from 0 ds ≤ limit → WordFits size (f (decimal_from 0 ds)))
    → WordFits size (numbered (numeral limit ds) f)
unfolding numbered numeral
numbered-fits {size} limit f ds h =
    let n : ℕ = decimal_from 0 ds in
    chosen (λ (o : Option ℕ). WordFits size (numbered o f)) (all_digits ds && plain_zero ds && leb n limit)
    (λ t. let (x, y) = and_true (all_digits ds && plain_zero ds) (leb n limit) t in h (and_true (all_digits ds) (plain_zero ds) x).0 (leb-true n limit y))
    (λ _. a_fault)

symbol-fits : {size : ℕ} → 1 ≤ size → (w : List ℕ) → WordFits size (symbol w)
unfolding symbol
symbol-fits {size} h w =
    chosen (WordFits size) (same (take 5 w) u_sym_prefix)
    (λ _. numbered-fits 255 u_site (drop 5 w) (λ _ k. a_u_site h (omega arith)))
    λ _.
    chosen (WordFits size) (same (take 5 w) i_sym_prefix)
    (λ _. numbered-fits 255 i_site (drop 5 w) (λ _ k. an_i_site h (omega arith)))
    λ _. a_name h

-- a run of one character is never a reserved word
abbrev Long : List ℕ × Key → Type 0
Long e = ltb (length e.0) 2 ≡ false

reserved-long : Each Long reserved_words
unfolding reserved_words bytes any
reserved-long = none_passes (λ e. ltb (length e.0) 2) reserved_words refl

identified-fits :
    (w : List ℕ) → 1 ≤ length w → (l : List (List ℕ × Key)) → Each Long l → WordFits (length w) (identified w (find w l))
unfolding identified find
identified-fits w h [] none = symbol-fits h w
identified-fits w h (e ∷ l) (more long longs) =
    chosen (λ (o : Option Key). WordFits (length w) (identified w o)) (same w e.0)
    (λ t. a_key (omega (arith, ltb-false (length e.0) 2 long, ap length (same_equal w e.0 t))))
    (λ _. identified-fits w h l longs)

identifier-fits : (w : List ℕ) → 1 ≤ length w → WordFits (length w) (identifier w)
unfolding identifier
identifier-fits w h =
    chosen (WordFits (length w)) (leb (length w) 16)
    (λ _. identified-fits w h reserved_words reserved-long)
    (λ _. a_fault)

pub word_of-fits : (w : List ℕ) → WordFits (length w) (word_of w)
unfolding word_of
word_of-fits [] = a_fault
word_of-fits (b ∷ w) =
    chosen (WordFits (suc (length w))) (letter b)
    (λ _. identifier-fits (b ∷ w) (omega arith))
    (λ _. numbered-fits 4294967295 number (b ∷ w) (λ digits k. a_number (omega arith) (omega arith) (few_words b w digits)))

pub as_word-fits : (t : Token) → WordFits (token_bytes t) (as_word t)
unfolding as_word token_bytes
as_word-fits (word w) = word_of-fits w
as_word-fits (property p) = a_fault
as_word-fits becomes = a_fault
as_word-fits (mark b) = a_fault
as_word-fits ended = a_fault
