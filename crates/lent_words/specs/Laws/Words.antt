-- A word that lies in the memory whole, read and stored; a count that is within its limit. Assumes nothing.
use Rattle.std.specs.Prelude.{ℕ, ◌+◌, ◌*◌, ◌≤◌, ◌≡◌, refl, Bool, true, false, List, ◌++◌, length, get_or, take, drop, ltb}
use Rattle.std.proofs.Common.{min, arith, le-leb, le-ltb, ltb-true, ltb-false}
use Rattle.gil.specs.Layout.{word_bytes}
use Rattle.lent_words.specs.Mirror.{word_at, put_word, at_most}

pub word_at_in :
    (b : List ℕ) (at : ℕ) → at + 4 ≤ length b
    → word_at b at ≡ get_or b at 0 + 256 * get_or b (at + 1) 0 + 65536 * get_or b (at + 2) 0 + 16777216 * get_or b (at + 3) 0
unfolding word_at
word_at_in b at h = simp (le-leb (at + 4) (length b) h, word_at)

pub put_word_in : (b : List ℕ) (at x : ℕ) → at + 4 ≤ length b → put_word b at x ≡ take at b ++ word_bytes x ++ drop (at + 4) b
unfolding put_word
put_word_in b at x h = simp (le-leb (at + 4) (length b) h, put_word)

-- it is the least of the two
pub at_most-min : (most n : ℕ) → min n most ≡ at_most most n
unfolding at_most
at_most-min most n = by (ltb most n) refl
  where
    by : (b : Bool) → ltb most n ≡ b → min n most ≡ elim b [ true ↦ most | false ↦ n ]
    by true e = omega (arith, ltb-true most n e)
    by false e = omega (arith, ltb-false most n e)

pub all_of : (most n : ℕ) → n ≤ most → at_most most n ≡ n
unfolding at_most
all_of most n h = simp (le-ltb most n h, at_most)

pub at-most-all : (most n : ℕ) → at_most most n ≤ n
unfolding at_most
at-most-all most n = by (ltb most n) refl
  where
    by : (b : Bool) → ltb most n ≡ b → elim b [ true ↦ most | false ↦ n ] ≤ n
    by true e = omega (arith, ltb-true most n e)
    by false e = omega arith
