-- An input list's words, read from its bytes. Assumes nothing.
use Rattle.std.specs.Prelude.{ℕ, zero, suc, ◌+◌, ◌*◌, ◌≤◌, ◌<◌, ◌≡◌, List, [], ◌∷◌, ◌++◌, length, get_or}
use Rattle.std.proofs.Common.{add_assoc, arith, sym, ◌∙◌, ap, length-append, get_or-append-add}
use Rattle.gil.specs.Layout.{input_words}
use Rattle.lent_words.specs.Mirror.{word_at}
use Rattle.lent_words.specs.Laws.Words.{word_at_in}

-- every byte of a list is one
abbrev pub Bytes : List ℕ → Type 0
Bytes l = (k : ℕ) → get_or l k 0 < 256

-- a word behind others
word_at-behind : (s t : List ℕ) (m : ℕ) → m + 4 ≤ length t → word_at (s ++ t) (length s + m) ≡ word_at t m
word_at-behind s t m h =
    let long : length s + m + 4 ≤ length (s ++ t) = simp length-append (omega arith) in
    word_at_in (s ++ t) (length s + m) long ∙ simp (add_assoc, get_or-append-add) (sym (simp add_assoc at (word_at_in t m h)))

pub input-word : (inputs : List ℕ) (j : ℕ) → 4 * j + 4 ≤ length inputs → word_at inputs (4 * j) ≡ get_or (input_words inputs) j 0
unfolding input_words
input-word [] j h = absurd (omega arith)
input-word (a ∷ []) j h = absurd (omega arith)
input-word (a ∷ b ∷ []) j h = absurd (omega arith)
input-word (a ∷ b ∷ c ∷ []) j h = absurd (omega arith)
input-word (a ∷ b ∷ c ∷ d ∷ rest) zero h = word_at_in (a ∷ b ∷ c ∷ d ∷ rest) 0 h
input-word (a ∷ b ∷ c ∷ d ∷ rest) (suc j) h =
    let e : 4 * suc j ≡ 4 + 4 * j = omega arith in
    let g : 4 * j + 4 ≤ length rest = omega arith in
    ap (λ (n : ℕ). word_at (a ∷ b ∷ c ∷ d ∷ rest) n) e ∙ word_at-behind (a ∷ b ∷ c ∷ d ∷ []) rest (4 * j) g ∙ input-word rest j g

pub input-small : (inputs : List ℕ) (j : ℕ) → 4 * j + 4 ≤ length inputs → Bytes inputs → word_at inputs (4 * j) < 4294967296
input-small inputs j h b =
    rw (word_at_in inputs (4 * j) h) (omega (arith, b (4 * j), b (4 * j + 1), b (4 * j + 2), b (4 * j + 3)))
