-- What the functions' own proofs cite: a word that does not lie in the memory whole, four bytes as a word, bytes put in the place of others, bytes
-- zeroed from the front. Assumes nothing.
use Rattle.std.specs.Prelude.{ℕ, ◌+◌, ◌≤◌, ◌<◌, ◌%◌, ◌/◌, ◌≡◌, List, [], ◌∷◌, ◌++◌, length, set, take, drop, replicate}
use Rattle.std.proofs.Common.{sym, ◌∙◌, ap, append-nil}
use Rattle.std.proofs.lemmas.List.Edits.{sets, sets-eq, fill_more}
use Rattle.std.proofs.lemmas.List.{append_assoc, drop-drop}
use Rattle.std.proofs.lemmas.Bool.{lt-leb}
use Rattle.std.proofs.Math.Seq.{drop-length}
use Rattle.gil.specs.Layout.{word_bytes}
use Rattle.lent_words.specs.Mirror.{word_at, put_word}
use Rattle.lent_words.specs.Laws.Words.{put_word_in}

pub word_at-out : (b : List ℕ) (at : ℕ) → length b < at + 4 → word_at b at ≡ 0
unfolding word_at
word_at-out b at h = simp (lt-leb (at + 4) (length b) h, word_at)

pub put_word-out : (b : List ℕ) (at x : ℕ) → length b < at + 4 → put_word b at x ≡ b
unfolding put_word
put_word-out b at x h = simp (lt-leb (at + 4) (length b) h, put_word)

-- four bytes stored one after another are a word stored
pub stores_word : (b : List ℕ) (at x : ℕ) → at + 4 ≤ length b → sets b at (word_bytes x) ≡ put_word b at x
unfolding word_bytes
stores_word b at x h =
    sets-eq (x % 256 ∷ x / 256 % 256 ∷ x / 65536 % 256 ∷ x / 16777216 % 256 ∷ []) b at h ∙ sym (put_word_in b at x h)

-- bytes put in the place of as many
pub pasted : (b ys : List ℕ) (at k : ℕ) → k ≡ length ys → at + length ys ≤ length b → take at b ++ (ys ++ drop k (drop at b)) ≡ sets b at ys
pasted b ys at k e h =
    ap (λ (t : List ℕ). take at b ++ (ys ++ t)) (drop-drop k at b ∙ ap (λ (n : ℕ). drop (at + n) b) e)
    ∙ sym (append_assoc (take at b) ys (drop (at + length ys) b))
    ∙ sym (sets-eq ys b at h)

-- what zeroes from the front: one byte more, and all of them
pub zeroed-more : (b₀ b : List ℕ) (i : ℕ) → i < length b₀ → b ≡ replicate i 0 ++ drop i b₀ → set b i 0 ≡ replicate (i + 1) 0 ++ drop (i + 1) b₀
zeroed-more b₀ b i h e = ap (λ (l : List ℕ). set l i 0) e ∙ fill_more i 0 b₀ h

pub zeroed-all : (b₀ b : List ℕ) (i : ℕ) → i ≡ length b₀ → b ≡ replicate i 0 ++ drop i b₀ → b ≡ replicate (length b₀) 0
zeroed-all b₀ b i h e =
    e ∙ ap (λ (k : ℕ). replicate k 0 ++ drop k b₀) h ∙ rw (drop-length, append-nil)
