-- Words read back from where they were written: what a reader of table, pool or answer cites. Assumes nothing.
use Rattle.std.specs.Prelude.{ℕ, zero, suc, ◌+◌, ◌*◌, ◌≤◌, ◌<◌, ◌%◌, ◌/◌, ◌≡◌, refl, List, [], ◌∷◌, ◌++◌, length, get_or}
use Rattle.std.proofs.Math.Nat.{div-div-eq-div-mul}
use Rattle.std.proofs.Common.{div-add-mod', mod-eq_of_lt, arith, sym, ◌∙◌, ap, append_assoc, length-append, get_or-append-add}
use Rattle.std.proofs.Math.Numerals.{unary_clauses}
use Rattle.std.proofs.Math.Seq.{get_or-append_seam}
use Rattle.gil.specs.Names.{gather}
use Rattle.gil.specs.Layout.{word_bytes}
use Rattle.lent_words.specs.Mirror.{word_at}
use Rattle.lent_words.specs.Laws.Words.{word_at_in}

-- every word of a list fits 32 bits
pub data Words : List ℕ → Type 0 where
  none : Words []
  more : {w : ℕ} {ws : List ℕ} → w < 4294967296 → Words ws → Words (w ∷ ws)

four_digits :
    (x a b c p q r s : ℕ) → a * 256 + p ≡ x → b * 256 + q ≡ a → c * 256 + r ≡ b → s ≡ c
    → p + 256 * q + 65536 * r + 16777216 * s ≡ x
four_digits x a b c p q r s e f g h = omega arith

value_of_bytes :
    (x : ℕ) → x < 4294967296 → x % 256 + 256 * (x / 256 % 256) + 65536 * (x / 65536 % 256) + 16777216 * (x / 16777216 % 256) ≡ x
value_of_bytes x h =
    let e2 : x / 65536 ≡ x / 256 / 256 = sym (div-div-eq-div-mul x 256 256) in
    let e3 : x / 16777216 ≡ x / 256 / 256 / 256 = sym (div-div-eq-div-mul (x / 256) 256 256 ∙ div-div-eq-div-mul x 256 65536) in
    let small : x / 256 / 256 / 256 < 256 = rw (← e3) (omega arith) in
    rw (e2, e3)
    (four_digits x (x / 256) (x / 256 / 256) (x / 256 / 256 / 256) _ _ _ _
    (div-add-mod' x 256) (div-add-mod' (x / 256) 256) (div-add-mod' (x / 256 / 256) 256) (mod-eq_of_lt small))

-- the word of four bytes, wherever they stand
pub word_at-bytes : (a rest : List ℕ) (x : ℕ) → x < 4294967296 → word_at (a ++ (word_bytes x ++ rest)) (length a) ≡ x
unfolding word_bytes
word_at-bytes a rest x h =
    let long : length a + 4 ≤ length (a ++ (word_bytes x ++ rest)) = simp (length-append, unary_clauses) (omega arith) in
    word_at_in (a ++ (word_bytes x ++ rest)) (length a) long
    ∙ simp (get_or-append-add a (word_bytes x ++ rest), get_or-append_seam) (value_of_bytes x h)

pub length-word : (w : ℕ) → length (word_bytes w) ≡ 4
unfolding word_bytes
length-word w = refl

-- word k of a list of words written as bytes
first_word : (a ws rest : List ℕ) (w : ℕ) → a ++ (gather word_bytes (w ∷ ws) ++ rest) ≡ a ++ (word_bytes w ++ (gather word_bytes ws ++ rest))
unfolding gather
first_word a ws rest w = simp append_assoc

pub word_at-words :
    (a : List ℕ) {ws : List ℕ} (rest : List ℕ) (k : ℕ) → Words ws → k < length ws
    → word_at (a ++ (gather word_bytes ws ++ rest)) (length a + 4 * k) ≡ get_or ws k 0
word_at-words a rest k none h = absurd (omega arith)
word_at-words a rest zero (more {w = w} {ws = ws} f fs) h =
    let e : length a + 4 * zero ≡ length a = omega arith in
    ap (λ (n : ℕ). word_at (a ++ (gather word_bytes (w ∷ ws) ++ rest)) n) e
    ∙ ap (λ (l : List ℕ). word_at l (length a)) (first_word a ws rest w)
    ∙ word_at-bytes a (gather word_bytes ws ++ rest) w f
word_at-words a rest (suc k) (more {w = w} {ws = ws} f fs) h =
    let e : length a + 4 * suc k ≡ length (a ++ word_bytes w) + 4 * k = simp (length-append, length-word) (omega arith) in
    let i : k < length ws = omega arith in
    ap (λ (n : ℕ). word_at (a ++ (gather word_bytes (w ∷ ws) ++ rest)) n) e
    ∙ ap (λ (l : List ℕ). word_at l (length (a ++ word_bytes w) + 4 * k))
    (first_word a ws rest w ∙ sym (append_assoc a (word_bytes w) (gather word_bytes ws ++ rest)))
    ∙ word_at-words (a ++ word_bytes w) rest k fs i
