-- A room (Layout's `room`): its length, its words, words written over its zeros, and words that have the same bytes. Assumes nothing.
use Rattle.std.specs.Prelude.{ℕ, zero, suc, ◌+◌, ◌*◌, ◌-◌, ◌≤◌, ◌<◌, ◌≡◌, refl, List, [], ◌∷◌, ◌++◌, length, get_or, replicate}
use Rattle.std.proofs.Common.{arith, ap, ◌∙◌, append_assoc, length-append, get_or-append-add}
use Rattle.std.proofs.Math.Nat.{sub-zero}
use Rattle.std.proofs.lemmas.List.{length-replicate}
use Rattle.std.proofs.Math.ListN.{get_or-append}
use Rattle.std.proofs.Math.Seq.{take-append_seam, drop-append-add}
use Rattle.gil.specs.Names.{gather}
use Rattle.gil.specs.Layout.{word_bytes, room}
use Rattle.gil.proofs.Theory.Gathered.{gather_append, length-gather-each}
use Rattle.lent_words.specs.Mirror.{put_word, put_words}
use Rattle.lent_words.specs.Laws.Words.{put_word_in}
use Rattle.lent_words.specs.Laws.Reads.{Words, none, more, length-word}

pub length-words : (ws : List ℕ) → length (gather word_bytes ws) ≡ 4 * length ws
length-words ws = length-gather-each word_bytes 4 length-word ws

pub length-room : (n : ℕ) (ws : List ℕ) → length ws ≤ n → length (room n ws) ≡ n
unfolding room
length-room n ws h = simp (length-append, length-replicate) (omega arith)

pub room-none : (n : ℕ) → room n [] ≡ replicate n 0
unfolding room
room-none n = rw sub-zero

room_cons : (n w : ℕ) (ws : List ℕ) → room (suc n) (w ∷ ws) ≡ w ∷ room n ws
unfolding room
room_cons n w ws = let e : suc n - suc (length ws) ≡ n - length ws = omega arith in rw e

-- a number behind others, and one of a room: a zero is what is read where there is none
pub get_d_behind : (s t : List ℕ) (at n : ℕ) → at ≡ length s + n → get_or (s ++ t) at 0 ≡ get_or t n 0
get_d_behind s t at n e = rw e (get_or-append-add s t n 0)

zeros-word : (n j : ℕ) → get_or {A = ℕ} (replicate n 0) j 0 ≡ 0
zeros-word zero j = refl
zeros-word (suc n) zero = refl
zeros-word (suc n) (suc j) = zeros-word n j

front-word : (ws : List ℕ) (n j : ℕ) → get_or (ws ++ replicate n 0) j 0 ≡ get_or ws j 0
front-word [] n j = zeros-word n j
front-word (w ∷ ws) n zero = refl
front-word (w ∷ ws) n (suc j) = front-word ws n j

pub room_word : (n : ℕ) (ws : List ℕ) (j : ℕ) → get_or (room n ws) j 0 ≡ get_or ws j 0
unfolding room
room_word n ws j = front-word ws (n - length ws) j

-- word j of the thing after those before, where all have k words
pub thing_word :
    {A : Type 0} (f : A → List ℕ) (k : ℕ) → ((a : A) → length (f a) ≡ k) → (done later : List A) (a : A) (at j : ℕ) → j < k
    → at ≡ k * length done + j → get_or (gather f (done ++ a ∷ later)) at 0 ≡ get_or (f a) j 0
unfolding gather
thing_word f k each done later a at j h e =
    let i : at ≡ length (gather f done) + j = rw (length-gather-each f k each done) e in
    let l : j < length (f a) = rw (each a) h in
    ap (λ (l : List ℕ). get_or l at 0) (gather_append f done (a ∷ later))
    ∙ get_d_behind (gather f done) (f a ++ gather f later) at j i
    ∙ get_or-append (f a) (gather f later) 0 j l

-- words that fit 32 bits
pub words-zeros : (n : ℕ) → Words (replicate n 0)
words-zeros zero = none
words-zeros (suc n) = more {w = 0} (omega arith) (words-zeros n)

pub words_append : {s t : List ℕ} → Words s → Words t → Words (s ++ t)
words_append none t = t
words_append (more f s) t = more f (words_append s t)

pub words-room : {ws : List ℕ} (n : ℕ) → Words ws → Words (room n ws)
unfolding room
words-room {ws} n f = words_append f (words-zeros (n - length ws))

-- zeros as words
abbrev pub zeros : ℕ → List ℕ
zeros n = replicate n 0

four_zeros : (n : ℕ) → zeros (4 * suc n) ≡ 0 ∷ 0 ∷ 0 ∷ 0 ∷ zeros (4 * n)
four_zeros n = let e : 4 * suc n ≡ suc (suc (suc (suc (4 * n)))) = omega arith in rw e

zero-words : (n : ℕ) → gather word_bytes (zeros n) ≡ zeros (4 * n)
unfolding gather word_bytes
zero-words zero = refl
zero-words (suc n) = rw (zero-words n, four_zeros n)

-- words after words
pub put-append : (u v b : List ℕ) (at : ℕ) → put_words b at (u ++ v) ≡ put_words (put_words b at u) (at + 4 * length u) v
unfolding put_words
put-append [] v b at = let e : at + 0 ≡ at = omega arith in rw e
put-append (w ∷ u) v b at =
    let e : at + 4 * suc (length u) ≡ at + 4 + 4 * length u = omega arith in
    rw e (put-append u v (put_word b at w) (at + 4))

-- a word over four bytes
put-here : (a rest : List ℕ) (p q r s w : ℕ) → put_word (a ++ (p ∷ q ∷ r ∷ s ∷ rest)) (length a) w ≡ a ++ word_bytes w ++ rest
put-here a rest p q r s w =
    let long : length a + 4 ≤ length (a ++ (p ∷ q ∷ r ∷ s ∷ rest)) = simp length-append (omega arith) in
    put_word_in (a ++ (p ∷ q ∷ r ∷ s ∷ rest)) (length a) w long
    ∙ rw (take-append_seam a (p ∷ q ∷ r ∷ s ∷ rest), drop-append-add a (p ∷ q ∷ r ∷ s ∷ rest) 4)

-- words over zeros
pub put-room :
    (at n : ℕ) (a ws rest : List ℕ) → length a ≡ at → length ws ≤ n
    → put_words (a ++ (zeros (4 * n) ++ rest)) at ws ≡ a ++ (gather word_bytes (room n ws) ++ rest)
unfolding put_words gather
put-room at n a [] rest e h = rw (room-none n, zero-words n)
put-room at zero a (w ∷ ws) rest e h = absurd (omega arith)
put-room at (suc n) a (w ∷ ws) rest e h =
    let few : length ws ≤ n = omega arith in
    let on : length (a ++ word_bytes w) ≡ at + 4 = simp (length-append, length-word) (omega arith) in
    let first : put_word (a ++ (zeros (4 * suc n) ++ rest)) at w ≡ a ++ word_bytes w ++ (zeros (4 * n) ++ rest) =
    rw (← e, four_zeros n) (put-here a (zeros (4 * n) ++ rest) 0 0 0 0 w) in
    rw (first, put-room (at + 4) n (a ++ word_bytes w) ws rest on few, room_cons n w ws) (simp append_assoc)

-- As many words, and the same bytes: a word's bytes are those of its lowest 32 bits only.
pub record Alike (u v : List ℕ) : Type 0 where
  pub long : length u ≡ length v
  pub bytes : gather word_bytes u ≡ gather word_bytes v

pub alike_same : {u v : List ℕ} → u ≡ v → Alike u v
alike_same e = record { long = ap length e; bytes = ap (gather word_bytes) e }

pub alike-append : {u v x y : List ℕ} → Alike u v → Alike x y → Alike (u ++ x) (v ++ y)
alike-append {u} {v} {x} {y} p q =
    record {
      long = length-append u x ∙ rw (p.long, q.long, length-append v y);
      bytes = gather_append word_bytes u x ∙ rw (p.bytes, q.bytes, gather_append word_bytes v y);
    }

pub alike-room : {u v : List ℕ} (n : ℕ) → Alike u v → Alike (room n u) (room n v)
unfolding room
alike-room {u} {v} n p = alike-append p (rw p.long (alike_same refl))
