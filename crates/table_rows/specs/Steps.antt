-- Words written one after another: what a turn of a writer's loop leaves, and what its end. Assumes nothing.
use Rattle.std.specs.Prelude.{ℕ, zero, suc, refl, min, ◌+◌, ◌*◌, ◌-◌, ◌/◌, ◌%◌, ◌<◌, ◌≤◌, ◌≡◌, List, [], ◌∷◌, ◌++◌, length, take, drop}
use Rattle.std.proofs.Common.{arith, inl, inr, add-one, sym, ap, ◌∙◌, append-nil, length-drop, take_all, get_or, drop-cons}
use Rattle.std.proofs.lemmas.Bool.{cases_lt}
use Rattle.std.proofs.lemmas.Bool.Decides.{nat_tests}
use Rattle.std.proofs.lemmas.List.{drop_all}
use Rattle.gil.specs.Names.{gather}
use Rattle.std.proofs.Math.Seq.{drop-length}
use borrow.Rule.Slice.PartMut.{mid_of, post_of, put_mid, Post-is}
use Rattle.lent_words.specs.Mirror.{put_word, put_words, at_most}
use Rattle.lent_words.specs.Laws.Rooms.{put-append}
use Rattle.machine_cells.specs.declared.Cell.{Cell}
use Rattle.table_rows.specs.Mirror.{words_from, value_of, cell_of}

-- one word more, and all of them
pub word_more :
    (goal b : List ℕ) {b' : List ℕ} (ws : List ℕ) (at i w : ℕ) → i < length ws → w ≡ get_or ws i 0
    → goal ≡ put_words b (at + 4 * i) (drop i ws) → b' ≡ put_word b (at + 4 * i) w
    → goal ≡ put_words b' (at + 4 * (i + 1)) (drop (i + 1) ws)
unfolding put_words
word_more goal b ws at i w h e p q =
    let k : at + 4 * (i + 1) ≡ at + 4 * i + 4 = omega arith in
    p ∙ rw (drop-cons ws i 0 h, ← e, k, q, add-one)

pub all_put : (goal b ws : List ℕ) (at i : ℕ) → length ws ≤ i → goal ≡ put_words b at (drop i ws) → b ≡ goal
unfolding put_words
all_put goal b ws at i h p = sym (rw (drop_all i ws h) at p)

-- one thing more, as k words, and all of them
pub thing_more :
    {A : Type 0} (f : A → List ℕ) (goal b : List ℕ) {b' ws : List ℕ} (l : List A) (d x : A) (at : ℕ) {at' : ℕ} (i : ℕ) → i < length l → x ≡ get_or l i d
    → goal ≡ put_words b at (gather f (drop i l)) → ws ≡ f x → b' ≡ put_words b at ws → at' ≡ at + 4 * length ws
    → goal ≡ put_words b' at' (gather f (drop (i + 1) l))
unfolding gather
thing_more f goal b {b'} {ws} l d x at i h e p w q k =
    p ∙ rw (drop-cons l i d h, ← e, ← w, put-append, q, k, add-one)

pub things_put : {A : Type 0} (f : A → List ℕ) (goal b : List ℕ) (l : List A) (at i : ℕ) → length l ≤ i → goal ≡ put_words b at (gather f (drop i l)) → b ≡ goal
unfolding put_words gather
things_put f goal b l at i h p = sym (rw (drop_all i l h) at p)

-- the same of things that have their words by their numbers: the next thing's words are written, what is left to write gives the same
pub turn :
    (f : ℕ → List ℕ) (goal b b' : List ℕ) (at at' i n : ℕ) → i < n → at' ≡ at + 4 * length (f i)
    → goal ≡ put_words b at (words_from f i (n - i))
    → b' ≡ put_words b at (f i)
    → goal ≡ put_words b' at' (words_from f (i + 1) (n - (i + 1)))
unfolding words_from
turn f goal b b' at at' i n h k e e' =
    let m : n - i ≡ suc (n - (i + 1)) = omega arith in
    rw (e', k, ← put-append (f i) (words_from f (i + 1) (n - (i + 1))) b at, add-one) (rw (m, add-one) at e)

-- all is written
pub done :
    (f : ℕ → List ℕ) (goal b : List ℕ) (at i n : ℕ) → n ≤ i
    → goal ≡ put_words b at (words_from f i (n - i)) → b ≡ goal
unfolding words_from put_words
done f goal b at i n h e = let m : n - i ≡ 0 = omega arith in sym (rw m at e)

-- nothing is written yet
pub begun : (f : ℕ → List ℕ) (b : List ℕ) (at n m : ℕ) → n ≡ m → put_words b at (words_from f 0 m) ≡ put_words b at (words_from f 0 (n - 0))
begun f b at n m e = let k : n - 0 ≡ m = omega arith in rw k

-- words written behind words
pub then-put :
    (u v b b' b'' : List ℕ) (at at' : ℕ) → at' ≡ at + 4 * length u → b' ≡ put_words b at u → b'' ≡ put_words b' at' v
    → b'' ≡ put_words b at (u ++ v)
then-put u v b b' b'' at at' k e f = f ∙ rw (e, k, ← put-append u v b at)

-- a value's two words, and a cell's four
pub value-put :
    (b b' : List ℕ) (at v x y : ℕ) → x ≡ v / 4294967296 → y ≡ v % 4294967296
    → b' ≡ put_words b at (x ∷ y ∷ []) → b' ≡ put_words b at (value_of v)
unfolding value_of
value-put b b' at v x y e f g = cc

pub cell-put :
    (b b' b'' : List ℕ) (at at' : ℕ) (c : Cell) → at' ≡ at + 8
    → b' ≡ put_words b at (c.location.0 ∷ c.property ∷ [])
    → b'' ≡ put_words b' at' (value_of c.value)
    → b'' ≡ put_words b at (cell_of c)
unfolding cell_of
cell-put b b' b'' at at' c k e f = then-put (c.location.0 ∷ c.property ∷ []) (value_of c.value) b b' b'' at at' k e f

-- a cell's four words by themselves, and as many cells as there is room for
pub four_words :
    (c : Cell) {t w : ℕ} → t ≡ c.value / 4294967296 → w ≡ c.value % 4294967296 → c.location.0 ∷ c.property ∷ t ∷ w ∷ [] ≡ cell_of c
unfolding cell_of value_of
four_words c e f = rw (e, f) refl

pub take_least : {A : Type 0} (l : List A) (n : ℕ) {m : ℕ} → m ≡ min (length l) n → take m l ≡ take n l
take_least l n e = elim (cases_lt n (length l)) [ inl h ↦ ap (λ (k : ℕ). take k l) (omega arith) | inr h ↦ take_all _ l (omega arith) ∙ sym (take_all n l h) ]

-- what is counted, and no more than there is room for
pub least : (most n : ℕ) {m : ℕ} → m ≡ min n most → at_most most n ≡ m
unfolding at_most
least most n e = grind (arith, nat_tests)

-- things by their numbers, from the k-th on, are those of the list
pub from_list :
    {W : Type 0} (g : W → List ℕ) (w₀ : W) (ws : List W) (k n : ℕ) → k + n ≤ length ws
    → words_from (λ i. g (get_or ws i w₀)) k n ≡ gather g (take n (drop k ws))
unfolding words_from gather
from_list g w₀ ws k zero h = refl
from_list g w₀ ws k (suc n) h =
    let first : k < length ws = omega arith in
    let rest : suc k + n ≤ length ws = omega arith in
    rw (drop-cons ws k w₀ first, from_list g w₀ ws (suc k) n rest)

-- and a frame's
pub from_frame :
    (g : ℕ → List ℕ) (ws : List ℕ) (at i n : ℕ) → at + i + n ≤ length ws
    → words_from (λ x. g (get_or ws (at + x) 0)) i n ≡ gather g (take n (drop (at + i) ws))
unfolding words_from gather
from_frame g ws at i zero h = refl
from_frame g ws at i (suc n) h =
    let first : at + i < length ws = omega arith in
    let rest : at + suc i + n ≤ length ws = omega arith in
    let next : suc (at + i) ≡ at + suc i = omega arith in
    rw (drop-cons ws (at + i) 0 first, next, from_frame g ws at (suc i) n rest)

-- a part `t[at..]` that was lent and comes back changed
pub part-back :
    (f : List ℕ → List ℕ) (t ys : List ℕ) (at : ℕ) → at ≤ length t
    → ys ≡ f (mid_of at (length t - at) t)
    → put_mid at (length t - at) t ys ≡ take at t ++ f (drop at t)
part-back f t ys at h e =
    let all : mid_of at (length t - at) t ≡ drop at t = take_all (length t - at) (drop at t) (simp length-drop (omega arith)) in
    let none : post_of at (length t - at) t ≡ [] = Post-is at (length t) t h ∙ drop-length t in
    rw (e, all, none, append-nil)
