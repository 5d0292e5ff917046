-- Words read from the bytes of things that stand one after another, as the terms of a pool do and the rows of a table. Assumes nothing.
use Prim.Native.Nat.{ℕ, zero, suc, ◌+◌, ◌*◌, ◌-◌, ◌<◌}
use Rattle.std.proofs.Common.{arith, mul-suc, ◌∙◌, length-append, get_or-drop, drop-drop}
use Rattle.std.proofs.Math.Nat.{mul-zero}
use Rattle.std.specs.Prelude.{◌≡◌, get_or, drop, replicate}
use Rattle.std.proofs.Math.Path.{sym, ap, ap₂}
use mathlib.Core.List.{List, [], ◌∷◌, ◌++◌, append_assoc}
use Rattle.std.proofs.Math.ListN.{length}
use Rattle.gil.specs.Numbers.{term_length, pool_length}
use Rattle.gil.specs.Names.{gather}
use Rattle.gil.specs.Values.{Node, input}
use Rattle.gil.specs.Pool.{Ref, Pool}
use Rattle.gil.specs.Layout.{word_bytes, room, node_words, node_bytes, pool_bytes}
use Rattle.lent_words.specs.Laws.Row.{node-five}
use Rattle.lent_words.specs.Laws.Rooms.{length-words}
use Rattle.machine_code.specs.WellFormed.{Each}
use Rattle.machine_code.specs.WellFormed as each
use Rattle.lent_words.specs.Mirror.{word_at}
use Rattle.lent_words.specs.Laws.Reads.{Words, word_at-words}

-- The first thing of what is left of a list, and what is left after it
module _ {A : Type 0} where
  pub first : (l : List A) (k : ℕ) {x : A} {r : List A} (d : A) → drop k l ≡ x ∷ r → get_or l k d ≡ x
  first l k {x} {r} d e =
      let z : k + 0 ≡ k = omega arith in
      sym (get_or-drop k l 0 d ∙ ap (λ (n : ℕ). get_or l n d) z) ∙ ap (λ (m : List A). get_or m 0 d) e

  pub after : (l : List A) (k : ℕ) {x : A} {r : List A} → drop k l ≡ x ∷ r → drop (suc k) l ≡ r
  after l k {x} {r} e =
      let z : suc k ≡ k + 1 = omega arith in
      ap (λ (n : ℕ). drop n l) z ∙ sym (drop-drop 1 k l) ∙ ap (drop 1) e

  pub more-there : (l : List A) (k : ℕ) {x : A} {r : List A} → drop k l ≡ x ∷ r → k < length l
  more-there [] zero e = absurd (let h : ◌≡◌ {A = ℕ} 0 1 = cc in omega arith)
  more-there [] (suc k) e = absurd (let h : ◌≡◌ {A = ℕ} 0 1 = cc in omega arith)
  more-there (a ∷ l) zero e = omega arith
  more-there (a ∷ l) (suc k) e = let h : k < length l = more-there l k e in omega arith

  pub each_at : {P : A → Type 0} {l : List A} → Each P l → (k : ℕ) (d : A) → k < length l → P (get_or l k d)
  each_at each.none k d h = absurd (omega arith)
  each_at (each.more f fs) zero d h = f
  each_at (each.more f fs) (suc k) d h = each_at fs k d (omega arith)

-- things of `m` words each, one after another: word j of thing k
pub record Sized {A : Type 0} (ws : A → List ℕ) (m : ℕ) (a : A) : Type 0 where
  pub size : length (ws a) ≡ m
  pub words : Words (ws a)

module _ {A : Type 0} (ws : A → List ℕ) (m : ℕ) where
  abbrev all : List A → List ℕ
  all l = gather (λ (a : A). gather word_bytes (ws a)) l

  one_word :
      (h : List ℕ) (a : A) (rest : List ℕ) (j : ℕ) → Sized ws m a → j < m
      → word_at (h ++ (gather word_bytes (ws a) ++ rest)) (length h + 4 * j) ≡ get_or (ws a) j 0
  one_word h a rest j f i = let g : j < length (ws a) = rw f.size i in word_at-words h rest j f.words g

  pub thing_word :
      (h : List ℕ) {l : List A} (rest : List ℕ) (k j at : ℕ) (d : A) → Each (Sized ws m) l → k < length l → j < m
      → at ≡ length h + 4 * (m * k) + 4 * j → word_at (h ++ (all l ++ rest)) at ≡ get_or (ws (get_or l k d)) j 0
  unfolding gather
  thing_word h rest k j at d each.none i g e = absurd (omega arith)
  thing_word h rest zero j at d (each.more {a} {l} f fs) i g e =
      let z : at ≡ length h + 4 * j = e ∙ simp mul-zero (omega arith) in
      ap₂ (λ (b : List ℕ) (n : ℕ). word_at b n) (ap (λ (b : List ℕ). h ++ b) (append_assoc (gather word_bytes (ws a)) (all l) rest)) z
      ∙ one_word h a (all l ++ rest) j f g
  thing_word h rest (suc k) j at d (each.more {a} {l} f fs) i g e =
      let s : length (gather word_bytes (ws a)) ≡ 4 * m = length-words (ws a) ∙ ap (λ (n : ℕ). 4 * n) f.size in
      let z : at ≡ length (h ++ gather word_bytes (ws a)) + 4 * (m * k) + 4 * j =
      e ∙ simp (length-append, mul-suc) (omega arith) in
      ap (λ (b : List ℕ). word_at b at)
      (ap (λ (b : List ℕ). h ++ b) (append_assoc (gather word_bytes (ws a)) (all l) rest)
      ∙ sym (append_assoc h (gather word_bytes (ws a)) (all l ++ rest)))
      ∙ thing_word (h ++ gather word_bytes (ws a)) rest k j at d fs (omega arith) g z

-- the pool
nodes-sized : {w : Pool} → Each (λ (n : Node Ref). Words (node_words n)) w → Each (Sized node_words 5) w
nodes-sized each.none = each.none
nodes-sized (each.more {a} f fs) = each.more (record { size = node-five a; words = f }) (nodes-sized fs)

pub term-word :
    (w : Pool) (rest : List ℕ) (k j at : ℕ) → Each (λ (n : Node Ref). Words (node_words n)) w → k < length w → j < 5 → at ≡ term_length * k + 4 * j
    → word_at (pool_bytes w ++ rest) at ≡ get_or (node_words (get_or w k (input 0))) j 0
unfolding pool_bytes room node_bytes
term-word w rest k j at f h i e =
    let z : at ≡ length {A = ℕ} [] + 4 * (5 * k) + 4 * j = omega arith in
    ap (λ (b : List ℕ). word_at b at) (append_assoc (gather node_bytes w) (replicate (pool_length - length (gather node_bytes w)) 0) rest)
    ∙ thing_word node_words 5 [] (replicate (pool_length - length (gather node_bytes w)) 0 ++ rest) k j at (input 0) (nodes-sized f) h i z
