-- The stores of a number, of an operator's node and of a command's five words. Assumes nothing.
use Rattle.std.specs.Prelude.{ℕ, suc, ◌+◌, ◌≤◌, ◌<◌, ◌≡◌, Bool, true, false, length, set, ltb}
use Rattle.std.proofs.Math.Path.{ap}
use Rattle.std.proofs.Common.{◌∙◌, arith, add-one, lt-ltb, le-ltb}
use mathlib.Core.List.{List, [], ◌∷◌}
use Rattle.std.proofs.lemmas.List.Edits.{sets}
use Rattle.machine_code.specs.Code.{node, number_words, code_words, kind_range, next_word_node}
use Rattle.text_forms.specs.Mirror.Stores.{put, up_from, put_number, after_number}
use Rattle.text_forms.specs.Laws.Stores.{put-long, put-set, up_room, set-sets}

-- stores in a row
pub five : (ws : List ℕ) {w₁ w₂ w₃ w₄ w₅ : List ℕ} (at a b c d e : ℕ) → w₁ ≡ put ws at a → w₂ ≡ put w₁ (at + 1) b → w₃ ≡ put w₂ (at + 2) c → w₄ ≡ put w₃ (at + 3) d → w₅ ≡ put w₄ (at + 4) e → w₅ ≡ put (put (put (put (put ws at a) (at + 1) b) (at + 2) c) (at + 3) d) (at + 4) e
five ws at a b c d e f g h i j = cc

-- a number of one word, and of two
module _ (ws : List ℕ) (at n : ℕ) {w : List ℕ} {out : ℕ} where
  pub near_number : n < kind_range → out ≡ up_from at → w ≡ put ws at n → (out ≡ after_number at n) × (w ≡ put_number ws at n)
  unfolding after_number put_number
  near_number h a b = (rw (lt-ltb n kind_range h, after_number) a, rw (lt-ltb n kind_range h, put_number) b)

  pub far-number : {w₁ : List ℕ} {next : ℕ} → kind_range ≤ n → w₁ ≡ put ws at (node next_word_node 0) → next ≡ up_from at → out ≡ up_from next → w ≡ put w₁ next n → (out ≡ after_number at n) × (w ≡ put_number ws at n)
  unfolding after_number put_number
  far-number {w₁} {next} h a b c d = (
    rw (le-ltb n kind_range h, after_number) (c ∙ ap up_from b),
    rw (le-ltb n kind_range h, put_number) (d ∙ ap (λ (x : List ℕ). put x next n) a ∙ ap (λ (i : ℕ). put (put ws at (node next_word_node 0)) i n) b),
  )

pub number-long : (ws : List ℕ) (at n : ℕ) → length (put_number ws at n) ≡ length ws
unfolding put_number
number-long ws at n = pick (ltb n kind_range)
  where
    pick : (b : Bool) → length {A = ℕ} (elim b [ true ↦ put ws at n | false ↦ put (put ws at (node next_word_node 0)) (up_from at) n ]) ≡ length ws
    pick true = put-long ws at n
    pick false = put-long (put ws at (node next_word_node 0)) (up_from at) n ∙ put-long ws at (node next_word_node 0)

pub number-sets : (ws : List ℕ) (at n : ℕ) → length ws ≡ code_words → at + length (number_words n) ≤ code_words → put_number ws at n ≡ sets ws at (number_words n)
unfolding put_number number_words
number-sets ws at n l = pick (ltb n kind_range)
  where
    pick : (b : Bool) → at + length {A = ℕ} (elim b [ true ↦ n ∷ [] | false ↦ node next_word_node 0 ∷ n ∷ [] ]) ≤ code_words → ◌≡◌ {A = List ℕ} (elim b [ true ↦ put ws at n | false ↦ put (put ws at (node next_word_node 0)) (up_from at) n ]) (sets ws at (elim b [ true ↦ n ∷ [] | false ↦ node next_word_node 0 ∷ n ∷ [] ]))
    pick true h = put-set ws at n l
    pick false h =
        put-set (put ws at (node next_word_node 0)) (up_from at) n (put-long ws at (node next_word_node 0) ∙ l)
        ∙ ap (λ (x : List ℕ). set x (up_from at) n) (put-set ws at (node next_word_node 0) l)
        ∙ ap (λ (i : ℕ). set (set ws at (node next_word_node 0)) i n) (up_room at (omega arith) ∙ add-one at)

pub number-room : (at n : ℕ) → at + length (number_words n) ≤ code_words → after_number at n ≡ at + length (number_words n)
unfolding after_number number_words
number-room at n = pick (ltb n kind_range)
  where
    pick : (b : Bool) → at + length {A = ℕ} (elim b [ true ↦ n ∷ [] | false ↦ node next_word_node 0 ∷ n ∷ [] ]) ≤ code_words → ◌≡◌ {A = ℕ} (elim b [ true ↦ up_from at | false ↦ up_from (up_from at) ]) (at + length {A = ℕ} (elim b [ true ↦ n ∷ [] | false ↦ node next_word_node 0 ∷ n ∷ [] ]))
    pick true h = up_room at (omega arith)
    pick false h = let e : up_from at ≡ at + 1 = up_room at (omega arith) in up_room (up_from at) (omega arith) ∙ omega arith

-- a node before the words of its operands
pub node-before : (l : List ℕ) (at v : ℕ) (ws : List ℕ) → set (sets l (at + 1) ws) at v ≡ sets l at (v ∷ ws)
node-before l at v ws = ap (λ (n : ℕ). set (sets l n ws) at v) (add-one at) ∙ set-sets l at v (suc at) ws (omega arith)
