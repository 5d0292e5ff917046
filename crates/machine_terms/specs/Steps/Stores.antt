-- Runs of stores: one after another is one run, and a term's five words are one run. Assumes nothing.
use Rattle.std.specs.Prelude.{◌≡◌, ℕ, suc, ◌+◌, ◌/◌, ◌%◌, List, [], ◌∷◌, ◌++◌, length, slice_set, refl}
use Rattle.std.proofs.Common.{add-zero, arith}
use Rattle.std.proofs.lemmas.List.Edits.{sets}
use Rattle.gil.specs.Names.{gather}
use Rattle.gil.specs.Layout.{word_bytes}
use Rattle.machine_terms.specs.Mirror.{node_of}

pub sets-append : (a b l : List ℕ) (i : ℕ) → sets (sets l i a) (i + length a) b ≡ sets l i (a ++ b)
sets-append [] b l i = rw add-zero
sets-append (x ∷ a) b l i =
    let e : i + suc (length a) ≡ suc i + length a = omega arith in
    rw e (sets-append a b (slice_set l i x) (suc i))

grow : (a b p q r : List ℕ) (i j : ℕ) → q ≡ sets p i a → j ≡ i + length a → r ≡ sets q j b → r ≡ sets p i (a ++ b)
grow a b p q r i j eq ej er = cc (sets-append a b p i)

-- five words put one after the other
pub five-words :
    (kind a b at : ℕ) (p0 p1 p2 p3 p4 p5 : List ℕ)
    → p1 ≡ sets p0 at (word_bytes kind)
    → p2 ≡ sets p1 (at + 4) (word_bytes (a / 4294967296))
    → p3 ≡ sets p2 (at + 8) (word_bytes (a % 4294967296))
    → p4 ≡ sets p3 (at + 12) (word_bytes (b / 4294967296))
    → p5 ≡ sets p4 (at + 16) (word_bytes (b % 4294967296))
    → p5 ≡ sets p0 at (node_of kind a b)
unfolding node_of gather word_bytes
five-words kind a b at p0 p1 p2 p3 p4 p5 e1 e2 e3 e4 e5 =
    let w1 = word_bytes kind in
    let w2 = word_bytes (a / 4294967296) in
    let w3 = word_bytes (a % 4294967296) in
    let w4 = word_bytes (b / 4294967296) in
    let w5 = word_bytes (b % 4294967296) in
    let f2 : p2 ≡ sets p0 at (w1 ++ w2) = grow w1 w2 p0 p1 p2 at (at + 4) e1 refl e2 in
    let f3 : p3 ≡ sets p0 at (w1 ++ w2 ++ w3) = grow (w1 ++ w2) w3 p0 p2 p3 at (at + 8) f2 refl e3 in
    let f4 : p4 ≡ sets p0 at (w1 ++ w2 ++ w3 ++ w4) = grow (w1 ++ w2 ++ w3) w4 p0 p3 p4 at (at + 12) f3 refl e4 in
    grow (w1 ++ w2 ++ w3 ++ w4) w5 p0 p4 p5 at (at + 16) f4 refl e5
