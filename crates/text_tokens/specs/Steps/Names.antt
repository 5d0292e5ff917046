-- A name by its place: the part that lies in the text is all of it. Assumes nothing.
use Rattle.std.specs.Prelude.{ℕ, ◌-◌, min, ◌≡◌, List, take, drop, length}
use Rattle.std.proofs.Common.{sym, ◌∙◌, arith, take_all, drop_of_length-le, length-drop}
use Rattle.std.proofs.Math.Decide.{dec_le}
use Rattle.gil.specs.Text.{part}

take-min : (s : List ℕ) (n m : ℕ) → m ≡ min (length s) n → take m s ≡ take n s
take-min s n m e = elim (dec_le n (length s)) [ yes h ↦ (let f : m ≡ n = omega arith in rw f) | no h ↦ take_all m s (omega arith) ∙ sym (take_all n s (omega arith)) ]

drop-min : (s : List ℕ) (i j : ℕ) → j ≡ min (length s) i → drop j s ≡ drop i s
drop-min s i j e = elim (dec_le i (length s)) [ yes h ↦ (let f : j ≡ i = omega arith in rw f) | no h ↦ drop_of_length-le s (omega arith) ∙ sym (drop_of_length-le s (omega arith)) ]

pub part-is : (s : List ℕ) (i n j m : ℕ) → j ≡ min (length s) i → m ≡ min (length (take (length s - j) (drop j s))) n → take m (take (length s - j) (drop j s)) ≡ part s i n
unfolding part
part-is s i n j m e f = take-min (take (length s - j) (drop j s)) n m f ∙ rw (take_all (length s - j) (drop j s) (omega (arith, length-drop j s)), drop-min s i j e)
