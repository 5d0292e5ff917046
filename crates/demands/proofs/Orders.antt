-- The first reason of an order: it holds, and it is one only. Where the order is that of the numbers, it is the lowest that holds. Assumes
-- nothing.
use Rattle.std.specs.Prelude.{ℕ, zero, suc, ◌+◌, ◌≤◌, ◌<◌, ◌≡◌, refl, Bool, true, false, List, [], ◌∷◌, ltb}
use Rattle.std.proofs.Common.{arith, sym, subst, ltb-true, ltb-false}
use Rattle.demands.specs.Reasons.{First, holds, passes}

module _ {R : ℕ → Type 0} where
  pub first_holds : {order : List ℕ} {n : ℕ} → First R order n → R n
  first_holds (holds r) = r
  first_holds (passes x f) = first_holds f

  pub first-same : {order : List ℕ} {m n : ℕ} → First R order m → First R order n → m ≡ n
  first-same (holds r) (holds s) = refl
  first-same (holds r) (passes x g) = absurd (x r)
  first-same (passes x f) (holds s) = absurd (x s)
  first-same (passes x f) (passes y g) = first-same f g

-- the lowest number whose reason holds
abbrev pub Lowest : (ℕ → Type 0) → ℕ → Type 0
Lowest R n = R n × ((m : ℕ) → m < n → R m → ⊥)

-- so many numbers from one on
unfoldable pub rising : (from count : ℕ) → List ℕ
rising from zero = []
rising from (suc count) = from ∷ rising (suc from) count

pub lowest_first :
    {R : ℕ → Type 0} (from count : ℕ) {n : ℕ} → Lowest R n → from ≤ n → n < from + count → First R (rising from count) n
unfolding rising
lowest_first from zero f low high = absurd (omega arith)
lowest_first {R} from (suc count) {n} f low high =
    at (ltb from n) refl (λ l. lowest_first {R = R} (suc from) count f (omega arith) (omega arith))
  where
    at : (b : Bool) → ltb from n ≡ b → (from < n → First R (rising (suc from) count) n) → First R (from ∷ rising (suc from) count) n
    at true e later = let l : from < n = ltb-true from n e in passes (f.1 from l) (later l)
    at false e later =
        let same : from ≡ n = omega (arith, ltb-false from n e) in
        subst (λ (k : ℕ). First R (from ∷ rising (suc from) count) k) same (holds (subst R (sym same) f.0))
