-- Words that have the same bytes: the things of a list one by one, and a frame's. Assumes nothing.
use Rattle.std.specs.Prelude.{ℕ, suc, ◌+◌, ◌<◌, ◌≤◌, ◌≡◌, refl, List, [], ◌∷◌, length, get_or, take}
use Rattle.std.proofs.Common.{arith, ap, length-take, take_all}
use Rattle.gil.specs.Names.{gather}
use Rattle.lent_words.specs.Laws.Rooms.{Alike, alike_same, alike-append}
use Rattle.table_rows.specs.Mirror.{words_from}
use Rattle.table_rows.specs.Steps.{from_list}
use Rattle.table_rows.specs.Laws.Held.{Listed, nothing, more}

-- words of things that are alike one by one
listed-words :
    {A W : Type 0} {As : A → W → Type 0} {l : List A} {ws : List W} (f : A → List ℕ) (g : W → List ℕ)
    → ((a : A) (w : W) → As a w → Alike (g w) (f a)) → Listed As l ws → Alike (gather g ws) (gather f l)
unfolding gather
listed-words f g alike nothing = alike_same refl
listed-words f g alike (more {a} {w} p q) = alike-append (alike a w p) (listed-words f g alike q)

pub listed-long : {A W : Type 0} {As : A → W → Type 0} {l : List A} {ws : List W} → Listed As l ws → length ws ≡ length l
listed-long nothing = refl
listed-long (more p q) = ap suc (listed-long q)

-- all of a list, as many as there is room for
pub listed-all :
    {A W : Type 0} {As : A → W → Type 0} {l : List A} (f : A → List ℕ) (g : W → List ℕ) (ws : List W) (n : ℕ)
    → ((a : A) (w : W) → As a w → Alike (g w) (f a)) → length l ≤ n → Listed As l ws → Alike (gather g (take n ws)) (gather f l)
listed-all f g ws n alike h p = rw (take_all n ws (omega (arith, listed-long p))) (listed-words f g alike p)

-- those that stand at the front of a list, and those of a frame
pub listed-from :
    {A W : Type 0} {As : A → W → Type 0} {l : List A} (f : A → List ℕ) (g : W → List ℕ) (w₀ : W) (ws : List W) (n : ℕ)
    → ((a : A) (w : W) → As a w → Alike (g w) (f a)) → n ≡ length l → Listed As l (take n ws)
    → Alike (words_from (λ i. g (get_or ws i w₀)) 0 n) (gather f l)
listed-from f g w₀ ws n alike e p =
    let enough : 0 + n ≤ length ws = omega (arith, listed-long p, length-take n ws) in
    rw (from_list g w₀ ws 0 n enough) (listed-words f g alike p)

pub frame-words :
    {A : Type 0} (f : A → List ℕ) (a₀ : A) (F : ℕ → List ℕ) (l : List A) (k : ℕ)
    → ((x : ℕ) → x < length l → Alike (F (k + x)) (f (get_or l x a₀)))
    → Alike (words_from F k (length l)) (gather f l)
unfolding words_from gather
frame-words f a₀ F [] k each = alike_same refl
frame-words f a₀ F (a ∷ l) k each =
    let here : k + 0 ≡ k = omega arith in
    alike-append (rw here at (each 0 (omega arith))) (frame-words f a₀ F l (suc k) later)
  where
    later : (x : ℕ) → x < length l → Alike (F (suc k + x)) (f (get_or l x a₀))
    later x h = let e : suc k + x ≡ k + suc x = omega arith in rw e (each (suc x) (omega arith))
