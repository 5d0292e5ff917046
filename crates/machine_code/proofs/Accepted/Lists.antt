-- Laws of lists that the proof that accepted texts are well formed needs: something that holds of each element, tests that no element
-- passes, and numbers added up over a list. Assumes nothing.
use Prim.Native.Nat.{ℕ, ◌+◌}
use native.Mathlib.Omega.{arith}
use Rattle.std.specs.Prelude.{◌≡◌, Bool, true, false, ◌&&◌, ◌||◌}
use Rattle.std.proofs.Math.Path.{refl, sym, ap, ap₂}
use Rattle.std.proofs.Common.{◌∙◌}
use Rattle.std.proofs.Math.Bool.{or_assoc}
use mathlib.Core.List.{List, [], ◌∷◌, ◌++◌, map}
use Rattle.std.proofs.Math.ListN.{length, length-append}
use Rattle.gil.specs.Names.{any, gather}
use Rattle.machine_code.specs.WellFormed.{Each, none, more}

-- tests joined by "or" that fail, by "and" that pass
pub or_false : (a b : Bool) → (a || b) ≡ false → (a ≡ false) × (b ≡ false)
or_false true b e = (e, cc)
or_false false b e = (refl, e)

pub or_right : (a b : Bool) → b ≡ true → (a || b) ≡ true
or_right true b e = refl
or_right false b e = e

pub and_true : (a b : Bool) → (a && b) ≡ true → (a ≡ true) × (b ≡ true)
and_true true b e = (refl, e)
and_true false b e = (e, cc)

module _ {A : Type 0} where
  pub each_to : {P Q : A → Type 0} {l : List A} → ((a : A) → P a → Q a) → Each P l → Each Q l
  each_to f none = none
  each_to f (more p ps) = more (f _ p) (each_to f ps)

  pub each_both : {P Q : A → Type 0} {l : List A} → Each P l → Each Q l → Each (λ a. P a × Q a) l
  each_both none none = none
  each_both (more p ps) (more q qs) = more (p, q) (each_both ps qs)

  pub each_append : {P : A → Type 0} (s t : List A) → Each P (s ++ t) → Each P s × Each P t
  each_append [] t h = (none, h)
  each_append (a ∷ s) t (more p ps) = let (x, y) = each_append s t ps in (more p x, y)

  -- no element passes a test
  pub none_passes : (p : A → Bool) (l : List A) → any p l ≡ false → Each (λ a. p a ≡ false) l
  unfolding any
  none_passes p [] e = none
  none_passes p (a ∷ l) e = let (x, y) = or_false (p a) (any p l) e in more x (none_passes p l y)

  pub any_append : (p : A → Bool) (s t : List A) → any p (s ++ t) ≡ (any p s || any p t)
  unfolding any
  any_append p [] t = refl
  any_append p (a ∷ s) t = ap (λ (b : Bool). p a || b) (any_append p s t) ∙ sym (or_assoc (p a) (any p s) (any p t))

  -- a number of each element, added up
  unfoldable pub total : (A → ℕ) → List A → ℕ
  total f [] = 0
  total f (a ∷ l) = f a + total f l

  pub total-append : (f : A → ℕ) (s t : List A) → total f (s ++ t) ≡ total f s + total f t
  unfolding total
  total-append f [] t = omega arith
  total-append f (a ∷ s) t = let h : _ ≡ _ = total-append f s t in omega arith

  pub total_equal : (f g : A → ℕ) → ((a : A) → f a ≡ g a) → (l : List A) → total f l ≡ total g l
  unfolding total
  total_equal f g h [] = refl
  total_equal f g h (a ∷ l) = ap₂ ◌+◌ (h a) (total_equal f g h l)

module _ {A B : Type 0} where
  pub each_map : {P : B → Type 0} (f : A → B) {l : List A} → Each (λ a. P (f a)) l → Each P (map f l)
  each_map f none = none
  each_map f (more p ps) = more p (each_map f ps)

  pub each-gather : {P : B → Type 0} (f : A → List B) (l : List A) → Each P (gather f l) → Each (λ a. Each P (f a)) l
  unfolding gather
  each-gather f [] h = none
  each-gather f (a ∷ l) h = let (x, y) = each_append (f a) (gather f l) h in more x (each-gather f l y)

  pub length-gather : (f : A → List B) (l : List A) → length (gather f l) ≡ total (λ a. length (f a)) l
  unfolding gather total
  length-gather f [] = refl
  length-gather f (a ∷ l) = length-append (f a) (gather f l) ∙ ap (λ (n : ℕ). length (f a) + n) (length-gather f l)

  pub total-gather : (g : B → ℕ) (f : A → List B) (l : List A) → total g (gather f l) ≡ total (λ a. total g (f a)) l
  unfolding gather total
  total-gather g f [] = refl
  total-gather g f (a ∷ l) = total-append g (f a) (gather f l) ∙ ap (λ (n : ℕ). total g (f a) + n) (total-gather g f l)

  pub total-map : (g : B → ℕ) (f : A → B) (l : List A) → total g (map f l) ≡ total (λ a. g (f a)) l
  unfolding total
  total-map g f [] = refl
  total-map g f (a ∷ l) = ap (λ (n : ℕ). g (f a) + n) (total-map g f l)
