-- Tests: what holds on both sides of one, or on the side that it falls out on. Assumes nothing.
use Rattle.std.specs.Prelude.{Bool, true, false, ◌&&◌, ◌≡◌, refl, T}
use Rattle.std.proofs.Common.{sym, ◌∙◌, subst}

-- what holds on the side that a test falls out
pub chosen :
    {A : Type 0} (P : A → Type 0) (t : Bool) {a b : A} → (t ≡ true → P a) → (t ≡ false → P b) → P (elim t [ true ↦ a | false ↦ b ])
chosen P true f g = f refl
chosen P false f g = g refl

module _ {A B : Type 0} (R : A → B → Type 0) where
  -- a test that falls out the same on both sides
  pub either :
      (t : Bool) {a a' : A} {b b' : B} → R a b → R a' b' → R (elim t [ true ↦ a | false ↦ a' ]) (elim t [ true ↦ b | false ↦ b' ])
  either true q r = q
  either false q r = r

  pub either_of :
      {t t' : Bool} {a a' : A} {b b' : B}
      → t ≡ t' → R a b → R a' b' → R (elim t [ true ↦ a | false ↦ a' ]) (elim t' [ true ↦ b | false ↦ b' ])
  either_of {t} {t'} {a} {a'} {b} {b'} e q r =
      subst (λ (x : Bool). R (elim t [ true ↦ a | false ↦ a' ]) (elim x [ true ↦ b | false ↦ b' ])) e (either t q r)

pub no_false : {A : Type 0} {b : Bool} → b ≡ true → b ≡ false → A
no_false e d = absurd (subst T (sym e ∙ d) tt)

pub and_true : (b : Bool) → b && true ≡ b
and_true true = refl
and_true false = refl

pub and_assoc : (a b c d : Bool) → b ≡ c && d → a && b ≡ a && c && d
and_assoc true b c d e = e
and_assoc false b c d e = refl

pub and_left : (a b : Bool) → a && b ≡ true → a ≡ true
and_left true b e = refl
and_left false b e = e

pub and_right : (a b : Bool) → a && b ≡ true → b ≡ true
and_right true b e = e
and_right false b e = no_false e refl

-- both parts of a test
pub both : (a b : Bool) → a && b ≡ true → (a ≡ true) × (b ≡ true)
both a b e = (and_left a b e, and_right a b e)
