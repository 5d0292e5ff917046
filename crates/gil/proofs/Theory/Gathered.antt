-- Lists gathered (`gather` of Names): from two lists, and how long they are. Every crate cites these. Assumes nothing.
use Rattle.std.specs.Prelude.{ℕ, ◌*◌, ◌≡◌}
use native.Mathlib.Omega.{arith}
use Rattle.std.proofs.Math.Nat.{mul-suc, add_comm}
use Rattle.std.proofs.Math.Path.{refl}
use Rattle.std.proofs.Common.{◌∙◌}
use mathlib.Core.List.{List, [], ◌∷◌, ◌++◌, append_assoc, append-nil}
use Rattle.std.proofs.Math.ListN.{length, length-append}
use Rattle.gil.specs.Names.{gather}

module _ {A B : Type 0} (f : A → List B) where
  pub gather_append : (s t : List A) → gather f (s ++ t) ≡ gather f s ++ gather f t
  unfolding gather
  gather_append [] t = refl
  gather_append (a ∷ s) t = rw (gather_append s t, append_assoc)

  pub gather-last : (l : List A) (a : A) → gather f (l ++ (a ∷ [])) ≡ gather f l ++ f a
  unfolding gather
  gather-last l a = gather_append l (a ∷ []) ∙ rw (append-nil (f a))

  -- where all have one length
  pub length-gather-each : (k : ℕ) → ((a : A) → length (f a) ≡ k) → (l : List A) → length (gather f l) ≡ k * length l
  unfolding gather
  length-gather-each k each [] = omega arith
  length-gather-each k each (a ∷ l) =
      let e : length (gather f l) ≡ k * length l = length-gather-each k each l in
      length-append (f a) (gather f l) ∙ rw (each a, e, mul-suc, add_comm k)
