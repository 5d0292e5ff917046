-- The search for a name among those of a table. Assumes nothing.
use Rattle.std.specs.Prelude.{ℕ, suc, ◌+◌, ◌≡◌, refl, Bool, true, false, not, cond, nat_lt, List, [], ◌∷◌, map, length, Option, Some, None, position}
use Rattle.std.specs.List.{prefix_len}
use Rattle.std.proofs.Common.{sym, subst, arith, ltb-true, ltb-false}
use Rattle.std.proofs.lemmas.List.{length-map}
use Rattle.gil.specs.Text.{same}
use Rattle.gil.specs.Tree.{Name}
use Rattle.gil.specs.Names.{place_of}
use Rattle.text_names.specs.Mirror.Tables.{FoundIn}
use Rattle.text_names.specs.Laws.Lists.{place-le}

module _ {A : Type 0} (w : Name) (f : A → Name) where
  counted : (xs : List A) → place_of w (map f xs) ≡ prefix_len (λ x. not (same w (f x))) xs
  unfolding place_of
  counted [] = refl
  counted (x ∷ xs) = at (same w (f x)) (counted xs)
    where
      at : (t : Bool) → place_of w (map f xs) ≡ prefix_len (λ x. not (same w (f x))) xs → elim t [ true ↦ 0 | false ↦ suc (place_of w (map f xs)) ] ≡ cond (not t) (1 + prefix_len (λ x. not (same w (f x))) xs) 0
      at true h = refl
      at false h = omega (arith, h)

  pub found-in : (xs : List A) (r : Option ℕ) → r ≡ position (λ x. same w (f x)) xs → FoundIn w (map f xs) r
  found-in xs r e = subst (FoundIn w (map f xs)) (sym e) (at (nat_lt (prefix_len (λ x. not (same w (f x))) xs) (length xs)) refl)
    where
      at : (t : Bool) → nat_lt (prefix_len (λ x. not (same w (f x))) xs) (length xs) ≡ t → FoundIn w (map f xs) (cond t (Some (prefix_len (λ x. not (same w (f x))) xs)) None)
      at true q = (sym (counted xs), omega (arith, length-map xs f, ltb-true (prefix_len (λ x. not (same w (f x))) xs) (length xs) q))
      at false q = omega (arith, length-map xs f, counted xs, place-le w (map f xs), ltb-false (prefix_len (λ x. not (same w (f x))) xs) (length xs) q)
