-- Laws of names in lists: where one stands, and the distinct ones in order of first appearance. Assumes nothing.
use Rattle.std.specs.Prelude.{ℕ, zero, suc, ◌≤◌, ◌<◌, min, ◌≡◌, refl, Bool, true, false, ◌||◌, List, [], ◌∷◌, ◌++◌, length, take, ltb}
use Rattle.std.proofs.Common.{sym, ap, ◌∙◌, arith, lt-ltb, le-ltb, ltb-true, ltb-false, eq-eqb, length-append}
use Rattle.gil.specs.Text.{same}
use Rattle.gil.specs.Tree.{Name}
use Rattle.gil.specs.Names.{any, has, place_of, with_name, with_names}

pub place-le : (w : Name) (ns : List Name) → place_of w ns ≤ length ns
unfolding place_of
place-le w [] = omega arith
place-le w (n ∷ ns) = at (same w n) (place-le w ns)
  where
    at : (t : Bool) → place_of w ns ≤ length ns → elim t [ true ↦ 0 | false ↦ suc (place_of w ns) ] ≤ suc (length ns)
    at true h = omega arith
    at false h = omega arith

-- a name stands in a list exactly if its place is below the length
pub has-place : (w : Name) (ns : List Name) → has w ns ≡ ltb (place_of w ns) (length ns)
unfolding place_of has any
has-place w [] = refl
has-place w (n ∷ ns) = at (same w n) (has-place w ns)
  where
    at : (t : Bool) → any (same w) ns ≡ ltb (place_of w ns) (length ns) → t || any (same w) ns ≡ ltb (elim t [ true ↦ 0 | false ↦ suc (place_of w ns) ]) (suc (length ns))
    at true h = sym (lt-ltb 0 (suc (length ns)) (omega arith))
    at false h = h ∙ low (ltb (place_of w ns) (length ns)) refl
      where
        low : (t : Bool) → ltb (place_of w ns) (length ns) ≡ t → t ≡ ltb (suc (place_of w ns)) (suc (length ns))
        low true e = sym (lt-ltb (suc (place_of w ns)) (suc (length ns)) (omega (arith, ltb-true (place_of w ns) (length ns) e)))
        low false e = sym (le-ltb (suc (place_of w ns)) (suc (length ns)) (omega (arith, ltb-false (place_of w ns) (length ns) e)))

-- in the first names of a list the place is the same, or is past them
pub place-take : (w : Name) (cap : ℕ) (ns : List Name) → place_of w (take cap ns) ≡ min cap (place_of w ns)
unfolding place_of
place-take w zero ns = omega arith
place-take w (suc cap) [] = omega arith
place-take w (suc cap) (n ∷ ns) = at (same w n) (place-take w cap ns)
  where
    at : (t : Bool) → place_of w (take cap ns) ≡ min cap (place_of w ns) → ◌≡◌ {A = ℕ} (elim t [ true ↦ 0 | false ↦ suc (place_of w (take cap ns)) ]) (min (suc cap) (elim t [ true ↦ 0 | false ↦ suc (place_of w ns) ]))
    at true h = omega arith
    at false h = omega arith

-- a list that is longer keeps the places of its first names
pub place-first : (w : Name) (ns more : List Name) → place_of w ns < length ns → place_of w (ns ++ more) ≡ place_of w ns
unfolding place_of
place-first w [] more h = absurd (omega arith)
place-first w (n ∷ ns) more h = at (same w n) h (place-first w ns more)
  where
    at : (t : Bool) → elim t [ true ↦ 0 | false ↦ suc (place_of w ns) ] < suc (length ns) → (place_of w ns < length ns → place_of w (ns ++ more) ≡ place_of w ns) → ◌≡◌ {A = ℕ} (elim t [ true ↦ 0 | false ↦ suc (place_of w (ns ++ more)) ]) (elim t [ true ↦ 0 | false ↦ suc (place_of w ns) ])
    at true l f = refl
    at false l f = ap suc (f (omega arith))

-- one name, and then more names
pub with_names-append : (ns us ws : List Name) → with_names ns (us ++ ws) ≡ with_names (with_names ns us) ws
unfolding with_names
with_names-append ns [] ws = refl
with_names-append ns (u ∷ us) ws = with_names-append (with_name ns u) us ws

pub with_name_old : (ns : List Name) (w : Name) → has w ns ≡ true → with_name ns w ≡ ns
unfolding with_name
with_name_old ns w e = rw (e, with_name)

pub with_name-new : (ns : List Name) (w : Name) → has w ns ≡ false → with_name ns w ≡ ns ++ (w ∷ [])
unfolding with_name
with_name-new ns w e = rw (e, with_name)

pub same_self : (w : Name) → same w w ≡ true
unfolding same
same_self [] = refl
same_self (a ∷ w) = rw (eq-eqb a a refl) (same_self w)

-- a new name's place is the end
pub place-new : (w : Name) (ns : List Name) → length ns ≤ place_of w ns → place_of w (ns ++ (w ∷ [])) ≡ length ns
unfolding place_of
place-new w [] h = rw (same_self w, place_of)
place-new w (n ∷ ns) h = at (same w n) h (place-new w ns)
  where
    at : (t : Bool) → suc (length ns) ≤ elim t [ true ↦ 0 | false ↦ suc (place_of w ns) ] → (length ns ≤ place_of w ns → place_of w (ns ++ (w ∷ [])) ≡ length ns) → ◌≡◌ {A = ℕ} (elim t [ true ↦ 0 | false ↦ suc (place_of w (ns ++ (w ∷ []))) ]) (suc (length ns))
    at true l f = absurd (omega arith)
    at false l f = ap suc (f (omega arith))

-- a name that stands in a list stays where it is when names are added
pub place_kept : (w : Name) (ns us : List Name) → place_of w ns < length ns → place_of w (with_names ns us) ≡ place_of w ns
unfolding with_names
place_kept w ns [] h = refl
place_kept w ns (u ∷ us) h = at (has u ns) refl (place_kept w (with_name ns u) us)
  where
    at : (t : Bool) → has u ns ≡ t → (place_of w (with_name ns u) < length (with_name ns u) → place_of w (with_names (with_name ns u) us) ≡ place_of w (with_name ns u)) → place_of w (with_names (with_name ns u) us) ≡ place_of w ns
    at true e f = let o = with_name_old ns u e in f (rw o h) ∙ ap (place_of w) o
    at false e f =
        let o = with_name-new ns u e in
        let p = place-first w ns (u ∷ []) h in
        f (rw (o, p) (omega (arith, length-append ns (u ∷ [])))) ∙ ap (place_of w) o ∙ p

pub place_in : (ns : List Name) (w : Name) → place_of w (with_name ns w) < length (with_name ns w)
place_in ns w = at (ltb (place_of w ns) (length ns)) refl
  where
    at : (t : Bool) → ltb (place_of w ns) (length ns) ≡ t → place_of w (with_name ns w) < length (with_name ns w)
    at true e = let o = with_name_old ns w (has-place w ns ∙ e) in rw o (ltb-true (place_of w ns) (length ns) e)
    at false e = let o = with_name-new ns w (has-place w ns ∙ e) in rw (o, place-new w ns (ltb-false (place_of w ns) (length ns) e)) (omega (arith, length-append ns (w ∷ [])))
