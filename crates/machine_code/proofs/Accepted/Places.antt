-- Where names stand in a list of names: a name that is among them has a place below their count, and the distinct names of a list hold
-- each of its names. Assumes nothing.
use Rattle.std.specs.Prelude.{ℕ, suc, ◌≤◌, ◌<◌, ◌≡◌, refl, Bool, true, false, ◌||◌, List, [], ◌∷◌, length, eqb}
use Rattle.std.proofs.Common.{arith, ap, ap₂, ◌∙◌, eqb-true, eq-eqb}
use Rattle.gil.specs.Text.{same}
use Rattle.gil.specs.Tree.{Name}
use Rattle.gil.specs.Names.{any, has, place_of, with_name, with_names, distinct}
use Rattle.gil.proofs.Theory.Tests.{chosen}
use Rattle.machine_code.specs.WellFormed.{Each, none, more}
use Rattle.machine_code.proofs.Accepted.Lists.{or_right, and_true, any_append}

-- `same` tells equality
pub same_itself : (w : Name) → same w w ≡ true
unfolding same
same_itself [] = refl
same_itself (b ∷ w) = rw (eq-eqb b b refl) (same_itself w)

pub same_equal : (v w : Name) → same v w ≡ true → v ≡ w
unfolding same
same_equal [] [] e = refl
same_equal [] (b ∷ w) e = cc
same_equal (a ∷ v) [] e = cc
same_equal (a ∷ v) (b ∷ w) e =
    let (x, y) = and_true (eqb a b) (same v w) e in
    ap₂ ◌∷◌ (eqb-true a b x) (same_equal v w y)

-- every name of a list is among the known ones
abbrev pub Known : List Name → List Name → Type 0
Known ns ws = Each (λ w. has w ns ≡ true) ws

-- a name that is there has a place
pub place_of-below : (w : Name) (ns : List Name) → has w ns ≡ true → place_of w ns < length ns
unfolding has any place_of
place_of-below w [] e = let z : ◌≡◌ {A = ℕ} 0 1 = cc in omega arith
place_of-below w (n ∷ ns) e =
    chosen (λ (k : ℕ). k < suc (length ns)) (same w n)
    (λ _. omega arith)
    (λ f. let h : place_of w ns < length ns = place_of-below w ns (rw f at e) in omega arith)

pub place_of-within : (w : Name) (ns : List Name) {n : ℕ} → length ns ≤ n → has w ns ≡ true → place_of w ns < n
place_of-within w ns h k = omega (arith, place_of-below w ns k)

-- the distinct names of a list: those known already stay, and each name is there
pub with_name-keeps : (ns : List Name) (v w : Name) → has w ns ≡ true → has w (with_name ns v) ≡ true
unfolding has with_name
with_name-keeps ns v w e =
    chosen (λ (l : List Name). any (same w) l ≡ true) (any (same v) ns)
    (λ _. e)
    (λ _. any_append (same w) ns (v ∷ []) ∙ ap (λ (b : Bool). b || any (same w) (v ∷ [])) e)

pub with_name-has : (ns : List Name) (w : Name) → has w (with_name ns w) ≡ true
unfolding has any with_name
with_name-has ns w =
    chosen (λ (l : List Name). any (same w) l ≡ true) (any (same w) ns)
    (λ t. t)
    (λ _. any_append (same w) ns (w ∷ []) ∙ or_right (any (same w) ns) (same w w || false) (rw (same_itself w)))

pub with_names-keeps : (ns ws : List Name) (w : Name) → has w ns ≡ true → has w (with_names ns ws) ≡ true
unfolding with_names
with_names-keeps ns [] w e = e
with_names-keeps ns (v ∷ ws) w e = with_names-keeps (with_name ns v) ws w (with_name-keeps ns v w e)

pub with_names-has : (ns ws : List Name) → Known (with_names ns ws) ws
unfolding with_names
with_names-has ns [] = none
with_names-has ns (w ∷ ws) = more (with_names-keeps (with_name ns w) ws w (with_name-has ns w)) (with_names-has (with_name ns w) ws)

pub distinct-has : (ws : List Name) → Known (distinct ws) ws
unfolding distinct
distinct-has ws = with_names-has [] ws
