-- Laws of the distinct names of a list: repeated names, tests on all names, and that there are no more distinct names than names to
-- choose from. Assumes nothing.
use Rattle.std.specs.Prelude.{ℕ, suc, ◌+◌, ◌≤◌, ◌<◌, ◌≡◌, refl, Bool, true, false, not, ◌||◌, List, [], ◌∷◌, ◌++◌, length, eqb}
use Rattle.std.proofs.Common.{sym, ap, ◌∙◌, subst, arith, eq-eqb, ne_eqb, length-append, append-nil, append_assoc}
use Rattle.gil.specs.Text.{same}
use Rattle.gil.specs.Tree.{Name}
use Rattle.gil.specs.Names.{any, has, with_name, with_names, repeated}
use Rattle.gil.proofs.Theory.Tests.{no_false}
use Rattle.text_words.specs.Laws.Words.{same-is}
use Rattle.text_names.specs.Laws.Lists.{with_name_old, with_name-new, same_self}

-- tests by cases
or_assoc : (a b c : Bool) → a || b || c ≡ a || (b || c)
or_assoc true b c = refl
or_assoc false b c = refl

or_swap : (a b c d : Bool) → (a || b) || (c || d) ≡ (a || c) || (b || d)
or_swap true b c d = refl
or_swap false true true d = refl
or_swap false true false d = refl
or_swap false false true d = refl
or_swap false false false d = refl

or_none : (a : Bool) → a || false ≡ a
or_none true = refl
or_none false = refl

pub or_parts : (a b : Bool) → a || b ≡ false → (a ≡ false) × (b ≡ false)
or_parts true b e = (e, no_false refl e)
or_parts false b e = (refl, e)

-- any
pub any_append : {A : Type 0} (f : A → Bool) (l m : List A) → any f (l ++ m) ≡ any f l || any f m
unfolding any
any_append f [] m = refl
any_append f (a ∷ l) m = ap (λ (b : Bool). f a || b) (any_append f l m) ∙ sym (or_assoc (f a) (any f l) (any f m))

any_or : {A : Type 0} (f g : A → Bool) (l : List A) → any (λ a. f a || g a) l ≡ any f l || any g l
unfolding any
any_or f g [] = refl
any_or f g (a ∷ l) = ap (λ (b : Bool). (f a || g a) || b) (any_or f g l) ∙ or_swap (f a) (g a) (any f l) (any g l)

pub any_same : {A : Type 0} (f g : A → Bool) → ((a : A) → f a ≡ g a) → (l : List A) → any f l ≡ any g l
unfolding any
any_same f g h [] = refl
any_same f g h (a ∷ l) = ap (λ (b : Bool). b || any f l) (h a) ∙ ap (λ (b : Bool). g a || b) (any_same f g h l)

same_flip : (a b : Name) → same a b ≡ same b a
same_flip a b = at (same a b) refl (same b a) refl
  where
    at : (x : Bool) → same a b ≡ x → (y : Bool) → same b a ≡ y → x ≡ y
    at true e true f = refl
    at true e false f = no_false (subst (λ (w : Name). same b w ≡ true) (sym (same-is a b e)) (same_self b)) f
    at false e true f = no_false (subst (λ (w : Name). same a w ≡ true) (sym (same-is b a f)) (same_self a)) e
    at false e false f = refl

-- a name of a list passes what all of them fail
has-passes : (g : Name → Bool) (w : Name) (ns : List Name) → has w ns ≡ true → any g ns ≡ any g ns || g w
unfolding has any
has-passes g w [] e = no_false e refl
has-passes g w (n ∷ ns) e = at (same w n) refl e (has-passes g w ns)
  where
    shift : (a b c : Bool) → b ≡ b || c → a || b ≡ (a || b) || c
    shift true b c h = refl
    shift false b c h = h

    own : (b : Bool) (c : Bool) → c || b ≡ (c || b) || c
    own b true = refl
    own true false = refl
    own false false = refl

    at : (x : Bool) → same w n ≡ x → x || any (same w) ns ≡ true → (any (same w) ns ≡ true → any g ns ≡ any g ns || g w) → g n || any g ns ≡ (g n || any g ns) || g w
    at true f h r = subst (λ (v : Name). g n || any g ns ≡ (g n || any g ns) || g v) (sym (same-is w n f)) (own (any g ns) (g n))
    at false f h r = shift (g n) (any g ns) (g w) (r h)

any-with_name : (g : Name → Bool) (ns : List Name) (w : Name) → any g (with_name ns w) ≡ any g ns || g w
any-with_name g ns w = at (has w ns) refl
  where
    at : (x : Bool) → has w ns ≡ x → any g (with_name ns w) ≡ any g ns || g w
    at true e = ap (any g) (with_name_old ns w e) ∙ has-passes g w ns e
    at false e = ap (any g) (with_name-new ns w e) ∙ any_append g ns (w ∷ []) ∙ ap (λ (b : Bool). any g ns || b) (unfold any in or_none (g w))

-- the distinct names pass a test exactly if the names do
pub any-with_names : (g : Name → Bool) (ns ws : List Name) → any g (with_names ns ws) ≡ any g ns || any g ws
unfolding with_names any
any-with_names g ns [] = sym (or_none (any g ns))
any-with_names g ns (w ∷ ws) = any-with_names g (with_name ns w) ws ∙ ap (λ (b : Bool). b || any g ws) (any-with_name g ns w) ∙ or_assoc (any g ns) (g w) (any g ws)

-- repeated names
pub shorter : (ns ws : List Name) → length (with_names ns ws) ≤ length ns + length ws
unfolding with_names
shorter ns [] = omega arith
shorter ns (w ∷ ws) = at (has w ns) refl (shorter (with_name ns w) ws)
  where
    at : (x : Bool) → has w ns ≡ x → length (with_names (with_name ns w) ws) ≤ length (with_name ns w) + length ws → length (with_names (with_name ns w) ws) ≤ length ns + suc (length ws)
    at true e h = omega (arith, h, ap length (with_name_old ns w e))
    at false e h = omega (arith, h, ap length (with_name-new ns w e), length-append ns (w ∷ []))

dup : List Name → List Name → Bool
dup ns ws = any (λ w. has w ns) ws || repeated ws

-- one name moved over to those known
dup-more : (ns : List Name) (w : Name) (ws : List Name) → has w ns ≡ false → dup ns (w ∷ ws) ≡ dup (ns ++ (w ∷ [])) ws
unfolding dup any repeated
dup-more ns w ws e =
    ap (λ (b : Bool). (b || any (λ u. has u ns) ws) || (has w ws || repeated ws)) e
    ∙ sym (or_assoc (any (λ u. has u ns) ws) (has w ws) (repeated ws))
    ∙ ap (λ (b : Bool). b || repeated ws) (sym moved)
  where
    one : (u : Name) → has u (ns ++ (w ∷ [])) ≡ has u ns || same w u
    one u = unfold has any in any_append (same u) ns (w ∷ []) ∙ ap (λ (b : Bool). any (same u) ns || b) (or_none (same u w) ∙ same_flip u w)

    moved : any (λ u. has u (ns ++ (w ∷ []))) ws ≡ any (λ u. has u ns) ws || has w ws
    moved = any_same (λ u. has u (ns ++ (w ∷ []))) (λ u. has u ns || same w u) one ws ∙ (unfold has in any_or (λ u. has u ns) (same w) ws)

dup-none : (ns ws : List Name) → dup ns ws ≡ false → with_names ns ws ≡ ns ++ ws
unfolding with_names
dup-none ns [] e = sym (append-nil ns)
dup-none ns (w ∷ ws) e = at (has w ns) refl (dup-none (ns ++ (w ∷ [])) ws)
  where
    twice : has w ns ≡ true → dup ns (w ∷ ws) ≡ true
    twice h = unfold dup any in rw h

    at : (x : Bool) → has w ns ≡ x → (dup (ns ++ (w ∷ [])) ws ≡ false → with_names (ns ++ (w ∷ [])) ws ≡ (ns ++ (w ∷ [])) ++ ws) → with_names (with_name ns w) ws ≡ ns ++ (w ∷ ws)
    at true h f = no_false (twice h) e
    at false h f = ap (λ (l : List Name). with_names l ws) (with_name-new ns w h) ∙ f (sym (dup-more ns w ws h) ∙ e) ∙ append_assoc ns (w ∷ []) ws

dup-some : (ns ws : List Name) → dup ns ws ≡ true → length (with_names ns ws) < length ns + length ws
unfolding with_names
dup-some ns [] e = no_false e (unfold dup any repeated in refl)
dup-some ns (w ∷ ws) e = at (has w ns) refl (dup-some (ns ++ (w ∷ [])) ws)
  where
    at : (x : Bool) → has w ns ≡ x → (dup (ns ++ (w ∷ [])) ws ≡ true → length (with_names (ns ++ (w ∷ [])) ws) < length (ns ++ (w ∷ [])) + length ws) → length (with_names (with_name ns w) ws) < length ns + suc (length ws)
    at true h f = omega (arith, ap (λ (l : List Name). length (with_names l ws)) (with_name_old ns w h), shorter ns ws)
    at false h f = omega (arith, ap (λ (l : List Name). length (with_names l ws)) (with_name-new ns w h), f (sym (dup-more ns w ws h) ∙ e), length-append ns (w ∷ []))

-- names are repeated exactly if there are fewer distinct ones
has-none : (ws : List Name) → any (λ w. has w []) ws ≡ false
unfolding any has
has-none [] = refl
has-none (w ∷ ws) = has-none ws

dup-all : (ns : List Name) → dup [] ns ≡ repeated ns
unfolding dup
dup-all ns = ap (λ (b : Bool). b || repeated ns) (has-none ns)

pub distinct-is : (ns : List Name) → repeated ns ≡ false → with_names [] ns ≡ ns
distinct-is ns e = dup-none [] ns (dup-all ns ∙ e)

pub repeated-is : (ns : List Name) → repeated ns ≡ not (eqb (length (with_names [] ns)) (length ns))
repeated-is ns = at (repeated ns) refl
  where
    at : (x : Bool) → repeated ns ≡ x → x ≡ not (eqb (length (with_names [] ns)) (length ns))
    at true e = sym (ap not (ne_eqb (length (with_names [] ns)) (length ns) (λ q. omega (arith, q, dup-some [] ns (dup-all ns ∙ e)))))
    at false e = sym (ap not (eq-eqb (length (with_names [] ns)) (length ns) (ap length (distinct-is ns e))))

-- how many of the names `ps` stand in `ns`
among : List Name → List Name → ℕ
among ns [] = 0
among ns (p ∷ ps) = elim (has p ns) [ true ↦ suc (among ns ps) | false ↦ among ns ps ]

among-le : (ns ps : List Name) → among ns ps ≤ length ps
unfolding among
among-le ns [] = omega arith
among-le ns (p ∷ ps) = at (has p ns) (among-le ns ps)
  where
    at : (x : Bool) → among ns ps ≤ length ps → elim x [ true ↦ suc (among ns ps) | false ↦ among ns ps ] ≤ suc (length ps)
    at true h = omega arith
    at false h = omega arith

has_more : (ns : List Name) (w p : Name) → has p (ns ++ (w ∷ [])) ≡ has p ns || same p w
unfolding has any
has_more ns w p = any_append (same p) ns (w ∷ []) ∙ ap (λ (b : Bool). any (same p) ns || b) (or_none (same p w))

among-grows : (ns : List Name) (w : Name) (ps : List Name) → among ns ps ≤ among (ns ++ (w ∷ [])) ps
unfolding among
among-grows ns w [] = omega arith
among-grows ns w (p ∷ ps) = at (has p ns) (same p w) (has p (ns ++ (w ∷ []))) (has_more ns w p) (among-grows ns w ps)
  where
    at : (x y z : Bool) → z ≡ x || y → among ns ps ≤ among (ns ++ (w ∷ [])) ps → elim x [ true ↦ suc (among ns ps) | false ↦ among ns ps ] ≤ elim z [ true ↦ suc (among (ns ++ (w ∷ [])) ps) | false ↦ among (ns ++ (w ∷ [])) ps ]
    at true y true e h = omega arith
    at true y false e h = no_false refl (sym e)
    at false y true e h = omega arith
    at false y false e h = omega arith

-- a new name among them is one more
among-new : (ns : List Name) (w : Name) (ps : List Name) → has w ps ≡ true → has w ns ≡ false → suc (among ns ps) ≤ among (ns ++ (w ∷ [])) ps
unfolding among
among-new ns w [] e f = no_false e (unfold has any in refl)
among-new ns w (p ∷ ps) e f = at (same w p) refl (has p ns) refl (has p (ns ++ (w ∷ []))) (has_more ns w p) (unfold has any in e) (among-new ns w ps) (among-grows ns w ps)
  where
    at : (x : Bool) → same w p ≡ x → (y : Bool) → has p ns ≡ y → (z : Bool) → z ≡ has p ns || same p w → x || has w ps ≡ true → (has w ps ≡ true → has w ns ≡ false → suc (among ns ps) ≤ among (ns ++ (w ∷ [])) ps) → among ns ps ≤ among (ns ++ (w ∷ [])) ps → suc (elim y [ true ↦ suc (among ns ps) | false ↦ among ns ps ]) ≤ elim z [ true ↦ suc (among (ns ++ (w ∷ [])) ps) | false ↦ among (ns ++ (w ∷ [])) ps ]
    at true g true h z i j k l = no_false h (subst (λ (v : Name). has v ns ≡ false) (same-is w p g) f)
    at true g false h true i j k l = omega arith
    at true g false h false i j k l = no_false (i ∙ ap (λ (b : Bool). b || same p w) h ∙ sym (same_flip w p) ∙ g) refl
    at false g true h true i j k l = omega (arith, k j f)
    at false g true h false i j k l = no_false (i ∙ ap (λ (b : Bool). b || same p w) h) refl
    at false g false h true i j k l = omega (arith, l)
    at false g false h false i j k l = k j f

-- there are no more distinct names than names to choose from
choices : (ns ws ps : List Name) → any (λ w. not (has w ps)) ws ≡ false → length ns ≤ among ns ps → length (with_names ns ws) ≤ among (with_names ns ws) ps
unfolding with_names any
choices ns [] ps e h = h
choices ns (w ∷ ws) ps e h = choices (with_name ns w) ws ps (or_parts (not (has w ps)) (any (λ u. not (has u ps)) ws) e).1 (at (has w ns) refl (has w ps) refl (or_parts (not (has w ps)) (any (λ u. not (has u ps)) ws) e).0)
  where
    at : (x : Bool) → has w ns ≡ x → (y : Bool) → has w ps ≡ y → not (has w ps) ≡ false → length (with_name ns w) ≤ among (with_name ns w) ps
    at true f y g i = rw (with_name_old ns w f) h
    at false f true g i = rw (with_name-new ns w f) (omega (arith, among-new ns w ps g f, length-append ns (w ∷ [])))
    at false f false g i = no_false (ap not g) i

pub few-distinct : (ws ps : List Name) → any (λ w. not (has w ps)) ws ≡ false → length (with_names [] ws) ≤ length ps
few-distinct ws ps e = omega (arith, choices [] ws ps e (omega arith), among-le (with_names [] ws) ps)
