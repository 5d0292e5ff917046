-- Laws of tables: names in a row, numbers that stay, and counts. Assumes nothing.
use Rattle.std.specs.Prelude.{ℕ, zero, suc, ◌+◌, ◌≤◌, min, ◌≡◌, refl, Bool, true, false, List, [], ◌∷◌, ◌++◌, map, length, take, ltb, Option}
use Rattle.std.proofs.Common.{sym, ap, ◌∙◌, subst, arith, lt-ltb, le-ltb, ltb-true, ltb-false, length-take}
use Rattle.std.proofs.lemmas.List.{length-map}
use Rattle.gil.specs.Tree.{Name}
use Rattle.gil.specs.Names.{with_name, with_names}
use Rattle.text_names.specs.declared.Names.{Names}
use Rattle.text_tokens.specs.Mirror.Seen.{name_at}
use Rattle.text_names.specs.Mirror.Tables.{most_names, known, Kept, number_in, Interned, Grows}
use Rattle.text_names.specs.Laws.Lists.{place-take, with_names-append, place_kept, place_in}

-- a number once given stays
pub number-stays : (cap : ℕ) (all : List Name) (w : Name) (more : List Name) → number_in cap (with_names all (w ∷ more)) w ≡ number_in cap (with_name all w) w
unfolding number_in with_names
number-stays cap all w more = place-take w cap (with_names (with_name all w) more) ∙ ap (min cap) (place_kept w (with_name all w) more (place_in all w)) ∙ sym (place-take w cap (with_name all w))

-- a count that stops one past the cap tells whether there are more than the cap
pub cut-tells : (cap n : ℕ) → ltb cap (min (cap + 1) n) ≡ ltb cap n
cut-tells cap n = at (ltb cap n) refl
  where
    at : (b : Bool) → ltb cap n ≡ b → ltb cap (min (cap + 1) n) ≡ b
    at true e = lt-ltb cap (min (cap + 1) n) (omega (arith, ltb-true cap n e))
    at false e = le-ltb cap (min (cap + 1) n) (omega (arith, ltb-false cap n e))

-- a table with no names, whatever places it holds
pub kept-none : (s : List ℕ) (cap : ℕ) (t : Names) → t.most ≡ cap → length t.places ≡ most_names → t.count ≡ 0 → Kept s cap t []
kept-none s cap t m l c = record { most = m; long = l; counted = omega arith; named = none }
  where
    none : map (name_at s) (take (min cap 0) t.places) ≡ take cap []
    none = let e : min cap 0 ≡ 0 = omega arith in ap (λ (n : ℕ). map (name_at s) (take n t.places)) e ∙ empty cap
      where
        empty : (n : ℕ) → [] ≡ take {A = Name} n []
        empty zero = refl
        empty (suc n) = refl

-- how many names a table has, where its places are as many as a table takes at most
pub known-long : (s : List ℕ) (t : Names) → length t.places ≡ most_names → length (known s t) ≡ min t.count t.most
unfolding known
known-long s t l =
    let f : t.most ≤ most_names = t.fits in
    omega (arith, length-map (take (min t.count t.most) t.places) (name_at s), length-take (min t.count t.most) t.places)

pub grows_none : {s : List ℕ} {cap : ℕ} {t : Names} → Grows s cap t t []
unfolding with_names
grows_none = record { kept = λ all k. k }

pub grows_one : {s : List ℕ} {cap : ℕ} {t t' : Names} {w : Name} {r : Option ℕ} → Interned s cap t t' w r → Grows s cap t t' (w ∷ [])
unfolding with_names
grows_one i = record { kept = λ all k. i.kept all k }

pub grows_then : {s : List ℕ} {cap : ℕ} {t t' t'' : Names} {us ws : List Name} → Grows s cap t t' us → Grows s cap t' t'' ws → Grows s cap t t'' (us ++ ws)
grows_then {s} {cap} {t} {t'} {t''} {us} {ws} f g =
    record { kept = λ all k. subst (λ (l : List Name). Kept s cap t'' l) (sym (with_names-append all us ws)) (g.kept (with_names all us) (f.kept all k)) }
