-- The three answers of `intern`: the name is known, it is new and has room, or it has none. Assumes nothing.
use Rattle.std.specs.Prelude.{ℕ, suc, ◌+◌, ◌≤◌, ◌<◌, min, ◌≡◌, List, [], ◌∷◌, ◌++◌, map, length, take, set, Some, None}
use Rattle.std.proofs.Common.{sym, ap, ◌∙◌, arith, lt-ltb, le-ltb, length-set, length-take, length-append, take_all, take-suc-set}
use Rattle.std.proofs.Math.Decide.{dec_le}
use Rattle.std.proofs.lemmas.List.{map-append, length-map}
use Rattle.gil.specs.Tree.{Name}
use Rattle.gil.specs.Names.{place_of, with_name}
use Rattle.text_tokens.specs.declared.tokens.Place.{Place}
use Rattle.text_tokens.specs.Mirror.Seen.{name_at}
use Rattle.text_names.specs.declared.Names.{Names}
use Rattle.text_names.specs.Mirror.Tables.{most_names, known, Kept, number_in, Interned}
use Rattle.text_names.specs.Laws.Lists.{has-place, place-take, with_name_old, with_name-new, place-new}
use Rattle.text_names.specs.Steps.Lists.{with_name-longer, with_name-first}

module _ (s : List ℕ) (t : Names) (place : Place) where
  module _ (all : List Name) (k : Kept s t.most t all) where
    size : min t.count t.most ≡ min t.most (length all)
    size = omega (arith, k.counted)

    knows : known s t ≡ take t.most all
    unfolding known
    knows = ap (λ (m : ℕ). map (name_at s) (take m t.places)) size ∙ k.named

    how_many : length (known s t) ≡ min t.most (length all)
    how_many = ap length knows ∙ length-take t.most all

    first : place_of (name_at s place) (known s t) ≡ min t.most (place_of (name_at s place) all)
    first = ap (place_of (name_at s place)) knows ∙ place-take (name_at s place) t.most all

    old : (i : ℕ) → i ≡ place_of (name_at s place) (known s t) → i < length (known s t) → with_name all (name_at s place) ≡ all
    old i e l = with_name_old all (name_at s place) (has-place (name_at s place) all ∙ lt-ltb (place_of (name_at s place) all) (length all) (omega (arith, first, how_many)))

    old-number : (i : ℕ) → i ≡ place_of (name_at s place) (known s t) → i < length (known s t) → i ≡ number_in t.most (with_name all (name_at s place)) (name_at s place)
    unfolding number_in
    old-number i e l = rw (old i e l) (e ∙ ap (place_of (name_at s place)) knows)

    module _ (e : place_of (name_at s place) (known s t) ≡ length (known s t)) where
      unknown : min t.most (place_of (name_at s place) all) ≡ min t.most (length all)
      unknown = omega (arith, first, how_many)

      fresh : length all < t.most → with_name all (name_at s place) ≡ all ++ (name_at s place ∷ [])
      fresh l = with_name-new all (name_at s place) (has-place (name_at s place) all ∙ le-ltb (place_of (name_at s place) all) (length all) (omega (arith, unknown)))

      room : t.count < t.most → length all ≡ t.count
      room l = omega (arith, k.counted)

      longer : t.most ≤ t.count → suc t.most ≤ length (with_name all (name_at s place))
      longer l = elim (dec_le (suc t.most) (length all)) [ yes g ↦ omega (arith, with_name-longer all (name_at s place)) | no g ↦ full (omega (arith, k.counted)) ]
        where
          full : length all ≡ t.most → suc t.most ≤ length (with_name all (name_at s place))
          full q = rw (with_name-new all (name_at s place) (has-place (name_at s place) all ∙ le-ltb (place_of (name_at s place) all) (length all) (omega (arith, unknown)))) (omega (arith, length-append all (name_at s place ∷ [])))

      new-number : t.count < t.most → t.count ≡ number_in t.most (with_name all (name_at s place)) (name_at s place)
      unfolding number_in
      new-number l =
          let q : length all ≡ t.count = room l in
          rw (fresh (omega arith)) (omega (arith, place-take (name_at s place) t.most (all ++ (name_at s place ∷ [])), place-new (name_at s place) all (omega (arith, unknown))))

      over-number : t.most ≤ t.count → t.most ≡ number_in t.most (with_name all (name_at s place)) (name_at s place)
      unfolding number_in
      over-number l = omega (arith, unknown, k.counted) ∙ sym (place-take (name_at s place) t.most all) ∙ ap (place_of (name_at s place)) (sym (with_name-first t.most all (name_at s place) (omega (arith, k.counted))))

      module _ (t' : Names) (m : t'.most ≡ t.most) where
        new-kept : t'.places ≡ set t.places t.count place → t'.count ≡ t.count + 1 → t.count < t.most → t.most ≤ most_names → Kept s t.most t' (with_name all (name_at s place))
        new-kept p n l f = rw (fresh (omega (arith, room l))) (record { most = m; long = ap length p ∙ length-set t.places t.count place ∙ k.long; counted = omega (arith, n, more); named = names })
          where
            more : length (all ++ (name_at s place ∷ [])) ≡ t.count + 1
            more = length-append all (name_at s place ∷ []) ∙ omega (arith, room l)

            before : map (name_at s) (take t.count t.places) ≡ all
            before =
                let q : min t.most (length all) ≡ t.count = omega (arith, room l) in
                rw q at k.named ∙ take_all t.most all (omega (arith, room l))

            names : map (name_at s) (take (min t.most (length (all ++ (name_at s place ∷ [])))) t'.places) ≡ take t.most (all ++ (name_at s place ∷ []))
            names =
                let q : min t.most (length (all ++ (name_at s place ∷ []))) ≡ suc t.count = omega (arith, more) in
                rw (q, p)
                (ap (map (name_at s)) (take-suc-set t.places t.count place (omega (arith, k.long)))
                ∙ map-append (name_at s) (take t.count t.places) (place ∷ [])
                ∙ ap (λ (ns : List Name). ns ++ (name_at s place ∷ [])) before
                ∙ sym (take_all t.most (all ++ (name_at s place ∷ [])) (omega (arith, more))))

        over-kept : t'.places ≡ t.places → t'.count ≡ t.most + 1 → t.most ≤ t.count → Kept s t.most t' (with_name all (name_at s place))
        over-kept p n l = record { most = m; long = ap length p ∙ k.long; counted = omega (arith, n, longer l); named = names }
          where
            names : map (name_at s) (take (min t.most (length (with_name all (name_at s place)))) t'.places) ≡ take t.most (with_name all (name_at s place))
            names =
                let q : min t.most (length (with_name all (name_at s place))) ≡ min t.most (length all) = omega (arith, longer l, k.counted) in
                rw (q, p) (k.named ∙ sym (with_name-first t.most all (name_at s place) (omega (arith, k.counted))))

  -- the three answers
  pub interned_known : (i : ℕ) → i ≡ place_of (name_at s place) (known s t) → i < length (known s t) → Interned s t.most t t (name_at s place) (Some i)
  interned_known i e l = record { kept = λ all k. rw (old all k i e l) k; number = λ all k. old-number all k i e l }

  pub interned_new : (t' : Names) → t'.most ≡ t.most → t'.places ≡ set t.places t.count place → t'.count ≡ t.count + 1 → place_of (name_at s place) (known s t) ≡ length (known s t) → t.count < t.most → t.most ≤ most_names → Interned s t.most t t' (name_at s place) (Some t.count)
  interned_new t' m p n e l f = record { kept = λ all k. new-kept all k e t' m p n l f; number = λ all k. new-number all k e l }

  pub interned_over : (t' : Names) → t'.most ≡ t.most → t'.places ≡ t.places → t'.count ≡ t.most + 1 → place_of (name_at s place) (known s t) ≡ length (known s t) → t.most ≤ t.count → Interned s t.most t t' (name_at s place) None
  interned_over t' m p n e l = record { kept = λ all k. over-kept all k e t' m p n l; number = λ all k. over-number all k e l }

-- a known name's number is below the limit
pub known-within : (s : List ℕ) (t : Names) → length (known s t) ≤ t.most
unfolding known
known-within s t = omega (arith, length-map (take (min t.count t.most) t.places) (name_at s), length-take (min t.count t.most) t.places)
