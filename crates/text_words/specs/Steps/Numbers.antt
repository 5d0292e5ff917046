-- Digits as the code reads them, one by one. Assumes nothing.
use Rattle.std.specs.Prelude.{ℕ, ◌+◌, ◌*◌, ◌-◌, ◌≤◌, ◌<◌, ◌≡◌, refl, Bool, true, false, ◌&&◌, List, [], ◌∷◌, length, drop, get_or, leb, Option, Some, None}
use Rattle.std.proofs.Common.{sym, ◌∙◌, arith, add-one, drop-cons, drop_of_length-le, le-leb, leb-true}
use Rattle.std.proofs.lemmas.Bool.{lt-leb}
use Rattle.std.proofs.Math.Option as M
use Rattle.gil.specs.Text.{digit, all_digits, decimal_from, numeral, plain_zero}
use Rattle.gil.proofs.Theory.Tests.{both}
use Rattle.text_words.specs.Mirror.Numbers.{counted, worth}

decimal-grows : (n : ℕ) (ds : List ℕ) → n ≤ decimal_from n ds
unfolding decimal_from
decimal-grows n [] = omega arith
decimal-grows n (d ∷ ds) = omega (arith, decimal-grows (n * 10 + (d - 48)) ds)

pub worth-end : (limit n : ℕ) (ds : List ℕ) (i : ℕ) → length ds ≤ i → n ≤ limit → Some n ≡ worth limit n (drop i ds)
unfolding worth all_digits decimal_from
worth-end limit n ds i h l = rw (drop_of_length-le ds h) (rw (le-leb n limit l, worth))

no_word : (a : Bool) (limit n : ℕ) → limit < n → ◌≡◌ {A = Option ℕ} None (elim (a && leb n limit) [ true ↦ Some n | false ↦ None ])
no_word true limit n h = rw (lt-leb n limit h)
no_word false limit n h = refl

module _ (limit n : ℕ) (ds : List ℕ) (i : ℕ) (h : i < length ds) where
  pub worth_bad : digit (get_or ds i 0) ≡ false → None ≡ worth limit n (drop i ds)
  unfolding worth all_digits
  worth_bad e = rw (drop-cons ds i 0 h) (rw (e, worth))

  pub worth-more : digit (get_or ds i 0) ≡ true → worth limit n (drop i ds) ≡ worth limit (n * 10 + (get_or ds i 0 - 48)) (drop (i + 1) ds)
  unfolding worth all_digits decimal_from
  worth-more e = rw (add-one i, drop-cons ds i 0 h) (rw (e, worth))

  pub worth-over : digit (get_or ds i 0) ≡ true → limit < n * 10 + (get_or ds i 0 - 48) → None ≡ worth limit n (drop i ds)
  worth-over e l = over ∙ sym (worth-more e)
    where
      over : None ≡ worth limit (n * 10 + (get_or ds i 0 - 48)) (drop (i + 1) ds)
      over = unfold worth in no_word (all_digits (drop (i + 1) ds)) limit (decimal_from (n * 10 + (get_or ds i 0 - 48)) (drop (i + 1) ds)) (omega (arith, decimal-grows (n * 10 + (get_or ds i 0 - 48)) (drop (i + 1) ds)))

-- a numeral is its worth, but for a leading zero
pub numeral-empty : (limit : ℕ) (ds : List ℕ) → length ds ≡ 0 → numeral limit ds ≡ counted None
unfolding numeral all_digits plain_zero counted
numeral-empty limit [] h = refl
numeral-empty limit (d ∷ ds) h = absurd (omega arith)

none-at : (a : Bool) (limit n : ℕ) → ◌≡◌ {A = M.Option ℕ} (elim (a && false && leb n limit) [ true ↦ M.some n | false ↦ M.none ]) M.none
none-at true limit n = refl
none-at false limit n = refl

pub numeral-zeros : (limit : ℕ) (ds : List ℕ) → 1 < length ds → get_or ds 0 0 < 49 → numeral limit ds ≡ counted None
unfolding numeral plain_zero counted
numeral-zeros limit [] h l = absurd (omega arith)
numeral-zeros limit (d ∷ []) h l = absurd (omega arith)
numeral-zeros limit (d ∷ e ∷ ds) h l = rw (lt-leb 49 d l, numeral) (none-at (all_digits (d ∷ e ∷ ds)) limit (decimal_from 0 (d ∷ e ∷ ds)))

worth-counted : (a : Bool) (limit n : ℕ) → ◌≡◌ {A = M.Option ℕ} (elim (a && true && leb n limit) [ true ↦ M.some n | false ↦ M.none ]) (counted (elim (a && leb n limit) [ true ↦ Some n | false ↦ None ]))
unfolding counted
worth-counted false limit n = refl
worth-counted true limit n = at (leb n limit)
  where
    at : (t : Bool) → ◌≡◌ {A = M.Option ℕ} (elim t [ true ↦ M.some n | false ↦ M.none ]) (counted (elim t [ true ↦ Some n | false ↦ None ]))
    at true = refl
    at false = refl

pub numeral-worth : (limit : ℕ) (ds : List ℕ) → plain_zero ds ≡ true → numeral limit ds ≡ counted (worth limit 0 ds)
unfolding numeral worth
numeral-worth limit ds e = rw (e, numeral) (worth-counted (all_digits ds) limit (decimal_from 0 ds))

pub plain-one : (ds : List ℕ) → (length ds ≡ 0 → ⊥) → length ds ≤ 1 → plain_zero ds ≡ true
unfolding plain_zero
plain-one [] n h = absurd (n refl)
plain-one (d ∷ []) n h = refl
plain-one (d ∷ e ∷ ds) n h = absurd (omega arith)

pub plain_more : (ds : List ℕ) → (length ds ≡ 0 → ⊥) → 49 ≤ get_or ds 0 0 → plain_zero ds ≡ true
unfolding plain_zero
plain_more [] n h = absurd (n refl)
plain_more (d ∷ []) n h = refl
plain_more (d ∷ e ∷ ds) n h = le-leb 49 d h

pub digit_range : (d : ℕ) → digit d ≡ true → (48 ≤ d) × (d ≤ 57)
unfolding digit
digit_range d e = let parts = both (leb 48 d) (leb d 57) e in (leb-true 48 d parts.0, leb-true d 57 parts.1)
