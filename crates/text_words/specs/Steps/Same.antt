-- Two runs compared place by place: the laws that the proof of `same` cites. Assumes nothing.
use Rattle.std.specs.Prelude.{ℕ, suc, ◌+◌, ◌≤◌, ◌<◌, ◌≡◌, refl, Bool, true, false, ◌&&◌, List, [], ◌∷◌, length, drop, get_or, eqb}
use Rattle.std.proofs.Common.{sym, ap, ◌∙◌, arith, add-one, eq-eqb, ne_eqb, drop-cons, drop_of_length-le}
use Rattle.gil.specs.Text.{same}

-- two runs compared place by place
pub same_lengths : (a b : List ℕ) → (length a ≡ length b → ⊥) → same a b ≡ false
unfolding same
same_lengths [] [] h = absurd (h refl)
same_lengths [] (b ∷ t) h = refl
same_lengths (a ∷ s) [] h = refl
same_lengths (a ∷ s) (b ∷ t) h = rest (eqb a b) (same_lengths s t (λ e. h (ap suc e)))
  where
    rest : (c : Bool) → same s t ≡ false → c && same s t ≡ false
    rest true e = e
    rest false e = refl

pub same_end : (a b : List ℕ) (i : ℕ) → length a ≡ length b → length a ≤ i → true ≡ same (drop i a) (drop i b)
unfolding same
same_end a b i e h = let g : length b ≤ i = omega arith in rw (drop_of_length-le a h, drop_of_length-le b g)

module _ (a b : List ℕ) (i : ℕ) (e : length a ≡ length b) (h : i < length a) where
  pub same_step : same (drop i a) (drop i b) ≡ eqb (get_or a i 0) (get_or b i 0) && same (drop (i + 1) a) (drop (i + 1) b)
  unfolding same
  same_step = let g : i < length b = rw e at h in rw (add-one i, drop-cons a i 0 h, drop-cons b i 0 g)

  pub same_differ : (get_or a i 0 ≡ get_or b i 0 → ⊥) → false ≡ same (drop i a) (drop i b)
  same_differ d = sym (same_step ∙ rw (ne_eqb (get_or a i 0) (get_or b i 0) d))

  pub same_more : get_or a i 0 ≡ get_or b i 0 → same (drop i a) (drop i b) ≡ same (drop (i + 1) a) (drop (i + 1) b)
  same_more d = same_step ∙ rw (eq-eqb (get_or a i 0) (get_or b i 0) d)
