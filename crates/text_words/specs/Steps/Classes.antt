-- One law for every arm of a class of characters: a computed test over the arm's range. Assumes nothing.
use Rattle.std.specs.Prelude.{ℕ, zero, suc, ◌+◌, ◌≤◌, ◌<◌, ◌≡◌, refl, Bool, true, false, ◌&&◌}
use Rattle.std.proofs.Common.{sym, ap, ◌∙◌, arith}
use Rattle.std.proofs.Math.Decide.{dec_le}
use Rattle.gil.proofs.Theory.Tests.{both}

-- `p` gives `v` at every number from `low` on, `n` of them
abbrev pub agrees : Bool → Bool → Bool
agrees true b = b
agrees false true = false
agrees false false = true

unfoldable pub everywhere : (ℕ → Bool) → Bool → ℕ → ℕ → Bool
everywhere p v low zero = true
everywhere p v low (suc n) = agrees v (p low) && everywhere p v (suc low) n

agreed : (v b : Bool) → agrees v b ≡ true → v ≡ b
agreed true true e = refl
agreed true false e = sym e
agreed false true e = e
agreed false false e = refl

pub on : (p : ℕ → Bool) (v : Bool) (low n b : ℕ) → everywhere p v low n ≡ true → low ≤ b → b < low + n → v ≡ p b
unfolding everywhere
on p v low zero b e h l = absurd (omega arith)
on p v low (suc n) b e h l =
    let parts = both (agrees v (p low)) (everywhere p v (suc low) n) e in
    from (agreed v (p low) parts.0) (λ g. on p v (suc low) n b parts.1 g (omega arith))
  where
    from : v ≡ p low → (suc low ≤ b → v ≡ p b) → v ≡ p b
    from here later = elim (dec_le (suc low) b) [ yes g ↦ later g | no g ↦ here ∙ ap p (omega arith) ]
