-- Laws of `span` at a place of a text, one step at a time, for any class of characters. Assumes nothing.
use Rattle.std.specs.Prelude.{ℕ, ◌+◌, ◌≤◌, ◌<◌, ◌≡◌, Bool, true, false, List, length, drop, get_or}
use Rattle.std.proofs.Common.{sym, arith, add-one, add-zero, drop_of_length-le, drop-cons}
use Rattle.gil.specs.Text.{span}

-- the end of the text, a character outside the class, and one inside
pub span-end : (p : ℕ → Bool) (s : List ℕ) (at : ℕ) → length s ≤ at → at ≡ at + span p (drop at s)
unfolding span
span-end p s at h = rw (drop_of_length-le s h) (sym (add-zero at))

pub span-stop : (p : ℕ → Bool) (s : List ℕ) (at : ℕ) → at < length s → p (get_or s at 0) ≡ false → at ≡ at + span p (drop at s)
unfolding span
span-stop p s at h e = rw (drop-cons s at 0 h) (simp (e, span) (sym (add-zero at)))

pub span_more : (p : ℕ → Bool) (s : List ℕ) (at : ℕ) → at < length s → p (get_or s at 0) ≡ true → at + span p (drop at s) ≡ (at + 1) + span p (drop (at + 1) s)
unfolding span
span_more p s at h e = rw (add-one at, drop-cons s at 0 h) (simp (e, span) (omega arith))
