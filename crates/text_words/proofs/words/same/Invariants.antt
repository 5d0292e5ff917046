-- `words::same` meets its contract. Assumes nothing.
use Rattle.std.proofs.Common.{◌≡◌, length, drop}
use Rattle.gil.specs.Text.{same}
use Rattle.text_words.proofs.words.same.Given as goal

abbrev pub invariant-loop-i : goal.invariant-loop-i
invariant-loop-i l = (length l.a ≡ length l.b) × (same l.a l.b ≡ same (drop l.i l.a) (drop l.i l.b))
