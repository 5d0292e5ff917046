-- `scan::past` meets its contract. Assumes nothing.
use Rattle.std.proofs.Common.{ℕ, Bool, ◌≡◌, ◌+◌, drop}
use Rattle.gil.specs.Text.{span}
use Rattle.text_tokens.specs.Mirror.Scan.{Tests}
use Rattle.text_tokens.proofs.scan.past.Given as goal

abbrev pub invariant-loop-i : goal.invariant-loop-i
invariant-loop-i g l = (p : ℕ → Bool) → Tests (goal.F-post g l.class) p → l.at + span p (drop l.at l.text) ≡ l.i + span p (drop l.i l.text)
