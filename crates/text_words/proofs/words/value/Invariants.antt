-- `words::value` meets its contract. Assumes nothing.
use Rattle.std.proofs.Common.{◌≡◌, ◌≤◌, drop}
use Rattle.text_words.specs.Mirror.Numbers.{worth}
use Rattle.text_words.proofs.words.value.Given as goal

abbrev pub invariant-loop-digit : goal.invariant-loop-digit
invariant-loop-digit l = (l.n ≤ l.limit) × (worth l.limit 0 l.digits ≡ worth l.limit l.n (drop l.digit-index l.digits))
