-- `input_words` meets its contract. Assumes nothing.
use Rattle.std.proofs.Common.{◌≡◌, length, take}
use Rattle.gil.specs.Layout.{input_words}
use Rattle.call_given.proofs.input_words.Given as goal

abbrev pub invariant-loop-i : goal.invariant-loop-i
invariant-loop-i l = (length l.word-items ≡ 16) × (take l.i l.word-items ≡ take l.i (input_words l.inputs))
