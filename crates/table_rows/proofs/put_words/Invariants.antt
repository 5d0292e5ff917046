-- `rows::put_words` meets its contract. Assumes nothing.
use Rattle.std.proofs.Common.{◌≡◌, ◌+◌, ◌*◌, drop}
use Rattle.lent_words.specs.Mirror.{put_words}
use Rattle.table_rows.proofs.put_words.Given as goal

abbrev pub invariant-loop-i : goal.invariant-loop-i
invariant-loop-i l = put_words l.initial.part l.at l.words ≡ put_words l.part (l.at + 4 * l.i) (drop l.i l.words)
