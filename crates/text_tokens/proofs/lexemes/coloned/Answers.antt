-- `lexemes::coloned` meets its contract. Assumes nothing.
use Rattle.text_tokens.specs.Steps.Seen.{found_colon, found_colon_last, found-becomes}
use Rattle.text_tokens.proofs.lexemes.coloned.Goals as goal
use Rattle.text_tokens.proofs.lexemes.coloned.Goals.{else-from-bytes-via-then-from-bytes+else-bytes-from-eq61, else-from-bytes-via-else-from-bytes}

pub returns-then-bytes-from-eq61 : goal.returns-then-bytes-from-eq61
returns-then-bytes-from-eq61 c = found-becomes c.args.text.now c.args.i c.requires.0 c.requires.1 (rw c.bytes-bytes.ensures.0 at c.if-from-bytes.true) (rw c.bytes-bytes.ensures.0 at c.if-bytes-from-eq61.true)

pub returns : goal.returns
returns c = elim c.else-from-bytes.branch [
  | else-from-bytes-via-then-from-bytes+else-bytes-from-eq61 w ↦ found_colon c.args.text.now c.args.i c.requires.0 c.requires.1 (rw c.bytes-bytes.ensures.0 at w.if-from-bytes.true) (rw c.bytes-bytes.ensures.0 at w.if-bytes-from-eq61.false)
  | else-from-bytes-via-else-from-bytes w ↦ found_colon_last c.args.text.now c.args.i c.requires.0 c.requires.1 (rw c.bytes-bytes.ensures.0 at w.if-from-bytes.false)
]
