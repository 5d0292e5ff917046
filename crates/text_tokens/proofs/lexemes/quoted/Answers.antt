-- `lexemes::quoted` meets its contract. Assumes nothing.
use Rattle.std.proofs.Common.{rules}
use Rattle.std.specs.Prelude.{◌+◌, ◌≡◌, drop}
use Rattle.gil.specs.Text.{in_run, span}
use Rattle.text_tokens.specs.Steps.Seen.{quote_last, quote_open, quote_empty, quote_long, quote_property}
use Rattle.text_tokens.proofs.lexemes.quoted.Goals as goal
use Rattle.text_tokens.proofs.lexemes.quoted.Goals.{else-end-bytes-via-then-end-bytes+then-bytes-end-eq34+then-n-gt0+else-n-le-MOST_CHARACTERS, else-end-bytes-via-then-end-bytes+then-bytes-end-eq34+else-n-gt0, else-end-bytes-via-then-end-bytes+else-bytes-end-eq34, else-end-bytes-via-else-end-bytes}

pub returns-then-n-le-MOST_CHARACTERS : goal.returns-then-n-le-MOST_CHARACTERS
returns-then-n-le-MOST_CHARACTERS c =
    let e : c.past-end.result ≡ c.args.i + 1 + span in_run (drop (c.args.i + 1) c.args.text.now) = rw c.bytes-bytes.ensures.0 at c.past-end.ensures.ends in_run (λ b r l h. search rules) in
    quote_property c.args.text.now c.args.i c.requires.0 c.past-end.result c.requires.1 e c.between.result c.between.ensures.0 c.between.ensures.1 (rw c.bytes-bytes.ensures.0 at c.if-end-bytes.true) (rw c.bytes-bytes.ensures.0 at c.if-bytes-end-eq34.true) c.if-n-gt0.true c.if-n-le-MOST_CHARACTERS.true

pub returns : goal.returns
returns c =
    let e : c.past-end.result ≡ c.args.i + 1 + span in_run (drop (c.args.i + 1) c.args.text.now) = rw c.bytes-bytes.ensures.0 at c.past-end.ensures.ends in_run (λ b r l h. search rules) in
    elim c.else-end-bytes.branch [
      | else-end-bytes-via-then-end-bytes+then-bytes-end-eq34+then-n-gt0+else-n-le-MOST_CHARACTERS w ↦ quote_long c.args.text.now c.args.i c.requires.0 c.past-end.result c.requires.1 e (rw c.bytes-bytes.ensures.0 at w.if-end-bytes.true) w.if-n-le-MOST_CHARACTERS.false
      | else-end-bytes-via-then-end-bytes+then-bytes-end-eq34+else-n-gt0 w ↦ quote_empty c.args.text.now c.args.i c.requires.0 c.past-end.result c.requires.1 e (rw c.bytes-bytes.ensures.0 at w.if-end-bytes.true) w.if-n-gt0.false
      | else-end-bytes-via-then-end-bytes+else-bytes-end-eq34 w ↦ quote_open c.args.text.now c.args.i c.requires.0 c.past-end.result c.requires.1 e (rw c.bytes-bytes.ensures.0 at w.if-end-bytes.true) (rw c.bytes-bytes.ensures.0 at w.if-bytes-end-eq34.false)
      | else-end-bytes-via-else-end-bytes w ↦ quote_last c.args.text.now c.args.i c.requires.0 c.past-end.result c.requires.1 e (rw c.bytes-bytes.ensures.0 at w.if-end-bytes.false)
    ]
