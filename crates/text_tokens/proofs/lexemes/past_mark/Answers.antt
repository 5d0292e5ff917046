-- `lexemes::past_mark` meets its contract. Assumes nothing.
use Rattle.std.proofs.Common.{arith, rules}
use Rattle.std.specs.Prelude.{◌+◌, ◌≡◌, drop}
use Rattle.gil.specs.Text.{white, span}
use Rattle.text_tokens.specs.Steps.Marks.{marked-end, marked_other, marked-there}
use Rattle.text_tokens.proofs.lexemes.past_mark.Goals as goal

pub returns-then-i-bytes : goal.returns-then-i-bytes
returns-then-i-bytes c =
    let e : c.past-i.result ≡ c.args.at + span white (drop c.args.at c.args.bytes.now) = c.past-i.ensures.ends white (λ b r l h. search rules) in
    marked-end c.args.b c.requires c.args.bytes.now c.args.at c.past-i.result e c.if-i-bytes.true

pub returns-then-bytes-i : goal.returns-then-bytes-i
returns-then-bytes-i c =
    let e : c.past-i.result ≡ c.args.at + span white (drop c.args.at c.args.bytes.now) = c.past-i.ensures.ends white (λ b r l h. search rules) in
    marked-there c.args.b c.requires c.args.bytes.now c.args.at c.past-i.result e c.if-i-bytes.false c.if-bytes-i.true (omega (arith, c.ranges.b))

pub returns-else-bytes-i : goal.returns-else-bytes-i
returns-else-bytes-i c =
    let e : c.past-i.result ≡ c.args.at + span white (drop c.args.at c.args.bytes.now) = c.past-i.ensures.ends white (λ b r l h. search rules) in
    marked_other c.args.b c.requires c.args.bytes.now c.args.at c.past-i.result e c.if-i-bytes.false c.if-bytes-i.false
