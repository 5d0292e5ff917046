-- `lexemes::token_from` meets its contract. Assumes nothing.
use Rattle.std.proofs.Common.{sym, ap, ◌∙◌, arith, get_or, rules}
use Rattle.std.specs.Prelude.{List, ℕ}
use Rattle.text_tokens.specs.Steps.Seen.{found-end, found_plain}
use Rattle.text_tokens.proofs.lexemes.token_from.Goals as goal

pub returns-then-i-bytes : goal.returns-then-i-bytes
returns-then-i-bytes c = found-end c.args.text.now c.args.i (rw c.bytes-bytes.ensures.0 at c.if-i-bytes.true)

pub returns-in_default : goal.returns-in_default
returns-in_default c = found_plain c.args.text.now c.args.i (rw c.bytes-bytes.ensures.0 at c.if-i-bytes.false) (get_or c.bytes-bytes.result.now c.args.i 0) (ap (λ (s : List ℕ). get_or s c.args.i 0) (sym c.bytes-bytes.ensures.0)) (search rules) (sym c.in_run.ensures ∙ c.if-in_run.false) (λ e. omega arith) (λ e. omega arith)
