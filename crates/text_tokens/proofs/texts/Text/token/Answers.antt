-- `texts::Text::token` meets its contract. Assumes nothing.
use Rattle.std.proofs.Common.{rules}
use Rattle.std.specs.Prelude.{◌+◌, ◌≡◌, drop}
use Rattle.gil.specs.Text.{white, span}
use Rattle.text_tokens.specs.Steps.Seen.{found-past}
use Rattle.text_tokens.proofs.texts.Text.token.Goals as goal

pub returns : goal.returns
returns c =
    let e : c.past.result ≡ c.args.at + span white (drop c.args.at c.args.self.now) = rw c.bytes.ensures.0 at c.past.ensures.ends white (λ b r l h. search rules) in
    found-past c.args.self.now c.args.at c.past.result c.token_from.result.token c.token_from.result.next e c.token_from.ensures
