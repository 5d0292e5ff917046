-- `words::zero` meets its contract. Assumes nothing.
use Rattle.std.proofs.Common.{rules}
use Rattle.lent_words.proofs.zero.Goals as goal

pub returns : goal.returns
returns c = c.fill.ensures.after (λ y e. search rules)
