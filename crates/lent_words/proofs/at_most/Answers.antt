-- `at_most` meets its contract. Assumes nothing.
use Rattle.std.proofs.Common.{◌∙◌, arith}
use Rattle.lent_words.specs.Laws.Words.{at_most-min}
use Rattle.lent_words.proofs.at_most.Goals as goal

pub returns : goal.returns
returns c = (c.min.ensures ∙ at_most-min _ _, omega (arith, c.min.ensures))
