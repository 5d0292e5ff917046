-- `put_word` meets its contract. Assumes nothing.
use Rattle.std.proofs.Common.{sym, ◌∙◌, arith}
use Rattle.lent_words.specs.Steps.{put_word-out, stores_word}
use Rattle.lent_words.proofs.put_word.Goals as goal

pub returns-then-saturating_add-b : goal.returns-then-saturating_add-b
returns-then-saturating_add-b c = c.set_word.ensures ∙ stores_word _ _ _ (omega (arith, c.saturating_add.ensures))

pub returns-else-saturating_add-b : goal.returns-else-saturating_add-b
returns-else-saturating_add-b c = sym (put_word-out _ _ _ (omega (arith, c.saturating_add.ensures)))
