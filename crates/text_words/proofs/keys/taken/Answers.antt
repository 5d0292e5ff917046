-- `keys::taken` meets its contract. Assumes nothing.
use Rattle.std.proofs.Common.{sym, ◌∙◌}
use Rattle.text_words.specs.Steps.Keys.{taken-yes, taken-no}
use Rattle.text_words.proofs.keys.taken.Goals as goal

pub returns-then-same : goal.returns-then-same
returns-then-same c = taken-yes _ _ _ (sym c.same.ensures ∙ c.if-same.true)

pub returns-else-same : goal.returns-else-same
returns-else-same c = taken-no _ _ _ (sym c.same.ensures ∙ c.if-same.false)
