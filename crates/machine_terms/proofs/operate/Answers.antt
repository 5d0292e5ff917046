-- `terms::operate` meets its contract. Assumes nothing.
use Rattle.std.proofs.Common.{sym, ◌∙◌}
use Rattle.machine_terms.specs.Steps.Worked.{worked}
use Rattle.machine_terms.proofs.operate.Goals as goal

pub returns-then-needed : goal.returns-then-needed
returns-then-needed c = worked _ _ _ _ _ (sym c.needed.ensures ∙ c.if-needed.true) (simp (c.word.ensures, c.word-then-needed.ensures) at c.work.ensures)
