-- `evaluate::simple` meets its contract. Assumes nothing.
use Rattle.std.proofs.Common.{sym, ◌∙◌, ap, Ok}
use Rattle.machine_evaluate.specs.Steps.{simply-worked}
use Rattle.machine_evaluate.proofs.simple.Goals as goal

pub returns-then-needed : goal.returns-then-needed
returns-then-needed c =
    simply-worked _ _ _ c.if-at-ge-CODE_WORDS.false c.if-kind-lt-PLUS_NODE.false (sym (c.in-Ok-Some.is ∙ ap Ok c.in-Ok-Some.field-0-is) ∙ c.leaf.ensures)
    (sym (c.in-Ok-Some-leaf.is ∙ ap Ok c.in-Ok-Some-leaf.field-0-is) ∙ rw c.wide.ensures.0 at c.leaf-2.ensures) (sym c.needed.ensures ∙ c.if-needed.true) (simp (c.word.ensures, c.word-then-needed.ensures) at c.work.ensures)
