-- `Fields::value_size` meets its contract. Assumes nothing.
use Rattle.std.proofs.Common.{ap, ◌∙◌, List, ℕ, length, lt-ltb, le-ltb}
use Rattle.print_fields.specs.Mirror.{value_size}
use Rattle.print_fields.proofs.Fields.value_size.Goals as goal

pub returns-then-tag-clause-same : goal.returns-then-tag-clause-same
unfolding value_size
returns-then-tag-clause-same c = simp (lt-ltb _ _ c.if-tag.true) (c.size.ensures.length ∙ ap (λ (l : List ℕ). length l) c.constant.ensures)

pub returns-else-tag-clause-same : goal.returns-else-tag-clause-same
unfolding value_size
returns-else-tag-clause-same c = simp (le-ltb _ _ c.if-tag.false) c.size_at.ensures.same
