-- `Fields::term_size` meets its contract. Assumes nothing.
use Rattle.print_fields.specs.Steps.{size_shown}
use Rattle.print_fields.proofs.Fields.term_size.Goals as goal

pub returns : goal.returns
returns c =
    size_shown _ _ _ c.word_at.ensures c.kind-kind.ensures c.word_at-t.ensures c.word_at-x.ensures c.word_at-u.ensures c.word_at-y.ensures c.node_size.ensures c.min.ensures
