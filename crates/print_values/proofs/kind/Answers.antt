-- `kind` meets its contract. Assumes nothing.
use Rattle.std.proofs.Common.{ap, ◌∙◌}
use Rattle.gil.specs.Codes.{kind_number}
use Rattle.print_values.specs.Kinds.{kind_read}
use Rattle.print_values.proofs.kind.Goals as goal

pub returns : goal.returns
returns c = ap kind_number c.unwrap_or.ensures ∙ kind_read _ _ c.try_from.ensures
