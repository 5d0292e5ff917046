-- A number's text is written. Assumes nothing.
use Rattle.std.proofs.Common.{◌∙◌, arith}
use Rattle.print_writing.specs.Laws.{writes_as}
use Rattle.print_writing.specs.Steps.{decimal_is}
use Rattle.print_writing.proofs.U32Text.put_on.Goals as goal

pub returns : goal.returns
returns c = writes_as (c.as_bytes.ensures.value ∙ c.format.ensures.text ∙ decimal_is _ (omega arith)) c.put_all.ensures
