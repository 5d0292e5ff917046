-- `Fields::put` meets its contract. Assumes nothing.
use Rattle.std.proofs.Common.{lt-ltb, le-ltb}
use Rattle.gil.specs.Text.{bytes}
use Rattle.print_fields.specs.Mirror.{field_form}
use Rattle.print_fields.proofs.Fields.put.Goals as goal

pub returns-then-value_size-gt-LONGEST : goal.returns-then-value_size-gt-LONGEST
unfolding field_form bytes
returns-then-value_size-gt-LONGEST c = simp (← c.value_size.ensures.same, lt-ltb _ _ c.if-value_size-gt-LONGEST.true) c.put_all.ensures

pub returns-else-value_size-gt-LONGEST : goal.returns-else-value_size-gt-LONGEST
unfolding field_form
returns-else-value_size-gt-LONGEST c = simp (← c.value_size.ensures.same, le-ltb _ _ c.if-value_size-gt-LONGEST.false) c.put_value.ensures
