-- `Named::put_name` meets its contract. Assumes nothing.
use Rattle.std.proofs.Common.{◌≤◌, refl, arith, lt-ltb, le-ltb}
use Rattle.print_writing.specs.Laws.{write_none, writes_as}
use Rattle.text_tokens.specs.Mirror.Seen.{name_at}
use Rattle.print_lines.specs.Mirror.{name_form}
use Rattle.print_lines.specs.Steps.{name-read}
use Rattle.print_lines.proofs.Named.put_name.Goals as goal

pub returns-then-k-lt-MOST_PROCEDURES : goal.returns-then-k-lt-MOST_PROCEDURES
unfolding name_form name_at
returns-then-k-lt-MOST_PROCEDURES c =
    let k : c.args.f ≤ c.args.f = omega arith in
    simp (lt-ltb _ _ c.if-k-lt-MOST_PROCEDURES.true)
    (writes_as (name-read _ c.args.self.now.names.now.places c.args.f _ c.unwrap_or-place.ensures c.copied.ensures (c.get.ensures.lookup.4 k) refl refl) c.put_part.ensures)

pub returns-else-k-lt-MOST_PROCEDURES : goal.returns-else-k-lt-MOST_PROCEDURES
unfolding name_form
returns-else-k-lt-MOST_PROCEDURES c = simp (le-ltb _ _ c.if-k-lt-MOST_PROCEDURES.false) (write_none _)
