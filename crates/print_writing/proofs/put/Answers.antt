-- `put` meets its contract. Assumes nothing.
use Rattle.std.proofs.Common.{◌≡◌, arith, ◌∙◌}
use Rattle.print_writing.specs.Mirror as mirror
use Rattle.print_writing.specs.Steps.{next_as, wrote_in, wrote_out}
use Rattle.print_writing.proofs.put.Goals as goal
use Rattle.print_writing.proofs.put.Goals.{then-at-out, else-at-out}

pub returns : goal.returns
returns c =
    let at : c.saturating_add.result ≡ mirror.next c.args.at = c.saturating_add.ensures ∙ next_as c.args.at (omega (arith, c.ranges.at)) in
    elim c.if-at-out.branch [
      | then-at-out w ↦ rw w.out-is (wrote_in _ _ _ at)
      | else-at-out w ↦ rw w.out-is (wrote_out _ _ _ w.if-at-out.false at)
    ]
