-- `Fields::size_at` meets its contract. Assumes nothing.
use Rattle.std.proofs.Common.{◌≡◌, ◌≤◌, length, arith, ◌∙◌}
use Rattle.gil.specs.Numbers.{most_terms}
use Rattle.print_fields.specs.Mirror.{larger}
use Rattle.print_fields.specs.Steps.{size_got}
use Rattle.print_fields.proofs.Fields.size_at.Goals as goal

pub returns-clause-same : goal.returns-clause-same
returns-clause-same c =
    let full : length c.args.self.now.sizes ≡ most_terms = omega arith in
    let k : c.args.k ≤ c.args.k = omega arith in
    c.unwrap_or.ensures ∙ rw c.copied.ensures (c.get.ensures.lookup.4 k larger) ∙ size_got _ _ full
