-- `size_of` meets its contract. Assumes nothing.
use Rattle.std.proofs.Common.{◌∙◌}
use Rattle.print_writing.specs.Laws.{page_measured}
use Rattle.print_writing.proofs.size_of.Goals as goal

pub returns : goal.returns
returns g c = c.count.ensures ∙ page_measured c.requires c.new-page.ensures.front c.put_on.ensures
