-- `locate::value_word` meets its contract. Assumes nothing.
use Rattle.std.proofs.Common.{rules}
use Rattle.table_locate.specs.Mirror.{value_word}
use Rattle.table_locate.proofs.value_word.Goals as goal

pub returns : goal.returns
unfolding value_word
returns c = search rules
