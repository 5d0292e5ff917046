-- `locate::operand` meets its contract. Assumes nothing.
use Rattle.std.proofs.Common.{rules, tests}
use Rattle.table_locate.specs.Mirror.{operand_word}
use Rattle.table_locate.proofs.operand.Goals as goal

pub returns-then-tag : goal.returns-then-tag
unfolding operand_word
returns-then-tag c = search (rules, tests)

pub returns : goal.returns
unfolding operand_word
returns c = search (rules, tests)
