-- `locate::term_value` meets its contract. Assumes nothing.
use Rattle.std.proofs.Common.{rules, tests}
use Rattle.table_locate.specs.Mirror.{term_value, term_of}
use Rattle.table_locate.proofs.term_value.Goals as goal

pub returns-then-kind : goal.returns-then-kind
unfolding term_value term_of
returns-then-kind c = search (rules, tests)

pub returns : goal.returns
unfolding term_value term_of
returns c = search (rules, tests)
