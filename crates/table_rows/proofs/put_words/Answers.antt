-- `rows::put_words` meets its contract. Assumes nothing.
use Rattle.std.proofs.Common.{refl, add-zero}
use Rattle.table_rows.specs.Steps.{word_more, all_put}
use Rattle.table_rows.proofs.put_words.Goals as goal

pub loop-i-init : goal.loop-i-init
loop-i-init c = rw add-zero refl

pub loop-i-preserved : goal.loop-i-preserved
loop-i-preserved c = word_more _ c.loop-i.part c.args.words.now c.args.at c.loop-i.i _ c.loop-i-test.true refl c.loop-i.invariant c.put_word.ensures

pub returns : goal.returns
returns c = all_put _ _ _ _ _ c.loop-i-test.false c.loop-i.invariant
