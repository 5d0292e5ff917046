-- `rows::write_pairs` meets its contract. Assumes nothing.
use Rattle.std.proofs.Common.{refl, add-zero, arith}
use Rattle.std.proofs.lemmas.Fn.{says_at}
use Rattle.table_rows.specs.Steps.{thing_more, things_put}
use Rattle.table_rows.proofs.write_pairs.Goals as goal

pub loop-i-init : goal.loop-i-init
loop-i-init g c = λ f says. rw add-zero refl

pub loop-i-preserved : goal.loop-i-preserved
loop-i-preserved g c = λ f says.
    thing_more f _ c.loop-i.part c.args.things.now c.index-things-i.result c.index-things-i.result _ c.loop-i.i c.loop-i-test.true c.index-things-i.is (c.loop-i.invariant f says)
    (says _ _ (says_at g.F.Fn c.pair-first.ensures refl)) c.put_words.ensures (omega arith)

pub returns : goal.returns
returns g c = λ f says. things_put f _ _ c.args.things.now _ c.loop-i.i c.loop-i-test.false (c.loop-i.invariant f says)
