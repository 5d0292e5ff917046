-- `words::same` meets its contract. Assumes nothing.
use Rattle.std.proofs.Common.{sym, ◌∙◌}
use Rattle.text_words.specs.Steps.Same.{same_lengths, same_end, same_differ, same_more}
use Rattle.text_words.proofs.words.same.Goals as goal

pub returns-then-a-b : goal.returns-then-a-b
returns-then-a-b c = sym (same_lengths c.args.a.now c.args.b.now c.if-a-b.true)

pub returns-then-a-i : goal.returns-then-a-i
returns-then-a-i c = same_differ c.args.a.now c.args.b.now c.loop-i.i c.loop-i.invariant.0 c.loop-i-test.true c.if-a-i.true ∙ sym c.loop-i.invariant.1

pub loop-i-preserved : goal.loop-i-preserved
loop-i-preserved c = (c.loop-i.invariant.0, c.loop-i.invariant.1 ∙ same_more c.args.a.now c.args.b.now c.loop-i.i c.loop-i.invariant.0 c.loop-i-test.true c.if-a-i.false)

pub returns : goal.returns
returns c = same_end c.args.a.now c.args.b.now c.loop-i.i c.loop-i.invariant.0 c.loop-i-test.false ∙ sym c.loop-i.invariant.1
