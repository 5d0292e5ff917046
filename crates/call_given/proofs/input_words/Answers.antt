-- `input_words` meets its contract. Assumes nothing.
use Rattle.std.proofs.Common.{◌<◌, arith, length-set}
use Rattle.call_given.specs.Steps.{read_more, read_all}
use Rattle.call_given.proofs.input_words.Goals as goal

pub loop-i-preserved : goal.loop-i-preserved
loop-i-preserved c = let h : c.loop-i.i < 16 = omega arith in
    let e = read_more c.args.inputs.now c.loop-i.word-items c.loop-i.i c.requires c.loop-i.invariant.0 c.loop-i.invariant.1 h in
    (simp length-set c.loop-i.invariant.0, rw c.word_at.ensures e)

pub returns : goal.returns
returns c = read_all c.args.inputs.now c.loop-i.word-items c.loop-i.i c.requires c.loop-i.invariant.0 c.loop-i.invariant.1 (omega arith)
