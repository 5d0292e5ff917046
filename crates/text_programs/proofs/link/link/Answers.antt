-- `link::link` meets its contract. Assumes nothing.
use Rattle.std.proofs.Common.{◌∙◌}
use Rattle.text_programs.specs.Mirror.Linked.{callee_in}
use Rattle.text_programs.specs.Steps.Linked.{link_more, link_end, links-all}
use Rattle.text_programs.proofs.link.link.Goals as goal

pub loop-i-preserved : goal.loop-i-preserved
loop-i-preserved c = λ lc lk. c.loop-i.invariant lc lk ∙ link_more (callee_in c.args.text.now c.args.calls.now c.args.procs.now) c.args.commands c.loop-i.code _ c.loop-i.i c.loop-i-test.true (c.link_command.ensures lc lk)

pub returns : goal.returns
returns c = λ lc lk. links-all c.args.text.now c.args.calls.now c.args.procs.now c.args.commands c.args.code.now c.loop-i.code (c.loop-i.invariant lc lk ∙ link_end (callee_in c.args.text.now c.args.calls.now c.args.procs.now) c.args.commands c.loop-i.code c.loop-i.i c.loop-i-test.false)
