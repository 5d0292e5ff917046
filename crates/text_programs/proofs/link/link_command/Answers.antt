-- `link::link_command` meets its contract. Assumes nothing.
use Rattle.std.specs.Prelude.{◌+◌, ◌*◌, set}
use Rattle.std.proofs.Common.{sym, ap, ◌∙◌}
use Rattle.machine_code.specs.Code.{command_size, commands_at}
use Rattle.text_programs.specs.Mirror.Linked.{callee_in}
use Rattle.text_programs.specs.Steps.Linked.{link_call, link_other}
use Rattle.text_programs.proofs.link.link_command.Goals as goal

pub returns-then-code-at-eq-CALL : goal.returns-then-code-at-eq-CALL
returns-then-code-at-eq-CALL c = λ lc lk. ap (set c.args.code.now (commands_at + command_size * c.args.i + 3)) (c.callee-f.ensures lc lk) ∙ sym (link_call (callee_in c.args.text.now c.args.calls.now c.args.procs.now) c.args.code.now c.args.i c.if-code-at-eq-CALL.true)

pub returns-else-code-at-eq-CALL : goal.returns-else-code-at-eq-CALL
returns-else-code-at-eq-CALL c = λ lc lk. sym (link_other (callee_in c.args.text.now c.args.calls.now c.args.procs.now) c.args.code.now c.args.i c.if-code-at-eq-CALL.false)
