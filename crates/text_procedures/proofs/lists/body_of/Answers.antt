-- `lists::body_of` meets its contract. Assumes nothing.
use Rattle.std.proofs.Common.{refl, ◌∙◌}
use Rattle.text_forms.specs.Laws.Goes.{was_read}
use Rattle.text_forms.specs.Laws.Seeing.{mark-there, mark-absent}
use Rattle.text_procedures.specs.Steps.Lists.{turn-none, turn-fault, turn_last, turn_more}
use Rattle.text_procedures.proofs.lists.body_of.Goals as goal

pub loop-step-init : goal.loop-step-init
loop-step-init c = (turn-none c.args.at, refl)

pub returns-in_err-step-clause-read : goal.returns-in_err-step-clause-read
returns-in_err-step-clause-read c = rw c.from_residual.ensures (turn-fault c.loop-step.invariant.0 c.in_err-step.ensures.read)

pub returns-then-is_some-clause-read : goal.returns-then-is_some-clause-read
returns-then-is_some-clause-read c = turn_last c.loop-step.invariant.0 (was_read c.in_ok-step.ensures.read) c.highest-jump.ensures _ refl (λ cs l. l) (mark-there _ _ 125 _ c.past_mark.ensures c.if-is_some.ensures)

pub loop-step-preserved : goal.loop-step-preserved
loop-step-preserved c = (turn_more c.loop-step.invariant.0 (was_read c.in_ok-step.ensures.read) c.highest-jump.ensures (mark-absent _ _ 125 _ c.past_mark.ensures c.if-is_some.ensures), c.in_ok-step.ensures.same ∙ c.loop-step.invariant.1)
