-- `lists::procedures_of` meets its contract. Assumes nothing.
use Rattle.std.proofs.Common.{refl, ◌∙◌, arith}
use Rattle.text_forms.specs.Laws.Goes.{was_read}
use Rattle.text_forms.specs.Laws.Seeing.{ended-seen, ended-not, seen-as}
use Rattle.text_procedures.specs.Steps.Procedures.{round_none, round_fault, round_last, round_more}
use Rattle.text_procedures.proofs.lists.procedures_of.Goals as goal

pub loop-declared-init : goal.loop-declared-init
loop-declared-init c = (round_none, refl, omega arith)

pub returns-in_err-declared-clause-read : goal.returns-in_err-declared-clause-read
returns-in_err-declared-clause-read c = rw c.from_residual.ensures (round_fault c.loop-declared.invariant.0 c.in_err-declared.ensures.read)

pub returns-in-Ended-clause-read : goal.returns-in-Ended-clause-read
returns-in-Ended-clause-read c = round_last c.loop-declared.invariant.0 (was_read c.in_ok-declared.ensures.read) c.counted-tally.ensures.0 c.counted-tally.ensures.1 c.counted-tally.ensures.2 c.counted-tally.ensures.3 c.counted-tally.ensures.4 _ refl (λ ps t. t) (ended-seen (seen-as c.token.ensures c.in-Ended.is))

pub loop-declared-preserved : goal.loop-declared-preserved
loop-declared-preserved c = (round_more c.loop-declared.invariant.0 (was_read c.in_ok-declared.ensures.read) c.counted-tally.ensures.0 c.counted-tally.ensures.1 c.counted-tally.ensures.2 c.counted-tally.ensures.3 c.counted-tally.ensures.4 (ended-not c.token.ensures.seen c.in_default.not-Ended), c.in_ok-declared.ensures.same ∙ c.loop-declared.invariant.1, omega (arith, c.loop-declared.invariant.2, c.counted-tally.ensures.0, c.counted-tally.ensures.1, c.in_ok-declared.ensures.short))
