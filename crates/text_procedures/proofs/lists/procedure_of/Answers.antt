-- `lists::procedure_of` meets its contract. Assumes nothing.
use Rattle.std.proofs.Common.{refl}
use Rattle.gil.specs.Reading.{◌>>=◌, ◌>>◌, procedure}
use Rattle.text_forms.specs.Laws.Goes.{stops, first, then, ended}
use Rattle.text_forms.specs.Laws.Wrote.{taken}
use Rattle.text_procedures.specs.Steps.Procedures.{declares}
use Rattle.text_procedures.proofs.lists.procedure_of.Goals as goal

pub returns-in_err-name-clause-read : goal.returns-in_err-name-clause-read
unfolding procedure ◌>>=◌ ◌>>◌
returns-in_err-name-clause-read c = rw c.from_residual.ensures (stops _ c.in_err-name.ensures)

pub returns-in_err-at-clause-read : goal.returns-in_err-at-clause-read
unfolding procedure ◌>>=◌ ◌>>◌
returns-in_err-at-clause-read c = rw c.from_residual-in_err-at.ensures (first _ c.in_ok-name.ensures (λ f wf qf. stops _ c.in_err-at.ensures))

pub returns-in_err-parameter-clause-read : goal.returns-in_err-parameter-clause-read
unfolding procedure ◌>>=◌ ◌>>◌
returns-in_err-parameter-clause-read c = rw c.from_residual-in_err-parameter.ensures (first _ c.in_ok-name.ensures (λ f wf qf. then _ c.in_ok-at.ensures (λ u₁ w₁ q₁. stops _ c.in_err-parameter.ensures)))

pub returns-in_err-at-2-clause-read : goal.returns-in_err-at-2-clause-read
unfolding procedure ◌>>=◌ ◌>>◌
returns-in_err-at-2-clause-read c = rw c.from_residual-in_err-at-2.ensures (first _ c.in_ok-name.ensures (λ f wf qf. then _ c.in_ok-at.ensures (λ u₁ w₁ q₁. then _ c.in_ok-parameter.ensures (λ x wx qx. stops _ c.in_err-at-2.ensures))))

pub returns-in_err-at-3-clause-read : goal.returns-in_err-at-3-clause-read
unfolding procedure ◌>>=◌ ◌>>◌
returns-in_err-at-3-clause-read c = rw c.from_residual-in_err-at-3.ensures (first _ c.in_ok-name.ensures (λ f wf qf. then _ c.in_ok-at.ensures (λ u₁ w₁ q₁. then _ c.in_ok-parameter.ensures (λ x wx qx. then _ c.in_ok-at-2.ensures (λ u₂ w₂ q₂. stops _ c.in_err-at-3.ensures)))))

pub returns-in_err-body-clause-read : goal.returns-in_err-body-clause-read
unfolding procedure ◌>>=◌ ◌>>◌
returns-in_err-body-clause-read c = rw c.from_residual-in_err-body.ensures (first _ c.in_ok-name.ensures (λ f wf qf. then _ c.in_ok-at.ensures (λ u₁ w₁ q₁. then _ c.in_ok-parameter.ensures (λ x wx qx. then _ c.in_ok-at-2.ensures (λ u₂ w₂ q₂. then _ c.in_ok-at-3.ensures (λ u₃ w₃ q₃. stops _ c.in_err-body.ensures.read))))))

pub returns-in_err-at-4-clause-read : goal.returns-in_err-at-4-clause-read
unfolding procedure ◌>>=◌ ◌>>◌
returns-in_err-at-4-clause-read c = rw c.from_residual-in_err-at-4.ensures (first _ c.in_ok-name.ensures (λ f wf qf. then _ c.in_ok-at.ensures (λ u₁ w₁ q₁. then _ c.in_ok-parameter.ensures (λ x wx qx. then _ c.in_ok-at-2.ensures (λ u₂ w₂ q₂. then _ c.in_ok-at-3.ensures (λ u₃ w₃ q₃. then _ c.in_ok-body.ensures.read (λ cs wc qc. stops _ c.in_err-at-4.ensures)))))))

pub returns-clause-read : goal.returns-clause-read
unfolding procedure ◌>>=◌ ◌>>◌
returns-clause-read c = first _ c.in_ok-name.ensures (λ f wf qf. then _ c.in_ok-at.ensures (λ u₁ w₁ q₁. then _ c.in_ok-parameter.ensures (λ x wx qx. then _ c.in_ok-at-2.ensures (λ u₂ w₂ q₂. then _ c.in_ok-at-3.ensures (λ u₃ w₃ q₃. then _ c.in_ok-body.ensures.read (λ cs wc qc. then _ c.in_ok-at-4.ensures (λ u₄ w₄ q₄. ended _ _ w₄ (declares (taken c.intern.ensures.interned refl qf) (c.new-tables.ensures c.args.text.now) (taken c.intern-2.ensures.interned refl qx) qc c.procedure.ensures.words c.procedure.ensures.next c.is_over.ensures c.passes.ensures))))))))
