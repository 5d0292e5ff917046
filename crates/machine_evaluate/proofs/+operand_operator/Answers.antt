-- `evaluate::operator` meets its contract. Assumes nothing.
use Rattle.std.proofs.lemmas.Result.{err_from_is_err_and}
use Rattle.machine_evaluate.specs.Steps.{past-depth, past_end, first-errs, negates, second-errs, operates}
use Rattle.machine_evaluate.proofs.+operand_operator.Goals as goal
use Rattle.machine_evaluate.proofs.+operand_operator.Goals.{operator-then-depth-eq0-via-then-depth-eq0, operator-then-depth-eq0-via-else-depth-eq0+then-at-ge-CODE_WORDS}

pub operator-returns-then-depth-eq0 : goal.operator-returns-then-depth-eq0
operator-returns-then-depth-eq0 t c =
    elim c.then-depth-eq0.branch [
      | operator-then-depth-eq0-via-then-depth-eq0 w ↦ past-depth _ _ _ _ _ _ _ w.if-depth-eq0.true
      | operator-then-depth-eq0-via-else-depth-eq0+then-at-ge-CODE_WORDS w ↦ past_end _ _ _ _ _ w.if-depth-eq0.false w.if-at-ge-CODE_WORDS.true
    ]

pub operator-returns-in_err-a : goal.operator-returns-in_err-a
operator-returns-in_err-a t c =
    let p = err_from_is_err_and c.from_residual.result c.from_residual.ensures.1 in
    rw (p.1, p.2) (first-errs _ _ _ _ _ c.if-depth-eq0.false c.if-at-ge-CODE_WORDS.false (rw c.in_err-a.was at c.operand.ensures))

pub operator-returns-then-kind-eq-NOT_NODE : goal.operator-returns-then-kind-eq-NOT_NODE
operator-returns-then-kind-eq-NOT_NODE t c =
    negates _ _ _ _ _ c.if-depth-eq0.false c.if-at-ge-CODE_WORDS.false (rw c.in_ok-a.was at c.operand.ensures) c.if-kind-eq-NOT_NODE.true c.negate.ensures

pub operator-returns-in_err-b : goal.operator-returns-in_err-b
operator-returns-in_err-b t c =
    let p = err_from_is_err_and c.from_residual-in_err-b.result c.from_residual-in_err-b.ensures.1 in
    rw (p.1, p.2)
    (second-errs _ _ _ _ _ c.if-depth-eq0.false c.if-at-ge-CODE_WORDS.false (rw c.in_ok-a.was at c.operand.ensures) c.if-kind-eq-NOT_NODE.false
    (rw (c.wide.ensures.0, c.in_err-b.was) at c.operand-2.ensures))

pub operator-returns : goal.operator-returns
operator-returns t c =
    operates _ _ _ _ _ c.if-depth-eq0.false c.if-at-ge-CODE_WORDS.false (rw c.in_ok-a.was at c.operand.ensures) c.if-kind-eq-NOT_NODE.false
    (rw (c.wide.ensures.0, c.in_ok-b.was) at c.operand-2.ensures) c.operate.ensures
