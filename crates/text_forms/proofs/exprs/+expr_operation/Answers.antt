-- `exprs::expr`, `reserved` and `operation`, which call each other, meet their contracts. Assumes nothing.
use Rattle.std.specs.Prelude.{◌-◌, true, false}
use Rattle.std.proofs.Common.{refl, ◌∙◌, arith}
use Rattle.gil.specs.Layout.{bit}
use Rattle.gil.specs.Tree.{bin}
use Rattle.gil.specs.Reading.{expr_deep, bracketed, ◌>>=◌, ◌>>◌}
use Rattle.text_forms.specs.Laws.Goes.{stops, first, then, closes}
use Rattle.text_forms.specs.Laws.Wrote.{taken, wrote_var}
use Rattle.text_forms.specs.Steps.Exprs.{expr-zero, leaf-name, leaf-number, leaf-true, leaf-false, form-not, form-none, form-open, mark-none, expr-none, negation-goes}
use Rattle.text_forms.specs.Steps.Wrote.{wrote_num, wrote_bool, wrote_neg, wrote_op}
use Rattle.text_forms.proofs.exprs.+expr_operation.Goals as goal

pub expr-returns-then-depth-eq0-clause-read : goal.expr-returns-then-depth-eq0-clause-read
expr-returns-then-depth-eq0-clause-read t c = expr-zero c.if-depth-eq0.true

pub expr-returns-in-Name-clause-read : goal.expr-returns-in-Name-clause-read
expr-returns-in-Name-clause-read t c = leaf-name c.token-t.ensures c.args.depth c.if-depth-eq0.false c.in-Name.place c.in-Name.is (wrote_var (taken c.intern.ensures.interned c.unwrap_or-x.ensures refl) c.push.ensures.next c.push.ensures.words)

pub expr-returns-in-Number-clause-read : goal.expr-returns-in-Number-clause-read
expr-returns-in-Number-clause-read t c = leaf-number c.token-t.ensures c.args.depth c.if-depth-eq0.false c.in-Number.n c.in-Number.is (wrote_num c.in-Number.n c.number.ensures.next c.number.ensures.words)

pub expr-returns-in-Mark-eq40-clause-read : goal.expr-returns-in-Mark-eq40-clause-read
expr-returns-in-Mark-eq40-clause-read t c = form-open c.token-t.ensures c.args.depth c.if-depth-eq0.false c.in-Mark-eq40.field-0 c.in-Mark-eq40.is (let h = c.in-Mark-eq40 in cc) c.operation.ensures.read

pub expr-returns-in-Mark-clause-read : goal.expr-returns-in-Mark-clause-read
expr-returns-in-Mark-clause-read t c = mark-none c.token-t.ensures c.args.depth c.if-depth-eq0.false c.in-Mark.field-0 c.in-Mark.is (λ z. c.in-Mark.field-0-test.1 (c.in-Mark.field-0-is ∙ z))

pub expr-returns-in_default-clause-read : goal.expr-returns-in_default-clause-read
expr-returns-in_default-clause-read t c = expr-none c.token-t.ensures c.args.depth c.if-depth-eq0.false c.in_default.not-Name c.in_default.not-Number c.in_default.not-Reserved c.in_default.not-Mark

pub reserved-returns-in-True-clause-read : goal.reserved-returns-in-True-clause-read
unfolding bit
reserved-returns-in-True-clause-read t c = leaf-true c.requires.begins c.args.depth (omega (arith, c.requires.deep)) c.args.key refl c.in-True.is (wrote_bool true _ refl c.push.ensures.next c.push.ensures.words)

pub reserved-returns-in-False-clause-read : goal.reserved-returns-in-False-clause-read
unfolding bit
reserved-returns-in-False-clause-read t c = leaf-false c.requires.begins c.args.depth (omega (arith, c.requires.deep)) c.args.key refl c.in-False.is (wrote_bool false _ refl c.push-in-False.ensures.next c.push-in-False.ensures.words)

pub reserved-returns-in-Not-clause-read : goal.reserved-returns-in-Not-clause-read
reserved-returns-in-Not-clause-read t c = form-not c.requires.begins c.args.depth (omega (arith, c.requires.deep)) c.args.key refl c.in-Not.is (negation-goes (expr_deep (c.args.depth - 1)) (λ a q. wrote_neg c.push-in-Not.ensures.words c.push-in-Not.ensures.next q) c.expr.ensures.read)

pub reserved-returns-in_default-clause-read : goal.reserved-returns-in_default-clause-read
reserved-returns-in_default-clause-read t c = form-none c.requires.begins c.args.depth (omega (arith, c.requires.deep)) c.args.key refl c.in_default.not-True c.in_default.not-False c.in_default.not-Not

pub operation-returns-in_err-at-clause-read : goal.operation-returns-in_err-at-clause-read
unfolding bracketed ◌>>=◌
operation-returns-in_err-at-clause-read t c = rw c.from_residual.ensures (stops _ c.in_err-at.ensures.read)

pub operation-returns-in_err-operator-clause-read : goal.operation-returns-in_err-operator-clause-read
unfolding bracketed ◌>>=◌
operation-returns-in_err-operator-clause-read t c = rw c.from_residual-in_err-operator.ensures (first _ c.in_ok-at.ensures.read (λ a wa qa. stops _ c.in_err-operator.ensures))

pub operation-returns-in_err-at-2-clause-read : goal.operation-returns-in_err-at-2-clause-read
unfolding bracketed ◌>>=◌
operation-returns-in_err-at-2-clause-read t c = rw c.from_residual-in_err-at-2.ensures (first _ c.in_ok-at.ensures.read (λ a wa qa. then _ c.in_ok-operator.ensures (λ o wo qo. stops _ c.in_err-at-2.ensures.read)))

pub operation-returns-clause-read : goal.operation-returns-clause-read
unfolding bracketed ◌>>=◌ ◌>>◌
operation-returns-clause-read t c = first _ c.in_ok-at.ensures.read (λ a wa qa. then _ c.in_ok-operator.ensures (λ o wo qo. then _ c.in_ok-at-2.ensures.read (λ b wb qb. closes (bin o a b) c.mark.ensures (wrote_op c.in_ok-operator.operator c.leave-node.ensures.words c.leave-node.ensures.next qa qo c.operate.ensures.words c.operate.ensures.next qb))))
