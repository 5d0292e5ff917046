-- `put_value` meets its contract. Assumes nothing.
use Rattle.std.proofs.Common.{refl, sym, ◌∙◌, ap}
use Rattle.gil.specs.Text.{bytes}
use Rattle.gil.specs.Codes.{kind_number}
use Rattle.print_writing.specs.Laws.{write_on, writes_as, write_none}
use Rattle.print_values.specs.Mirror.{op_form}
use Rattle.print_values.specs.Leaves.{leaf_form}
use Rattle.print_values.specs.Kinds.{no_input, no_not, node_known}
use Rattle.print_values.specs.Laws.{value_constant, value-past, value-node, node-input, node_not, node_op}
use Rattle.print_values.proofs.+put_value.Goals as goal

pub returns-then-tag : goal.returns-then-tag
returns-then-tag t c = writes_as (c.constant.ensures ∙ sym (value_constant _ _ _ _ c.if-tag.true)) c.put_on.ensures

pub returns-then-deep-eq0 : goal.returns-then-deep-eq0
returns-then-deep-eq0 t c = writes_as (sym (value-past _ _ _ _ c.if-tag.false c.if-deep-eq0.true)) (write_none _)

pub returns-in-Input : goal.returns-in-Input
unfolding leaf_form
returns-in-Input t c =
    writes_as
    (sym
    (value-node _ _ _ _ c.if-tag.false c.if-deep-eq0.false c.word_at.ensures c.word_at-t.ensures c.word_at-a.ensures refl refl
    ∙ sym (node_known _ _ _ _ _ _)
    ∙ node-input _ _ _ _ _ _ (sym c.kind.ensures ∙ ap kind_number c.in-Input.is)))
    c.put_on-in-Input.ensures

pub returns-in-Not : goal.returns-in-Not
unfolding bytes
returns-in-Not t c =
    writes_as
    (sym
    (value-node _ _ _ _ c.if-tag.false c.if-deep-eq0.false c.word_at.ensures c.word_at-t.ensures c.word_at-a.ensures refl refl
    ∙ sym (node_known _ _ _ _ _ _)
    ∙ node_not _ _ _ _ _ _ (sym c.kind.ensures ∙ ap kind_number c.in-Not.is)))
    (write_on c.put_all.ensures c.put_value.ensures)

pub returns-in_default : goal.returns-in_default
returns-in_default t c =
    writes_as
    (sym
    (value-node _ _ _ _ c.if-tag.false c.if-deep-eq0.false c.word_at.ensures c.word_at-t.ensures c.word_at-a.ensures c.word_at-u.ensures c.word_at-b.ensures
    ∙ sym (node_known _ _ _ _ _ _)
    ∙ node_op _ _ _ _ _ _ (λ e. no_input _ c.in_default.not-Input (c.kind.ensures ∙ e)) (λ e. no_not _ c.in_default.not-Not (c.kind.ensures ∙ e))))
    (write_on c.put.ensures (write_on (write_on (write_on c.put_value-in_default.ensures (writes_as (c.op_text.ensures ∙ ap op_form c.kind.ensures) c.put_all-in_default.ensures)) c.put_value-in_default-2.ensures) c.put-in_default.ensures))
