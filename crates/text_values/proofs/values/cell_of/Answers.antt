-- `values::cell_of` meets its contract. Assumes nothing.
use Rattle.std.proofs.Common.{◌∙◌, arith}
use Rattle.gil.specs.Reading.{◌>>=◌, ◌>>◌, expr}
use Rattle.text_forms.specs.Laws.Wrote.{taken}
use Rattle.text_forms.specs.Laws.Goes.{lost, past, was_read}
use Rattle.text_values.specs.Mirror.{opening, broken, opened}
use Rattle.text_values.proofs.values.cell_of.Goals as goal

pub returns-in_err-at-clause-read : goal.returns-in_err-at-clause-read
unfolding opening ◌>>◌
returns-in_err-at-clause-read c = rw c.from_residual.ensures (broken (λ f. lost _ c.in_err-at.ensures))

pub returns-in_err-at-2-clause-read : goal.returns-in_err-at-2-clause-read
unfolding opening ◌>>=◌ ◌>>◌ expr
returns-in_err-at-2-clause-read c = rw c.from_residual-in_err-at-2.ensures (broken (λ f. past _ (was_read c.in_ok-at.ensures) ∙ lost _ c.in_err-at-2.ensures))

pub returns-in_err-at-3-clause-read : goal.returns-in_err-at-3-clause-read
unfolding opening ◌>>=◌ ◌>>◌ expr
returns-in_err-at-3-clause-read c = rw c.from_residual-in_err-at-3.ensures (broken (λ f. past _ (was_read c.in_ok-at.ensures) ∙ past _ (was_read c.in_ok-at-2.ensures) ∙ lost _ c.in_err-at-3.ensures.read))

pub returns-in_err-at-4-clause-read : goal.returns-in_err-at-4-clause-read
unfolding opening ◌>>=◌ ◌>>◌ expr
returns-in_err-at-4-clause-read c = rw c.from_residual-in_err-at-4.ensures (broken (λ f. past _ (was_read c.in_ok-at.ensures) ∙ past _ (was_read c.in_ok-at-2.ensures) ∙ past _ (was_read c.in_ok-at-3.ensures.read) ∙ lost _ c.in_err-at-4.ensures))

pub returns-in_err-property-clause-read : goal.returns-in_err-property-clause-read
unfolding opening ◌>>=◌ ◌>>◌ expr
returns-in_err-property-clause-read c = rw c.from_residual-in_err-property.ensures (broken (λ f. past _ (was_read c.in_ok-at.ensures) ∙ past _ (was_read c.in_ok-at-2.ensures) ∙ past _ (was_read c.in_ok-at-3.ensures.read) ∙ past _ (was_read c.in_ok-at-4.ensures) ∙ lost _ c.in_err-property.ensures))

pub returns-clause-read : goal.returns-clause-read
unfolding opening ◌>>=◌ ◌>>◌ expr
returns-clause-read c =
    let a = was_read c.in_ok-at.ensures in
    let b = was_read c.in_ok-at-2.ensures in
    let e = was_read c.in_ok-at-3.ensures.read in
    let d = was_read c.in_ok-at-4.ensures in
    let p = was_read c.in_ok-property.ensures in
    opened (λ f. past _ a ∙ past _ b ∙ past _ e ∙ past _ d ∙ past _ p) (omega (arith, a.on, b.on, e.on, d.on, p.on)) p.within e.has (taken c.intern.ensures.interned c.unwrap_or-number.ensures p.has)
