-- `constant` meets its contract. Assumes nothing.
use Rattle.std.proofs.Common.{ℕ, ◌≡◌, Bool, true, false, not, eqb, refl, sym, ◌∙◌, ap, arith}
use Rattle.gil.specs.Numbers.{number_tag, boolean_tag}
use Rattle.gil.specs.Codes.{tag_number}
use Rattle.gil.specs.Printed.{truth_text}
use Rattle.gil.specs.declared.tags.Tag.{Tag}
use Rattle.gil.specs.declared.tags.Tag.TheVariants.{Number, Boolean, Location, NumberTerm, BooleanTerm}
use Rattle.machine_code.specs.Mirror.{if?}
use Rattle.print_values.specs.Mirror.{truth_form}
use Rattle.print_values.specs.Laws.{constant_number, constant_truth, constant_location}
use Rattle.print_values.specs.Leaves.{leaf_form}
use Rattle.print_values.proofs.constant.Goals as goal

no_number : (t : Tag) → (t ≡ Number → ⊥) → tag_number t ≡ number_tag → ⊥
no_number Number n e = n refl
no_number Boolean n e = omega arith
no_number Location n e = omega arith
no_number NumberTerm n e = omega arith
no_number BooleanTerm n e = omega arith

no_boolean : (t : Tag) → (t ≡ Boolean → ⊥) → tag_number t ≡ boolean_tag → ⊥
no_boolean Number n e = omega arith
no_boolean Boolean n e = n refl
no_boolean Location n e = omega arith
no_boolean NumberTerm n e = omega arith
no_boolean BooleanTerm n e = omega arith

truth_as : (x : ℕ) → truth_text (not (eqb x 0)) ≡ truth_form x
unfolding truth_text truth_form
truth_as x = by (eqb x 0)
  where
    by : (d : Bool) → truth_text (not d) ≡ if? d (truth_text false) (truth_text true)
    by true = refl
    by false = refl

pub returns-in_default : goal.returns-in_default
unfolding leaf_form
returns-in_default c =
    let number : c.args.tag ≡ number_tag → ⊥ = λ e. omega (arith, c.in_default.ensures) in
    let boolean : c.args.tag ≡ boolean_tag → ⊥ = λ e. omega (arith, c.in_default.ensures) in
    sym (constant_location _ _ number boolean)

pub returns-in-Number : goal.returns-in-Number
unfolding leaf_form
returns-in-Number c = sym (constant_number _ _ (sym c.in-Ok.ensures ∙ ap tag_number c.in-Number.is))

pub returns-in-Boolean : goal.returns-in-Boolean
unfolding leaf_form
returns-in-Boolean c = truth_as _ ∙ sym (constant_truth _ _ (sym c.in-Ok.ensures ∙ ap tag_number c.in-Boolean.is))

pub returns-in_default-tag : goal.returns-in_default-tag
unfolding leaf_form
returns-in_default-tag c =
    sym
    (constant_location _ _ (λ e. no_number _ c.in_default-tag.not-Number (c.in-Ok.ensures ∙ e)) (λ e. no_boolean _ c.in_default-tag.not-Boolean (c.in-Ok.ensures ∙ e)))
