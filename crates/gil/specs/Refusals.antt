-- The code's refusals by document 01's numbers. Assumes nothing.
use Rattle.std.specs.Prelude.{ℕ, ◌≡◌, Result, Ok, Err}
use Rattle.std.proofs.Common.{arith, sym, ap, ◌∙◌}
use Rattle.gil.specs.Numbers.{for_budgets, for_lists, for_length, for_form, for_limits, for_names, for_jump, for_end, for_rows, for_terms}
use Rattle.gil.specs.declared.refusals.Refusal.{Refusal}
use Rattle.gil.specs.declared.refusals.Refusal.TheVariants.{Budgets, Lists, Length, Form, Limits, Names, Jump, End, Rows, Terms}

abbrev pub refusal_number : Refusal → ℕ
refusal_number Budgets = for_budgets
refusal_number Lists = for_lists
refusal_number Length = for_length
refusal_number Form = for_form
refusal_number Limits = for_limits
refusal_number Names = for_names
refusal_number Jump = for_jump
refusal_number End = for_end
refusal_number Rows = for_rows
refusal_number Terms = for_terms

-- what is answered: 0, or the number of the refusal
abbrev pub answer_of : Result (Unit {0}) Refusal → ℕ
answer_of (Ok done) = 0
answer_of (Err refusal) = refusal_number refusal

-- no refusal has the number of success
pub numbered : {r : Result (Unit {0}) Refusal} (x : Refusal) → r ≡ Err x → answer_of r ≡ 0 → ⊥
numbered x e z = some x (sym (ap answer_of e) ∙ z)
  where
    some : (x : Refusal) → refusal_number x ≡ 0 → ⊥
    some Budgets z = omega arith
    some Lists z = omega arith
    some Length z = omega arith
    some Form z = omega arith
    some Limits z = omega arith
    some Names z = omega arith
    some Jump z = omega arith
    some End z = omega arith
    some Rows z = omega arith
    some Terms z = omega arith
