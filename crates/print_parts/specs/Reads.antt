-- What is no outcome is shown as cut, and what is no reason as branches: the forms of these are what the mirror writes on any word. Assumes
-- nothing.
use Rattle.std.specs.Prelude.{ℕ, ◌≡◌, List, Result, Ok, Err}
use Rattle.std.specs.Result.{result_unwrap_or}
use Rattle.std.proofs.Common.{arith, sym, ◌∙◌, ap, ne_eqb}
use Rattle.gil.specs.Numbers.{as_returned, as_failed, as_vanished, as_error, for_steps}
use Rattle.gil.specs.Codes.{outcome_number, reason_number, IsOutcomeOf, IsReasonOf}
use Rattle.gil.specs.declared.Unknown.{Unknown}
use Rattle.gil.specs.declared.outcomes.Outcome.{Outcome}
use Rattle.gil.specs.declared.outcomes.Outcome.TheVariants.{Cut}
use Rattle.gil.specs.declared.outcomes.Reason.{Reason}
use Rattle.gil.specs.declared.outcomes.Reason.TheVariants.{Branches}
use Rattle.print_parts.specs.Mirror.{cut_form, outcome_form}

pub reason_read : (code : ℕ) (r : Result Reason Unknown) → IsReasonOf code r → cut_form (reason_number (result_unwrap_or r Branches)) ≡ cut_form code
unfolding cut_form
reason_read code (Ok why) e = ap cut_form e
reason_read code (Err u) e =
    let steps : code ≡ for_steps → ⊥ = λ (f : code ≡ for_steps). omega arith in
    simp (ne_eqb code for_steps steps)

pub reason_is :
    {w : Reason} (code : ℕ) (r : Result Reason Unknown) (k : Reason) → IsReasonOf code r → w ≡ result_unwrap_or r Branches → w ≡ k
    → cut_form (reason_number k) ≡ cut_form code
reason_is code r k read e f = ap (λ (w : Reason). cut_form (reason_number w)) (sym f ∙ e) ∙ reason_read code r read

module _ (pool ss : List ℕ) (tag x : ℕ) where
  pub outcome_read :
      (code : ℕ) (r : Result Outcome Unknown) → IsOutcomeOf code r
      → outcome_form pool ss (outcome_number (result_unwrap_or r Cut)) tag x ≡ outcome_form pool ss code tag x
  unfolding outcome_form
  outcome_read code (Ok o) e = ap (λ (k : ℕ). outcome_form pool ss k tag x) e
  outcome_read code (Err u) e =
      let returned : code ≡ as_returned → ⊥ = λ (f : code ≡ as_returned). omega arith in
      let failed : code ≡ as_failed → ⊥ = λ (f : code ≡ as_failed). omega arith in
      let vanished : code ≡ as_vanished → ⊥ = λ (f : code ≡ as_vanished). omega arith in
      let error : code ≡ as_error → ⊥ = λ (f : code ≡ as_error). omega arith in
      simp (ne_eqb code as_returned returned, ne_eqb code as_failed failed, ne_eqb code as_vanished vanished, ne_eqb code as_error error)

  pub outcome_is :
      {o : Outcome} (code : ℕ) (r : Result Outcome Unknown) (k : Outcome) → IsOutcomeOf code r → o ≡ result_unwrap_or r Cut → o ≡ k
      → outcome_form pool ss (outcome_number k) tag x ≡ outcome_form pool ss code tag x
  outcome_is code r k read e f = ap (λ (o : Outcome). outcome_form pool ss (outcome_number o) tag x) (sym f ∙ e) ∙ outcome_read code r read
