-- `wrong_budgets` meets its contract. Assumes nothing.
use Rattle.std.proofs.Common.{inl, inr, le-leb}
use Rattle.std.proofs.lemmas.Bool.{lt-leb}
use Rattle.gil.specs.Calls.{wrong_budgets}
use Rattle.call_given.proofs.wrong_budgets.Goals as goal

pub returns-then-steps-lt1 : goal.returns-then-steps-lt1
unfolding wrong_budgets
returns-then-steps-lt1 c =
    elim c.then-steps-lt1.either [
      | inl h ↦ simp (lt-leb _ _ h, wrong_budgets)
      | inr (h, g) ↦ simp (le-leb _ _ h, lt-leb _ _ g, wrong_budgets)
    ]

pub returns : goal.returns
unfolding wrong_budgets
returns c = simp (le-leb _ _ c.if-steps-lt1.false, le-leb _ _ c.if-steps-gt-MOST_STEPS.false, wrong_budgets)
