-- `place` meets its contract. Assumes nothing.
use Rattle.std.proofs.Common.{Err, refl, ap, ◌∙◌, arith}
use Rattle.std.proofs.lemmas.Result.{err_from_is_err_and}
use Rattle.call_given.specs.Laws.{not_nought, nought}
use Rattle.call_place.specs.Answers.{handed_on, is_there, holds-of}
use Rattle.call_place.specs.Steps.{place-refused, long, place-full, place-places}
use Rattle.call_place.proofs.place.Goals as goal

pub returns-in_err-begin-clause-promise : goal.returns-in_err-begin-clause-promise
returns-in_err-begin-clause-promise c =
    let p = err_from_is_err_and c.from_residual.result c.from_residual.ensures.1 in
    rw (handed_on c.in_err-begin.was (p.1 ∙ ap Err p.2)) (place-refused _ _ _ _ _ _ c.wrong_budgets-budgets.ensures refl refl c.wrong_lists-lists.ensures (c.begin.ensures refl) (not_nought c.in_err-begin.was))

pub explore-requires : goal.explore-requires
explore-requires c = long _ c.args.inputs.now _ _ c.args.table.now c.args.pool.now c.wrong_budgets-budgets.ensures refl refl c.wrong_lists-lists.ensures (c.begin.ensures refl) (nought c.in_ok-begin.was)

pub returns-in_err-explore-clause-promise : goal.returns-in_err-explore-clause-promise
returns-in_err-explore-clause-promise c =
    let p = err_from_is_err_and c.from_residual-in_err-explore.result c.from_residual-in_err-explore.ensures.1 in
    rw (handed_on c.in_err-explore.was (p.1 ∙ ap Err p.2)) (place-full _ _ _ _ _ _ c.wrong_budgets-budgets.ensures refl refl c.wrong_lists-lists.ensures (c.begin.ensures refl) (nought c.in_ok-begin.was) c.explore.ensures (not_nought c.in_err-explore.was))

pub unwrap-requires : goal.unwrap-requires
unwrap-requires c = is_there _ _ (place-places _ _ _ _ _ _ c.wrong_budgets-budgets.ensures refl refl c.wrong_lists-lists.ensures (c.begin.ensures refl) (nought c.in_ok-begin.was) c.explore.ensures (λ k. omega (arith, c.shared_slice_known-2-1.given k)) (nought c.in_ok-explore.was) _ c.locate.ensures)

pub returns-clause-promise : goal.returns-clause-promise
returns-clause-promise c = (holds-of _ c.unwrap.ensures (place-places _ _ _ _ _ _ c.wrong_budgets-budgets.ensures refl refl c.wrong_lists-lists.ensures (c.begin.ensures refl) (nought c.in_ok-begin.was) c.explore.ensures (λ k. omega (arith, c.shared_slice_known-2-1.given k)) (nought c.in_ok-explore.was) _ c.locate.ensures)).1

pub returns-clause-row : goal.returns-clause-row
returns-clause-row c = (holds-of _ c.unwrap.ensures (place-places _ _ _ _ _ _ c.wrong_budgets-budgets.ensures refl refl c.wrong_lists-lists.ensures (c.begin.ensures refl) (nought c.in_ok-begin.was) c.explore.ensures (λ k. omega (arith, c.shared_slice_known-2-1.given k)) (nought c.in_ok-explore.was) _ c.locate.ensures)).0
