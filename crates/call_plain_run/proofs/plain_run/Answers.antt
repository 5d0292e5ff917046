-- `plain_run` meets its contract. Assumes nothing.
use Rattle.std.proofs.Common.{◌≡◌, refl, rules, arith}
use Rattle.call_given.specs.Laws.{not_nought, nought}
use Rattle.call_plain_run.specs.Steps.{plain-refused, sixteen, room, plain_runs}
use Rattle.call_plain_run.proofs.plain_run.Goals as goal

pub returns-in_err-begin : goal.returns-in_err-begin
returns-in_err-begin c =
    let same : c.from_residual.result ≡ c.begin.result = search rules in
    rw same (plain-refused _ _ _ _ c.wrong_budget-budget.ensures refl c.wrong_lists-lists.ensures (c.begin.ensures refl) (not_nought c.in_err-begin.was))

pub input_words-words-requires : goal.input_words-words-requires
input_words-words-requires c = sixteen _ _ _ c.args.answer.now c.wrong_budget-budget.ensures refl c.wrong_lists-lists.ensures (c.begin.ensures refl) (nought c.in_ok-begin.was)

pub returns : goal.returns
returns c = plain_runs _ _ _ _ c.wrong_budget-budget.ensures refl c.wrong_lists-lists.ensures (c.begin.ensures refl) (nought c.in_ok-begin.was) (λ k. omega (arith, c.shared_slice_known-2-1.given k)) c.input_words-words.ensures (c.run.ensures.answered (room _ _ _ c.args.answer.now c.wrong_budget-budget.ensures refl c.wrong_lists-lists.ensures (c.begin.ensures refl) (nought c.in_ok-begin.was)))
