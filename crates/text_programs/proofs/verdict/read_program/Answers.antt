-- `verdict::read_program` meets its contract. Assumes nothing.
use Rattle.std.proofs.Common.{refl, arith}
use Rattle.std.proofs.lemmas.Result.{err_from_is_err_and}
use Rattle.text_forms.specs.Laws.Goes.{was_read, was_fault}
use Rattle.text_programs.specs.Steps.Verdict.{answer_3}
use Rattle.text_programs.specs.Steps.Reads.{reads-refused, reads-fault, reads-told, reads_all, refused, at_text, at_bytes}
use Rattle.text_programs.proofs.verdict.read_program.Goals as goal

pub returns-in_default : goal.returns-in_default
returns-in_default c = λ ec en. reads-refused (answer_3 c.args.text.now c.in_default.ensures) (λ z. omega (arith, z))

pub returns-in_default-procedures : goal.returns-in_default-procedures
returns-in_default-procedures c = λ ec en. at_text c.in-Some.ensures.0 c.in-Some.ensures.1 (reads-fault (was_fault c.in_default-procedures.ensures))

pub returns-in_err-verdict : goal.returns-in_err-verdict
returns-in_err-verdict c = λ ec en.
    let w = was_read c.in-Some-procedures.ensures in
    let p = err_from_is_err_and c.from_residual.result c.from_residual.ensures.1 in
    rw (p.1, p.2) (at_text c.in-Some.ensures.0 c.in-Some.ensures.1 (λ short. reads-told ec (c.new-3.ensures c.in-Some.text) (c.new-4.ensures c.in-Some.text) (at_bytes c.in-Some.ensures.0 en) w.is w.has short (λ ps n t. c.in_err-verdict.ensures ps n t) (refused c.in_err-verdict.field-0.0)))

pub returns : goal.returns
returns c = λ ec en.
    let w = was_read c.in-Some-procedures.ensures in
    at_text c.in-Some.ensures.0 c.in-Some.ensures.1 (λ short. reads_all ec (c.new-3.ensures c.in-Some.text) (c.new-4.ensures c.in-Some.text) (at_bytes c.in-Some.ensures.0 en) w.is w.has short (λ ps n t. c.in_ok-verdict.ensures ps n t) refl c.finish.ensures)
