-- `verdict::wrong_names` meets its contract. Assumes nothing.
use Rattle.std.proofs.Common.{sym, ◌∙◌}
use Rattle.gil.specs.Text.{bytes}
use Rattle.text_programs.specs.Steps.Verdict.{names-repeated, calls-over, lost-few, names_missing, names-main}
use Rattle.text_programs.proofs.verdict.wrong_names.Goals as goal

pub returns-then-procs-count : goal.returns-then-procs-count
returns-then-procs-count c = λ ns fs kq kk ec low. names-repeated c.args.text.now c.args.procs.now c.args.calls.now ns fs kq kk c.args.count ec low c.if-procs-count.true

pub returns-then-is_over : goal.returns-then-is_over
returns-then-is_over c = λ ns fs kq kk ec low. calls-over c.args.text.now c.args.procs.now c.args.calls.now ns fs kq kk c.args.count ec low c.if-procs-count.false (sym c.is_over.ensures ∙ c.if-is_over.true)

pub returns-then-some_missing : goal.returns-then-some_missing
returns-then-some_missing c = λ ns fs kq kk ec low. names_missing c.args.text.now c.args.procs.now c.args.calls.now ns fs kq kk c.args.count ec low c.if-procs-count.false (lost-few c.args.text.now c.args.procs.now c.args.calls.now ns fs kq kk c.args.count ec low c.if-procs-count.false (sym c.is_over.ensures ∙ c.if-is_over.false) ∙ sym c.some_missing.ensures ∙ c.if-some_missing.true)

pub returns : goal.returns
unfolding bytes
returns c = λ ns fs kq kk ec low. names-main c.args.text.now c.args.procs.now c.args.calls.now ns fs kq kk c.args.count ec low c.if-procs-count.false c.find.result c.is_none.result c.is_none.ensures (lost-few c.args.text.now c.args.procs.now c.args.calls.now ns fs kq kk c.args.count ec low c.if-procs-count.false (sym c.is_over.ensures ∙ c.if-is_over.false) ∙ sym c.some_missing.ensures ∙ c.if-some_missing.false) c.find.ensures
