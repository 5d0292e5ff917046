-- `verdict::verdict` meets its contract. Assumes nothing.
use Rattle.std.proofs.Common.{sym, ◌∙◌}
use Rattle.gil.specs.Names.{gather, proc_names}
use Rattle.text_procedures.specs.Mirror.Procedures.{calls_of}
use Rattle.text_programs.specs.Steps.Verdict.{few, procs-count, answer_5, answer_6, answer_7, answer_8, answer_0}
use Rattle.text_programs.proofs.verdict.verdict.Goals as goal

pub returns-then-over_limits : goal.returns-then-over_limits
returns-then-over_limits c = λ ps n t. answer_5 ps n t (sym c.over_limits.ensures ∙ c.if-over_limits.true)

pub returns-then-wrong_names : goal.returns-then-wrong_names
returns-then-wrong_names c = λ ps n t. answer_6 ps n t (sym c.over_limits.ensures ∙ c.if-over_limits.false) (sym (c.wrong_names.ensures (proc_names ps) (gather calls_of ps) t.names t.calls (procs-count ps n t) (few ps n t (sym c.over_limits.ensures ∙ c.if-over_limits.false))) ∙ c.if-wrong_names.true)

pub returns-then-t : goal.returns-then-t
returns-then-t c = λ ps n t. answer_7 ps n t (sym c.over_limits.ensures ∙ c.if-over_limits.false) (sym (c.wrong_names.ensures (proc_names ps) (gather calls_of ps) t.names t.calls (procs-count ps n t) (few ps n t (sym c.over_limits.ensures ∙ c.if-over_limits.false))) ∙ c.if-wrong_names.false) c.if-t.true

pub returns-then-t-2 : goal.returns-then-t-2
returns-then-t-2 c = λ ps n t. answer_8 ps n t (sym c.over_limits.ensures ∙ c.if-over_limits.false) (sym (c.wrong_names.ensures (proc_names ps) (gather calls_of ps) t.names t.calls (procs-count ps n t) (few ps n t (sym c.over_limits.ensures ∙ c.if-over_limits.false))) ∙ c.if-wrong_names.false) c.if-t.false c.if-t-2.true

pub returns : goal.returns
returns c = λ ps n t. answer_0 ps n t (sym c.over_limits.ensures ∙ c.if-over_limits.false) (sym (c.wrong_names.ensures (proc_names ps) (gather calls_of ps) t.names t.calls (procs-count ps n t) (few ps n t (sym c.over_limits.ensures ∙ c.if-over_limits.false))) ∙ c.if-wrong_names.false) c.if-t.false c.if-t-2.false
