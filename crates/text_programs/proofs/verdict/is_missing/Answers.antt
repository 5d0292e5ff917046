-- `verdict::is_missing` meets its contract. Assumes nothing.
use Rattle.std.specs.Prelude.{List, ℕ, not}
use Rattle.std.proofs.Common.{ap, ◌∙◌}
use Rattle.gil.specs.Names.{has}
use Rattle.text_names.specs.Mirror.Tables.{known}
use Rattle.text_programs.specs.Steps.Verdict.{found-none}
use Rattle.text_programs.proofs.verdict.is_missing.Goals as goal

pub returns : goal.returns
returns c = found-none _ _ _ _ c.is_none.ensures c.find.ensures ∙ ap (λ (w : List ℕ). not (has w (known c.args.text.now c.args.procs.now))) c.name.ensures
