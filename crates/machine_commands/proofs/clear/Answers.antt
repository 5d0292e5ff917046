-- `commands::clear` meets its contract. Assumes nothing.
use Rattle.std.proofs.Common.{ℕ, ◌+◌, ◌-◌, List, sym, ap, ◌∙◌}
use Rattle.machine_commands.specs.Mirror.{zeros_in}
use Rattle.machine_commands.specs.Steps.{zeros-more, zeros-end}
use Rattle.machine_commands.proofs.clear.Goals as goal

pub loop-i-preserved : goal.loop-i-preserved
loop-i-preserved c = c.loop-i.invariant ∙ zeros-more _ _ _ c.loop-i-test.true ∙ ap (λ (s : List ℕ). zeros_in (16 - (c.loop-i.i + 1)) (c.args.base + (c.loop-i.i + 1)) s) (sym c.put.ensures)

pub returns : goal.returns
returns c = sym (c.loop-i.invariant ∙ zeros-end _ _ _ c.loop-i-test.false)
