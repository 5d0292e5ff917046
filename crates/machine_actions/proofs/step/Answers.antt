-- `actions::step` meets its contract. Assumes nothing.
use Rattle.std.proofs.Common.{◌∙◌, ap, inl, inr}
use Rattle.machine_terms.specs.Laws.Engine.{known_in}
use Rattle.machine_commands.specs.declared.Command.{Command}
use Rattle.machine_commands.specs.Mirror.{After}
use Rattle.machine_actions.specs.Laws.Changed.{of_after, engine_in}
use Rattle.machine_actions.specs.Laws.Done.{lookup-is, mutate-is, dispose-is, other-is}
use Rattle.machine_actions.proofs.step.Goals as goal

pub returns-in-Lookup : goal.returns-in-Lookup
returns-in-Lookup c =
    c.act.ensures
    ∙ elim c.in-Lookup.is [
      | inl e ↦ lookup-is _ _ _ _ _ _ _ _ e
      | inr r ↦ elim r [ inl e ↦ mutate-is _ _ _ _ _ _ _ _ e | inr e ↦ dispose-is _ _ _ _ _ _ _ _ e ]
    ]
    ∙ ap (λ (m : Command). engine_in c.args.code.now c.args.c m (known_in c.args.known) c.args.memory.now c.args.store.now c.args.pool.now c.args.count.now) c.fetch-m.ensures

pub returns-in_default : goal.returns-in_default
returns-in_default c =
    ap (λ (a : After). of_after a c.args.memory.now) c.step.ensures
    ∙ other-is _ _ _ _ _ _ _ _ c.in_default.not-Lookup c.in_default.not-Mutate c.in_default.not-Dispose
    ∙ ap (λ (m : Command). engine_in c.args.code.now c.args.c m (known_in c.args.known) c.args.memory.now c.args.store.now c.args.pool.now c.args.count.now) c.fetch-m.ensures
