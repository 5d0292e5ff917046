-- `values::action` meets its contract. Assumes nothing.
use Rattle.std.proofs.Common.{refl}
use Rattle.text_values.specs.Steps.Forms.{value-lookup, value-mutate, value-dispose, value-key-plain}
use Rattle.text_values.proofs.values.action.Goals as goal

pub returns-in-Lookup-clause-read : goal.returns-in-Lookup-clause-read
returns-in-Lookup-clause-read c = λ v. value-lookup c.requires.begins v c.args.key refl c.in-Lookup.is (c.lookup_of.ensures.read v c.args.tables.now.calls)

pub returns-in-Mutate-clause-read : goal.returns-in-Mutate-clause-read
returns-in-Mutate-clause-read c = λ v. value-mutate c.requires.begins v c.args.key refl c.in-Mutate.is (c.mutate_of.ensures.read v c.args.tables.now.calls)

pub returns-in-Dispose-clause-read : goal.returns-in-Dispose-clause-read
returns-in-Dispose-clause-read c = λ v. value-dispose c.requires.begins v c.args.key refl c.in-Dispose.is (c.dispose_of.ensures.read v c.args.tables.now.props c.args.tables.now.calls)

pub returns-in_default-clause-read : goal.returns-in_default-clause-read
returns-in_default-clause-read c = λ v. value-key-plain c.requires.begins v c.args.key refl c.in_default.not-Lookup c.in_default.not-Mutate c.in_default.not-Dispose (c.plain.ensures.read v c.args.tables.now.props c.args.tables.now.calls)
