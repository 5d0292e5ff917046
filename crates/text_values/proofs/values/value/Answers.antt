-- `values::value` meets its contract. Assumes nothing.
use Rattle.text_values.specs.Steps.Forms.{value-named, value-u-site, value-i-site, value-plain}
use Rattle.text_values.specs.Steps.Effects.{sets_u, sets_i}
use Rattle.text_values.proofs.values.value.Goals as goal

pub returns-in-Name-clause-read : goal.returns-in-Name-clause-read
returns-in-Name-clause-read c = λ v. value-named c.token-t.ensures v _ c.in-Name.is (c.named_form.ensures.read v c.args.tables.now.props)

pub returns-in-USite-clause-read : goal.returns-in-USite-clause-read
returns-in-USite-clause-read c = λ v. value-u-site c.token-t.ensures v _ c.in-USite.site c.in-USite.is (rw (c.symbol.ensures.0, c.symbol.ensures.1, c.symbol.ensures.2, c.symbol.ensures.3) sets_u)

pub returns-in-ISite-clause-read : goal.returns-in-ISite-clause-read
returns-in-ISite-clause-read c = λ v. value-i-site c.token-t.ensures v _ c.in-ISite.site c.in-ISite.is (rw (c.symbol-in-ISite.ensures.0, c.symbol-in-ISite.ensures.1, c.symbol-in-ISite.ensures.2, c.symbol-in-ISite.ensures.3) sets_i)

pub returns-in_default-clause-read : goal.returns-in_default-clause-read
returns-in_default-clause-read c = λ v. value-plain c.token-t.ensures v c.in_default.not-Name c.in_default.not-Reserved c.in_default.not-USite c.in_default.not-ISite (c.plain.ensures.read v c.args.tables.now.props c.args.tables.now.calls)
