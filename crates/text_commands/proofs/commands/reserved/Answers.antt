-- `commands::reserved` meets its contract. Assumes nothing.
use Rattle.std.proofs.Common.{refl}
use Rattle.gil.specs.Tree.{return, fail}
use Rattle.text_commands.specs.Mirror.{returning, failing}
use Rattle.text_commands.specs.Steps.Commands.{bare-jump, bare-return, bare-fail, bare-vanish, bare-key-none}
use Rattle.text_commands.proofs.commands.reserved.Goals as goal

pub returns-in-Ifgoto-clause-read : goal.returns-in-Ifgoto-clause-read
returns-in-Ifgoto-clause-read c = bare-jump c.requires.begins c.args.key refl c.in-Ifgoto.is (c.jumping.ensures.read c.args.tables.now.props c.args.tables.now.calls)

pub returns-in-Return-clause-read : goal.returns-in-Return-clause-read
returns-in-Return-clause-read c = bare-return c.requires.begins c.args.key refl c.in-Return.is (c.ending.ensures.read return c.args.tables.now.props c.args.tables.now.calls returning)

pub returns-in-Fail-clause-read : goal.returns-in-Fail-clause-read
returns-in-Fail-clause-read c = bare-fail c.requires.begins c.args.key refl c.in-Fail.is (c.ending-in-Fail.ensures.read fail c.args.tables.now.props c.args.tables.now.calls failing)

pub returns-in-Vanish-clause-read : goal.returns-in-Vanish-clause-read
returns-in-Vanish-clause-read c = bare-vanish c.requires.begins _ c.args.key refl c.in-Vanish.is (c.vanishing.ensures.done c.args.text.now c.args.tables.now.vars c.args.tables.now.props c.args.tables.now.calls)

pub returns-in_default-clause-read : goal.returns-in_default-clause-read
returns-in_default-clause-read c = bare-key-none c.requires.begins c.args.key refl c.in_default.not-Ifgoto c.in_default.not-Return c.in_default.not-Fail c.in_default.not-Vanish
