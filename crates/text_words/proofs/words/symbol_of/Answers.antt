-- `words::symbol_of` meets its contract. Assumes nothing.
use Rattle.std.proofs.Common.{sym, ◌∙◌, ap}
use Rattle.std.specs.Prelude.{Some, None}
use Rattle.gil.specs.Text.{bytes, u_sym_prefix, i_sym_prefix}
use Rattle.text_words.specs.Mirror.Words.{said}
use Rattle.text_words.specs.Steps.Words.{symbol-u, symbol-i, symbol-name, with_number}
use Rattle.text_words.proofs.words.symbol_of.Goals as goal

pub returns-in_err-decimal : goal.returns-in_err-decimal
unfolding u_sym_prefix bytes with_number
returns-in_err-decimal c = symbol-u c.args.run.now c.in-Some.digits.now None c.in-Some.ensures.cases.0 c.in-Some.ensures.cases.1 c.in_err-decimal.ensures ∙ ap (said c.args.run.now) (sym c.from_residual.ensures)

pub returns-in-Some : goal.returns-in-Some
unfolding u_sym_prefix bytes with_number
returns-in-Some c = symbol-u c.args.run.now c.in-Some.digits.now (Some c.in_ok-decimal.field-0) c.in-Some.ensures.cases.0 c.in-Some.ensures.cases.1 c.in_ok-decimal.ensures

pub returns-in_err-decimal-2 : goal.returns-in_err-decimal-2
unfolding u_sym_prefix i_sym_prefix bytes with_number
returns-in_err-decimal-2 c = symbol-i c.args.run.now c.in-Some-strip_prefix.digits.now None c.in_default.ensures.cases c.in-Some-strip_prefix.ensures.cases.0 c.in-Some-strip_prefix.ensures.cases.1 c.in_err-decimal-2.ensures ∙ ap (said c.args.run.now) (sym c.from_residual-in_err-decimal-2.ensures)

pub returns-in-Some-strip_prefix : goal.returns-in-Some-strip_prefix
unfolding u_sym_prefix i_sym_prefix bytes with_number
returns-in-Some-strip_prefix c = symbol-i c.args.run.now c.in-Some-strip_prefix.digits.now (Some c.in_ok-decimal-2.field-0) c.in_default.ensures.cases c.in-Some-strip_prefix.ensures.cases.0 c.in-Some-strip_prefix.ensures.cases.1 c.in_ok-decimal-2.ensures

pub returns : goal.returns
unfolding u_sym_prefix i_sym_prefix bytes
returns c = symbol-name c.args.run.now c.in_default.ensures.cases c.in_default-strip_prefix.ensures.cases
