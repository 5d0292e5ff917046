-- `words::word_of` meets its contract. Assumes nothing.
use Rattle.std.proofs.Common.{sym, ◌∙◌, ap, length, eqb-true}
use Rattle.std.specs.Prelude.{Some, None}
use Rattle.std.proofs.lemmas.Bool.{eqb-false}
use Rattle.text_words.specs.Mirror.Words.{said}
use Rattle.text_words.specs.Steps.Words.{word-none, word-letter, word-number, with_number}
use Rattle.text_words.proofs.words.word_of.Goals as goal

pub returns-then-is_empty : goal.returns-then-is_empty
returns-then-is_empty c = word-none c.args.run.now (eqb-true (length c.args.run.now) 0 (sym c.is_empty.ensures ∙ c.if-is_empty.true))

pub returns-then-is_letter : goal.returns-then-is_letter
returns-then-is_letter c = word-letter c.args.run.now c.identifier_of.result (eqb-false (length c.args.run.now) 0 (sym c.is_empty.ensures ∙ c.if-is_empty.false)) (sym c.is_letter.ensures ∙ c.if-is_letter.true) c.identifier_of.ensures

pub returns-in_err-decimal : goal.returns-in_err-decimal
unfolding with_number
returns-in_err-decimal c = word-number c.args.run.now None (eqb-false (length c.args.run.now) 0 (sym c.is_empty.ensures ∙ c.if-is_empty.false)) (sym c.is_letter.ensures ∙ c.if-is_letter.false) c.in_err-decimal.ensures ∙ ap (said c.args.run.now) (sym c.from_residual.ensures)

pub returns : goal.returns
unfolding with_number
returns c = word-number c.args.run.now (Some c.in_ok-decimal.field-0) (eqb-false (length c.args.run.now) 0 (sym c.is_empty.ensures ∙ c.if-is_empty.false)) (sym c.is_letter.ensures ∙ c.if-is_letter.false) c.in_ok-decimal.ensures
