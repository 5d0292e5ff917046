-- `words::identifier_of` meets its contract. Assumes nothing.
use Rattle.text_words.specs.Steps.Words.{identifier-long, identifier-key, identifier-other}
use Rattle.text_words.proofs.words.identifier_of.Goals as goal

pub returns-then-run-gt-MOST_CHARACTERS : goal.returns-then-run-gt-MOST_CHARACTERS
returns-then-run-gt-MOST_CHARACTERS c = identifier-long c.args.run.now c.if-run-gt-MOST_CHARACTERS.true

pub returns-in-Some : goal.returns-in-Some
returns-in-Some c = identifier-key c.args.run.now c.in-Some.key c.if-run-gt-MOST_CHARACTERS.false c.in-Some.ensures.found

pub returns : goal.returns
returns c = identifier-other c.args.run.now c.symbol_of.result c.if-run-gt-MOST_CHARACTERS.false c.in_default.ensures.found c.symbol_of.ensures
