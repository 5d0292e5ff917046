-- `Words::store` meets its contract. Assumes nothing.
use Rattle.std.proofs.Common.{refl, lt-ltb, le-ltb}
use Rattle.text_forms.specs.Mirror.Stores.{put}
use Rattle.machine_code.specs.Code.{code_words}
use Rattle.text_forms.proofs.store.Words.store.Goals as goal

pub returns-then-at-lt-CODE_WORDS-clause-words : goal.returns-then-at-lt-CODE_WORDS-clause-words
unfolding put
returns-then-at-lt-CODE_WORDS-clause-words c = rw (lt-ltb c.args.at code_words c.if-at-lt-CODE_WORDS.true, put) refl

pub returns-else-at-lt-CODE_WORDS-clause-words : goal.returns-else-at-lt-CODE_WORDS-clause-words
unfolding put
returns-else-at-lt-CODE_WORDS-clause-words c = rw (le-ltb c.args.at code_words c.if-at-lt-CODE_WORDS.false, put) refl
