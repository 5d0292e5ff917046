-- `Words::procedure` meets its contract. Assumes nothing.
use Rattle.std.proofs.Common.{refl, lt-ltb, le-ltb}
use Rattle.text_forms.specs.Mirror.Stores.{put_procedure}
use Rattle.gil.specs.Numbers.{most_procedures}
use Rattle.text_forms.proofs.store.Words.procedure.Goals as goal

pub returns-then-n-lt-MOST_PROCEDURES-clause-words : goal.returns-then-n-lt-MOST_PROCEDURES-clause-words
unfolding put_procedure
returns-then-n-lt-MOST_PROCEDURES-clause-words c = rw (lt-ltb c.args.n most_procedures c.if-n-lt-MOST_PROCEDURES.true, put_procedure) (cc (c.store.ensures.words, c.store-then-n-lt-MOST_PROCEDURES.ensures.words, c.store-then-n-lt-MOST_PROCEDURES-2.ensures.words))

pub returns-else-n-lt-MOST_PROCEDURES-clause-words : goal.returns-else-n-lt-MOST_PROCEDURES-clause-words
unfolding put_procedure
returns-else-n-lt-MOST_PROCEDURES-clause-words c = rw (le-ltb c.args.n most_procedures c.if-n-lt-MOST_PROCEDURES.false, put_procedure) refl
