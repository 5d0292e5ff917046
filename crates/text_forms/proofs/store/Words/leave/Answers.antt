-- `Words::leave` meets its contract. Assumes nothing.
use Rattle.std.proofs.Common.{refl, lt-ltb, le-ltb}
use Rattle.text_forms.specs.Mirror.Stores.{up_from}
use Rattle.machine_code.specs.Code.{code_words}
use Rattle.text_forms.proofs.store.Words.leave.Goals as goal

pub returns-then-at-lt-CODE_WORDS-clause-next : goal.returns-then-at-lt-CODE_WORDS-clause-next
unfolding up_from
returns-then-at-lt-CODE_WORDS-clause-next c = (rw (lt-ltb c.args.self.now.out code_words c.if-at-lt-CODE_WORDS.true, up_from) refl, refl)

pub returns-else-at-lt-CODE_WORDS-clause-next : goal.returns-else-at-lt-CODE_WORDS-clause-next
unfolding up_from
returns-else-at-lt-CODE_WORDS-clause-next c = (rw (le-ltb c.args.self.now.out code_words c.if-at-lt-CODE_WORDS.false, up_from) refl, refl)
