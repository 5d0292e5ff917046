-- `keys::find` meets its contract. Assumes nothing.
use Rattle.std.proofs.Common.{refl}
use Rattle.gil.specs.Text.{bytes, reserved_words}
use Rattle.text_words.specs.Mirror.Keys.{key_is}
use Rattle.text_words.proofs.keys.find.Goals as goal

pub returns-clause-listed : goal.returns-clause-listed
unfolding reserved_words bytes key_is
returns-clause-listed c = refl
