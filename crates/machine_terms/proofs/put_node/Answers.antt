-- `terms::put_node` meets its contract. Assumes nothing.
use Rattle.machine_terms.specs.Steps.Stores.{five-words}
use Rattle.machine_terms.proofs.put_node.Goals as goal

pub returns : goal.returns
returns c = five-words _ _ _ _ _ _ _ _ _ _ c.set_word.ensures (rw c.tag.ensures at c.set_word-2.ensures) (rw c.word.ensures at c.set_word-3.ensures) (rw c.tag-2.ensures at c.set_word-4.ensures) (rw c.word-2.ensures at c.set_word-5.ensures)
