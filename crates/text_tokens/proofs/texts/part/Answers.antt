-- `texts::part` meets its contract: the part that lies in the bytes is all of it. Assumes nothing.
use Rattle.text_tokens.specs.Steps.Names.{part-is}
use Rattle.text_tokens.proofs.texts.part.Goals as goal

pub returns : goal.returns
returns c = part-is c.args.bytes.now c.args.start c.args.size c.min.result c.min-2.result c.min.ensures c.min-2.ensures
