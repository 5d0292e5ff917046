-- `set_word` meets its contract. Assumes nothing.
use Rattle.std.proofs.Common.{◌∙◌, ap, ◌++◌, ◌≡◌, ◌+◌, ◌-◌, take, drop, List, ℕ, arith}
use Rattle.gil.specs.Layout.{word_bytes}
use Rattle.lent_words.specs.Steps.{pasted}
use Rattle.lent_words.proofs.set_word.Goals as goal

pub returns : goal.returns
unfolding word_bytes
returns c =
    let b = c.args.b.now in
    let at = c.args.at in
    let k = c.args.at + 4 - c.args.at in
    let e : c.copy_from_slice.new.self ≡ word_bytes c.args.x = c.copy_from_slice.ensures.after ∙ c.to_le_bytes.ensures in
    ap (λ (ys : List ℕ). take at b ++ (ys ++ drop k (drop at b))) e ∙ pasted b (word_bytes c.args.x) at k (omega arith) (omega arith)
