-- `word_at` meets its contract. Assumes nothing.
use Rattle.std.proofs.Common.{sym, ◌∙◌, ◌+◌, ◌≤◌, length, arith}
use Rattle.lent_words.specs.Steps.{word_at-out}
use Rattle.lent_words.specs.Laws.Words.{word_at_in}
use Rattle.lent_words.proofs.word_at.Goals as goal

pub returns-then-saturating_add-b : goal.returns-then-saturating_add-b
returns-then-saturating_add-b c = sym (word_at-out _ _ (omega (arith, c.saturating_add.ensures)))

pub returns : goal.returns
returns c =
    let h : c.args.at + 4 ≤ length c.args.b.now = omega (arith, c.saturating_add.ensures) in
    c.from_le_bytes.ensures ∙ simp (word_at_in c.args.b.now c.args.at h) (omega arith)
