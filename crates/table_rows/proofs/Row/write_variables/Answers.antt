-- `rows::Row::write_variables` meets its contract. Assumes nothing.
use Rattle.std.proofs.Common.{◌∙◌, ◌+◌, ◌*◌, ◌-◌, ◌≡◌, sym, ap, rules, lt-ltb, le-ltb, add-zero, arith}
use Rattle.lent_words.specs.Mirror.{put_words}
use Rattle.table_rows.specs.Mirror.{value_of, variables_held}
use Rattle.table_rows.specs.Steps.{least, from_frame}
use Rattle.table_rows.proofs.Row.write_variables.Goals as goal

pub returns-then-self-ge-MOST_FRAMES : goal.returns-then-self-ge-MOST_FRAMES
unfolding variables_held put_words
returns-then-self-ge-MOST_FRAMES c = simp (le-ltb _ _ c.if-self-ge-MOST_FRAMES.true)

pub returns : goal.returns
unfolding value_of variables_held
returns c =
    let n : 19 * c.args.self.now.frame + c.min-n.result - 19 * c.args.self.now.frame ≡ c.min-n.result = omega arith in
    c.write_pairs.ensures value_of (λ x r h. search rules)
    ∙ ap (put_words c.args.part.now 192) (simp (lt-ltb _ _ c.if-self-ge-MOST_FRAMES.false) (rw (least 16 _ c.min-n.ensures, n) (sym (rw add-zero at (from_frame value_of c.args.self.now.store.now (19 * c.args.self.now.frame) 0 c.min-n.result (omega (arith, c.type_inv.self)))))))
