-- `rows::Row::write_conditions` meets its contract. Assumes nothing.
use Rattle.std.proofs.Common.{◌∙◌, sym, ap, rules, length-take, arith}
use Rattle.lent_words.specs.Mirror.{put_words}
use Rattle.table_rows.specs.Mirror.{condition_of, conditions_held}
use Rattle.table_rows.specs.Steps.{least, from_list}
use Rattle.table_rows.proofs.Row.write_conditions.Goals as goal

pub returns : goal.returns
unfolding condition_of conditions_held
returns c = c.write_pairs.ensures condition_of (λ x r h. search rules)
    ∙ ap (put_words c.args.part.now 64) (rw (least 16 _ c.min-n.ensures) (sym (from_list condition_of 0 c.args.self.now.conditions.now 0 c.min-n.result (omega (arith, length-take c.min-n.result c.args.self.now.conditions.now)))))
