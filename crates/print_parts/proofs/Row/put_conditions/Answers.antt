-- `Row::put_conditions` meets its contract. Assumes nothing.
use Rattle.std.proofs.Common.{◌≡◌, eq-eqb, ne_eqb, arith}
use Rattle.gil.specs.Text.{bytes}
use Rattle.print_writing.specs.Laws.{write_on}
use Rattle.print_parts.specs.Laws.{further_more, runs_none}
use Rattle.print_parts.specs.Mirror.{further_form, conditions_form}
use Rattle.print_parts.proofs.Row.put_conditions.Goals as goal

pub returns-then-n-eq0 : goal.returns-then-n-eq0
unfolding conditions_form bytes
returns-then-n-eq0 c = rw (← c.word.ensures, ← c.at_most-n.ensures.0) (simp (eq-eqb _ _ c.if-n-eq0.true) c.put_all.ensures)

pub loop-i-init : goal.loop-i-init
loop-i-init c = runs_none _ _ _

pub loop-i-preserved : goal.loop-i-preserved
unfolding further_form bytes
loop-i-preserved c =
    further_more
    (further_form c.args.self.now.table.now c.args.self.now.fields.now.pool.now c.args.self.now.fields.now.sizes c.args.self.now.number)
    c.loop-i.i
    c.loop-i.auto.i
    c.loop-i.invariant
    (write_on c.put_all-in-loop-i.ensures c.put_condition-in-loop-i.ensures)

pub returns : goal.returns
unfolding conditions_form
returns c =
    let last : c.loop-i.i ≡ c.at_most-n.result = omega arith in
    rw (← c.word.ensures, ← c.at_most-n.ensures.0, ← last)
    (simp (ne_eqb c.loop-i.i 0 (λ (e : c.loop-i.i ≡ 0). omega arith)) (write_on c.put_condition.ensures c.loop-i.invariant))
