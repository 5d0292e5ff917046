-- `scan::past` meets its contract. Assumes nothing.
use Rattle.std.proofs.Common.{sym, ◌∙◌, arith, get_or, length, ◌≡◌}
use Rattle.std.proofs.Math.Decide.{dec_le}
use Rattle.text_tokens.specs.Steps.Scan.{span-end, span-stop, span_more}
use Rattle.text_tokens.proofs.scan.past.Goals as goal

pub returns-then-not-class : goal.returns-then-not-class
returns-then-not-class g c =
    record {
      ends = λ p t. sym (c.loop-i.invariant p t ∙ sym (span-stop p c.args.text.now c.loop-i.i c.loop-i-test.true (sym (t (get_or c.args.text.now c.loop-i.i 0) c.class.result (omega (arith, c.type_inv.text c.loop-i.i)) c.class.ensures) ∙ c.if-not-class.true)));
      within = (c.loop-i.auto.i, λ h. omega arith);
    }

pub loop-i-preserved : goal.loop-i-preserved
loop-i-preserved g c = λ p t. c.loop-i.invariant p t ∙ span_more p c.args.text.now c.loop-i.i c.loop-i-test.true (sym (t (get_or c.args.text.now c.loop-i.i 0) c.class.result (omega (arith, c.type_inv.text c.loop-i.i)) c.class.ensures) ∙ c.if-not-class.false)

pub returns : goal.returns
returns g c =
    record {
      ends = λ p t. elim (dec_le c.args.at (length c.args.text.now)) [
        | yes h ↦ (let e : c.max.result ≡ c.loop-i.i = omega arith in e ∙ span-end p c.args.text.now c.loop-i.i c.loop-i-test.false ∙ sym (c.loop-i.invariant p t))
        | no h ↦ (let e : c.max.result ≡ c.args.at = omega arith in e ∙ span-end p c.args.text.now c.args.at (omega arith))
      ];
      within = (omega arith, λ h. omega arith);
    }
