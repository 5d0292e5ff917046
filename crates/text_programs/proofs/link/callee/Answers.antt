-- `link::callee` meets its contract. Assumes nothing.
use Rattle.std.specs.Prelude.{List, ℕ}
use Rattle.std.proofs.Common.{sym, ap, ◌∙◌, arith}
use Rattle.gil.specs.Names.{place_of}
use Rattle.text_tokens.specs.Mirror.Seen.{name_at}
use Rattle.text_names.specs.Mirror.Tables.{known}
use Rattle.text_programs.specs.Mirror.Linked.{callee_in}
use Rattle.text_programs.specs.Steps.Verdict.{found-place, found-within}
use Rattle.text_programs.proofs.link.callee.Goals as goal

pub overflow_cast-result : goal.overflow_cast-result
overflow_cast-result c = omega (arith, found-within _ _ _ _ c.min.result c.find_in.ensures (omega (arith, c.min.ensures)), c.unwrap_or.ensures, c.args.procs.now.few)

pub returns : goal.returns
unfolding callee_in
returns c = λ lc lk. c.unwrap_or.ensures ∙ found-place _ _ _ _ c.find_in.ensures (lk ∙ sym c.min.ensures) ∙ ap (λ (w : List ℕ). place_of w (known c.args.text.now c.args.procs.now)) (c.name-name.ensures ∙ ap (name_at c.args.text.now) (c.place_of.ensures lc))
