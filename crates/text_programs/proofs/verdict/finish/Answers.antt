-- `verdict::finish` meets its contract. Assumes nothing.
use Rattle.std.specs.Prelude.{◌≡◌, min, length}
use Rattle.std.proofs.Common.{◌∙◌, arith}
use Rattle.gil.specs.Text.{bytes}
use Rattle.text_names.specs.Mirror.Tables.{known}
use Rattle.text_names.specs.Steps.Tables.{known-within}
use Rattle.text_programs.specs.Steps.Reads.{finishes}
use Rattle.text_programs.specs.Steps.Verdict.{found-place, found-few}
use Rattle.text_programs.proofs.verdict.finish.Goals as goal

pub overflow_cast-code-2 : goal.overflow_cast-code-2
overflow_cast-code-2 c = omega (arith, found-few _ _ _ _ c.find.ensures, c.unwrap_or.ensures, c.args.procs.now.few, c.args.procs.now.fits)

pub returns : goal.returns
unfolding bytes
returns c = λ lc lk most.
    let k : length (known c.args.text.now c.args.procs.now) ≡ min c.args.procs.now.count c.args.procs.now.most = omega (arith, lk, known-within c.args.text.now c.args.procs.now) in
    finishes ((rw c.bytes.ensures.0 at c.link.ensures) lc k) (c.unwrap_or.ensures ∙ found-place _ _ _ _ c.find.ensures lk)
