-- `Fields::over` meets its contract. Assumes nothing.
use Rattle.std.proofs.Common.{ℕ, ◌≡◌, List, refl, arith, ap, ◌∙◌}
use Rattle.print_fields.specs.Mirror.{term_size, sizes_to}
use Rattle.print_fields.specs.Steps.{sizes-more, sizes-none}
use Rattle.print_fields.proofs.Fields.over.Goals as goal

pub loop-k-init : goal.loop-k-init
loop-k-init c = record { pool = refl; sizes = sizes-none _ _ }

pub loop-k-preserved : goal.loop-k-preserved
loop-k-preserved c =
    record {
      pool = c.loop-k.invariant.pool;
      sizes = sizes-more _ _ _ _ _ c.loop-k.invariant.sizes (c.term_size-size.ensures ∙ ap (λ (l : List ℕ). term_size l c.loop-k.fields.sizes c.loop-k.k) c.loop-k.invariant.pool);
    }

pub returns-clause-sizes : goal.returns-clause-sizes
returns-clause-sizes c =
    let k : c.loop-k.k ≡ c.at_most-k-end.result = omega arith in
    c.loop-k.invariant.sizes ∙ ap (sizes_to c.args.pool.now c.args.sizes) (k ∙ c.at_most-k-end.ensures.0)
