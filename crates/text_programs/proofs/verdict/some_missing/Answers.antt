-- `verdict::some_missing` meets its contract. Assumes nothing.
use Rattle.std.specs.Prelude.{ℕ, ◌≡◌, not, take, map}
use Rattle.std.specs.List.{list_any}
use Rattle.std.proofs.Common.{rules, tests, ap, ◌∙◌}
use Rattle.std.proofs.lemmas.Iterator.{YieldsList-from_slice}
use Rattle.std.proofs.lemmas.Iterator.Search.{any_from_yields_List}
use Rattle.gil.specs.Tree.{Name}
use Rattle.gil.specs.Names.{any, has}
use Rattle.text_tokens.specs.Mirror.Seen.{name_at}
use Rattle.text_names.specs.Mirror.Tables.{known}
use Rattle.text_programs.specs.Mirror.Verdict.{any_missing}
use Rattle.text_programs.specs.Steps.Verdict.{list-any, any-map}
use Rattle.text_programs.proofs.verdict.some_missing.Goals as goal

pub returns : goal.returns
unfolding any_missing known
returns c =
    let e : c.any.result ≡ list_any (λ p. not (has (name_at c.args.text.now p) (known c.args.text.now c.args.procs.now))) (take c.min-count.result c.args.calls.now.places) = any_from_yields_List (λ p. not (has (name_at c.args.text.now p) (known c.args.text.now c.args.procs.now))) _ _ c.any.result c.any.ensures.ran (YieldsList-from_slice _ c.iter.ensures.rest) (λ x b q k. search (rules, tests)) in
    e
    ∙ list-any _ (take c.min-count.result c.args.calls.now.places)
    ∙ any-map (λ (w : Name). not (has w (known c.args.text.now c.args.procs.now))) (name_at c.args.text.now) (take c.min-count.result c.args.calls.now.places)
    ∙ ap (λ (n : ℕ). any (λ (w : Name). not (has w (known c.args.text.now c.args.procs.now))) (map (name_at c.args.text.now) (take n c.args.calls.now.places))) c.min-count.ensures
