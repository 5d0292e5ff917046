-- Things printed in a row, as conditions are here and rows in crates/print_lines: one more of them. Assumes nothing.
use Rattle.std.specs.Prelude.{ℕ, zero, suc, ◌+◌, ◌-◌, ◌≤◌, ◌≡◌, List, ◌++◌}
use Rattle.std.proofs.Common.{arith, add-one, sym, ◌∙◌, ap, append_assoc, append-nil}
use Rattle.print_writing.specs.declared.Page.{Page}
use Rattle.print_writing.specs.Mirror.{Writes}
use Rattle.print_writing.specs.Laws.{write_on, writes_as, write_none}
use Rattle.print_parts.specs.Mirror.{runs}

runs_snoc : (f : ℕ → List ℕ) (i n : ℕ) → runs f i (suc n) ≡ runs f i n ++ f (i + n)
unfolding runs
runs_snoc f i zero = let e : i ≡ i + 0 = omega arith in append-nil (f i) ∙ ap f e
runs_snoc f i (suc n) =
    let e : suc i + n ≡ i + suc n = omega arith in
    ap (λ (l : List ℕ). f i ++ l) (runs_snoc f (suc i) n)
    ∙ sym (append_assoc (f i) (runs f (suc i) n) (f (suc i + n)))
    ∙ ap (λ (k : ℕ). (f i ++ runs f (suc i) n) ++ f k) e

pub runs-more :
    (f : ℕ → List ℕ) (i n : ℕ) {p q r : Page} → Writes p (runs f i n) q → Writes q (f (i + n)) r → Writes p (runs f i (n + 1)) r
runs-more f i n v w = writes_as (sym (ap (runs f i) (add-one n) ∙ runs_snoc f i n)) (write_on v w)

pub rows_more : (f : ℕ → List ℕ) (n : ℕ) {p q r : Page} → Writes p (runs f 0 n) q → Writes q (f n) r → Writes p (runs f 0 (n + 1)) r
rows_more f n v w = let e : n ≡ 0 + n = omega arith in runs-more f 0 n v (writes_as (ap f e) w)

-- the same of things after the first, up to thing `i`
pub further_more :
    (f : ℕ → List ℕ) (i : ℕ) {p q r : Page} → 1 ≤ i → Writes p (runs f 1 (i - 1)) q → Writes q (f i) r → Writes p (runs f 1 (i + 1 - 1)) r
further_more f i h v w =
    let e : i ≡ 1 + (i - 1) = omega arith in
    let g : i - 1 + 1 ≡ i + 1 - 1 = omega arith in
    writes_as (ap (runs f 1) g) (runs-more f 1 (i - 1) v (writes_as (ap f e) w))

pub runs_none : (f : ℕ → List ℕ) (i : ℕ) (p : Page) → Writes p (runs f i 0) p
unfolding runs
runs_none f i p = write_none p
