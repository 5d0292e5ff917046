-- What `ask` goes by: an evaluation that errs, and one that gives a value. Assumes nothing.
use Rattle.std.specs.Prelude.{ℕ, ◌≡◌, List, Result, Ok, Err}
use Rattle.std.proofs.Common.{ap}
use Rattle.gil.specs.declared.errors.Error.{Error}
use Rattle.machine_terms.specs.Mirror.{Did, did}
use Rattle.machine_cells.specs.declared.Ask.{Ask}
use Rattle.machine_actions.specs.Mirror.{on_word}

pub same-asks : {a b : Result Ask Error} {p : List ℕ} {n : ℕ} → a ≡ b → did a p n ≡ did b p n
same-asks {a} {b} {p} {n} e = ap (λ (x : Result Ask Error). did x p n) e

pub word-errs : {z : Error} {n : ℕ} {p : List ℕ} {a : Result Ask Error} {D : Did (Result ℕ Error)} (f : ℕ → List ℕ → ℕ → Did (Result Ask Error))
    → did (Err z) p n ≡ D
    → a ≡ Err z
    → did a p n ≡ on_word D f
unfolding on_word
word-errs {n = n} {p = p} f e k = rw (← e) (same-asks k)

pub word-gives : {x n : ℕ} {p : List ℕ} {k : Did (Result Ask Error)} {D : Did (Result ℕ Error)} (f : ℕ → List ℕ → ℕ → Did (Result Ask Error))
    → did (Ok x) p n ≡ D
    → k ≡ f x p n
    → k ≡ on_word D f
unfolding on_word
word-gives f e k = rw (← e) k
