-- What is returned to C of a row that was found, or of a refusal; and what the proof of `place` cites of such results. Assumes nothing.
use Rattle.std.specs.Prelude.{ℕ, ◌+◌, ◌≡◌, refl, Result, Ok, Err, Option, None, Some, IsSome, IsSomeAnd}
use Rattle.std.proofs.Common.{sym, ap, ◌∙◌, subst}
use Rattle.gil.specs.Numbers.{first_row}
use Rattle.gil.specs.Refusals.{refusal_number, answer_of}
use Rattle.gil.specs.declared.refusals.Refusal.{Refusal}

abbrev pub row_answer : Result ℕ Refusal → ℕ
row_answer (Ok row) = first_row + row
row_answer (Err refusal) = refusal_number refusal

-- a refusal that is handed on has its number
pub handed_on : {r : Result (Unit {0}) Refusal} {q : Result ℕ Refusal} {e : Refusal} → r ≡ Err e → q ≡ Err e → row_answer q ≡ answer_of r
handed_on h g = ap row_answer g ∙ sym (ap answer_of h)

-- what holds of the value that is there
pub is_there : (P : ℕ → Type 0) (o : Option ℕ) → IsSomeAnd o P → IsSome o
is_there P None h = absurd h
is_there P (Some k) h = refl

pub holds-of : (P : ℕ → Type 0) {o : Option ℕ} {k : ℕ} → o ≡ Some k → IsSomeAnd o P → P k
holds-of P e h = subst (λ (o : Option ℕ). IsSomeAnd o P) e h
