-- On a well-formed program's words, what `run` leaves is document 01's plain run. Assumes nothing.
use Rattle.std.specs.Prelude.{ℕ, ◌<◌, ◌≤◌, ◌≡◌, refl, List, [], ◌∷◌, ◌++◌, get_or, drop, replicate}
use Rattle.std.proofs.Common.{◌∙◌, ap, arith, take_at, drop_at}
use Rattle.std.proofs.lemmas.List.{length-replicate}
use Rattle.gil.specs.Numbers.{most_steps, most_branches, answer_length}
use Rattle.gil.specs.Names.{Program}
use Rattle.gil.specs.Plain.{plain_run}
use Rattle.gil.specs.Layout.{answer_bytes}
use Rattle.machine_code.specs.Code.{program_words}
use Rattle.machine_code.specs.WellFormed.{WellFormed}
use Rattle.table_path.specs.Laws.Plain.{plain-answer}
use Rattle.table_plain_run.specs.Mirror.{run_in, Answered}

pub run-leaves : (p : Program) → WellFormed p → (inputs : List ℕ) → ((i : ℕ) → get_or inputs i 0 < 4294967296) → (budget : ℕ) → budget ≤ most_steps
    → {answer left : List ℕ}
    → Answered (program_words p) inputs budget answer left
    → left ≡ answer_bytes (plain_run p inputs budget) ++ drop answer_length answer
unfolding run_in
run-leaves p ok inputs fits budget small {answer} a =
    let zeros : List ℕ = replicate answer_length 0 in
    a.written
    ∙ plain-answer inputs fits p ok (0 ∷ []) 0 (omega arith) budget small (replicate most_branches 0) a.cells refl a.in_use
    (zeros ++ drop answer_length answer) (take_at zeros (drop answer_length answer) answer_length (length-replicate {A = ℕ} answer_length 0))
    ∙ ap (λ (l : List ℕ). answer_bytes (plain_run p inputs budget) ++ l)
    (drop_at zeros (drop answer_length answer) answer_length (length-replicate {A = ℕ} answer_length 0))
