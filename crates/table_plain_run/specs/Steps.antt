-- What `run`'s own proof cites: what the code leaves is the answer. Assumes nothing.
use Rattle.std.specs.Prelude.{ℕ, ◌-◌, ◌≤◌, ◌≡◌, map, Some, List, [], ◌∷◌, ◌++◌, length, take, drop, replicate}
use Rattle.std.proofs.Common.{◌∙◌, ap, ap₂, length-take-le}
use Rattle.std.proofs.Math.Nat.{sub-zero}
use Rattle.gil.specs.Numbers.{most_branches, answer_length}
use Rattle.gil.specs.Machine as Machine
use Rattle.machine_cells.specs.declared.Cell.{Cell}
use Rattle.machine_cells.specs.Mirror.{cell_of}
use Rattle.machine_commands.specs.declared.Control.{Control}
use Rattle.machine_commands.specs.Mirror.{start_in, start_store}
use Rattle.table_rows.specs.declared.Head.{Head}
use Rattle.table_advance.specs.declared.Stop.{Stop}
use Rattle.table_head.specs.Mirror.{ended_in, head_in}
use Rattle.table_advance.specs.Mirror.Followed.{spot, Stopped, stopped, follow_in, one_in}
use Rattle.table_rows.specs.Mirror.{with_row}
use Rattle.table_plain_run.specs.Mirror.{run_in, Answered}

pub answers : (code inputs : List ℕ) (budget : ℕ) (answer : List ℕ) (f : Stop) {z left store₀ store pool : List ℕ} {none ds : List (Machine.Cell ℕ)} (cells : List Cell) {count : ℕ} {c : Control} {h : Head}
    → answer_length ≤ length answer
    → z ≡ replicate (length (take answer_length answer)) 0
    → c ≡ start_in code
    → store₀ ≡ start_store
    → none ≡ []
    → stopped f store ds pool count ≡ follow_in (one_in code (Some inputs)) (budget - 0) 0 (spot c store₀ none (0 ∷ []) 0)
    → map cell_of cells ≡ ds
    → h ≡ head_in code (ended_in f.next f.steps) f.control 0
    → left ≡ with_row (z ++ drop answer_length answer) h (replicate most_branches 0) store f.control.frame cells
    → Answered code inputs budget answer left
unfolding run_in
answers code inputs budget answer f {z} {left} {store₀} {store} {pool} {none} {ds} cells {count} {c} {h} long ez ec es en e same eh ew =
    let r : stopped f store ds pool count ≡ run_in code inputs budget = e ∙ rw (ec, es, en, sub-zero) in
    let zs : z ≡ replicate answer_length 0 = ez ∙ ap (λ (n : ℕ). replicate n 0) (length-take-le answer_length answer long) in
    record {
      cells = cells;
      in_use = same ∙ ap (λ (x : Stopped). x.cells) r;
      written =
          ew
          ∙ ap₂ (λ (l : List ℕ) (k : Head). with_row (l ++ drop answer_length answer) k (replicate most_branches 0) store f.control.frame cells) zs eh
          ∙ ap (λ (x : Stopped).
          with_row (replicate answer_length 0 ++ drop answer_length answer) (head_in code (ended_in x.next x.steps) x.control 0)
          (replicate most_branches 0) x.store x.control.frame cells) r;
    }
