-- What `begin` answers: the first refusal of 1 to 8, or the words of the text's program. Definitions only. Assumes nothing.
use Rattle.std.specs.Prelude.{ℕ, ◌≡◌, Bool, List}
use Rattle.gil.specs.Names.{Program, refused, accepted, check_text}
use Rattle.gil.specs.Calls.{first_of}
use Rattle.machine_code.specs.Code.{program_words}

pub data Begun (budgets lists : Bool) (text code : List ℕ) : ℕ → Type 0 where
  is_refused : {n : ℕ} → first_of budgets lists (check_text text) ≡ refused n → (n ≡ 0 → ⊥) → Begun budgets lists text code n
  is_read : {p : Program} → first_of budgets lists (check_text text) ≡ accepted p → code ≡ program_words p → Begun budgets lists text code 0
