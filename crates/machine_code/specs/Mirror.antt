-- What the functions of this crate answer, on words; and the choice by which every crate above says so. Assumes nothing.
use Rattle.std.specs.Prelude.{ℕ, Bool, true, false, List, get_or, ltb}
use Rattle.machine_code.specs.Code.{code_words}

-- a choice by a test
abbrev pub if? : {A : Type 0} → Bool → A → A → A
if? true a b = a
if? false a b = b

-- the program's words
unfoldable pub code_word : List ℕ → ℕ → ℕ
code_word code at = if? (ltb at code_words) (get_or code at 0) 0
