-- What each function of this crate writes, on any bytes of table and pool at all: an outcome with its value, and a row's conditions.
-- crates/print_laws shows that for the bytes of a table and its pool this is document 01's printed form. Assumes nothing.
use Rattle.std.specs.Prelude.{ℕ, zero, suc, ◌+◌, ◌*◌, ◌-◌, List, [], ◌++◌, eqb}
use Rattle.gil.specs.Numbers.{heading_length, row_length, head_room, as_returned, as_failed, as_vanished, as_error, for_steps, boolean_term_tag}
use Rattle.gil.specs.Text.{bytes}
use Rattle.gil.specs.Printed.{decimal}
use Rattle.lent_words.specs.Mirror.{word_at}
use Rattle.machine_code.specs.Mirror.{if?}
use Rattle.print_fields.specs.Mirror.{field_form}

-- the texts of `n` things in a row, from thing `i` on
unfoldable pub runs : (ℕ → List ℕ) → (i n : ℕ) → List ℕ
runs f i zero = []
runs f i (suc n) = f i ++ runs f (suc i) n

unfoldable pub cut_form : ℕ → List ℕ
cut_form x = if? (eqb x for_steps) (bytes "cut,steps") (bytes "cut,branches")

-- outcome and value
unfoldable pub outcome_form : (pool ss : List ℕ) → (kind tag x : ℕ) → List ℕ
outcome_form pool ss kind tag x =
    if? (eqb kind as_returned) (bytes "returned," ++ field_form pool ss tag x)
    (if? (eqb kind as_failed) (bytes "failed," ++ field_form pool ss tag x)
    (if? (eqb kind as_vanished) (bytes "vanished,") (if? (eqb kind as_error) (bytes "error," ++ decimal x) (cut_form x))))

unfoldable pub unless_form : ℕ → List ℕ
unless_form truth = if? (eqb truth 0) (bytes "not ") []

-- word m of a row
unfoldable pub row_word : List ℕ → (row m : ℕ) → ℕ
row_word table row m = word_at table (heading_length + row_length * row + 4 * m)

module _ (table pool ss : List ℕ) (row : ℕ) where
  unfoldable pub condition_form : ℕ → List ℕ
  condition_form i = unless_form (row_word table row (head_room + 1 + 2 * i)) ++ field_form pool ss boolean_term_tag (row_word table row (head_room + 2 * i))

  unfoldable pub further_form : ℕ → List ℕ
  further_form i = bytes "; " ++ condition_form i

  unfoldable pub conditions_form : ℕ → List ℕ
  conditions_form n = if? (eqb n 0) (bytes "true") (condition_form 0 ++ runs further_form 1 (n - 1))
