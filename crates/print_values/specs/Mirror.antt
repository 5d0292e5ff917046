-- What each function of this crate writes, on any bytes of a pool at all: constants, terms and values as texts. crates/print_laws shows that
-- for a pool's bytes this is document 01's printed form. Assumes nothing.
use Rattle.std.specs.Prelude.{ℕ, zero, suc, ◌+◌, ◌*◌, List, [], ◌∷◌, ◌++◌, ltb, eqb}
use Rattle.gil.specs.Numbers.{term_length, number_tag, boolean_tag, number_term_tag, input_kind, not_kind, plus_kind, minus_kind, equal_kind, less_kind, and_kind}
use Rattle.gil.specs.Text.{bytes}
use Rattle.gil.specs.Printed.{decimal}
use Rattle.lent_words.specs.Mirror.{word_at}
use Rattle.machine_code.specs.Mirror.{if?}

-- an input, and a location
abbrev pub input_form : ℕ → List ℕ
input_form k = 35 ∷ decimal k

abbrev pub location_form : ℕ → List ℕ
location_form k = 36 ∷ decimal k

unfoldable pub truth_form : ℕ → List ℕ
truth_form x = if? (eqb x 0) (bytes "false") (bytes "true")

-- a constant, by its tag and its word
unfoldable pub constant_form : (tag x : ℕ) → List ℕ
constant_form tag x = if? (eqb tag number_tag) (decimal x) (if? (eqb tag boolean_tag) (truth_form x) (location_form x))

unfoldable pub op_form : ℕ → List ℕ
op_form kind =
    if? (eqb kind plus_kind) (bytes " + ")
    (if? (eqb kind minus_kind) (bytes " - ")
    (if? (eqb kind equal_kind) (bytes " = ")
    (if? (eqb kind less_kind) (bytes " < ") (if? (eqb kind and_kind) (bytes " and ") (bytes " or ")))))

-- A term's text, where `f` gives the text of an operand
unfoldable pub node_form : (ℕ → ℕ → List ℕ) → (kind t x u y : ℕ) → List ℕ
node_form f kind t x u y =
    if? (eqb kind input_kind) (input_form x)
    (if? (eqb kind not_kind) (bytes "not " ++ f t x) (40 ∷ (f t x ++ op_form kind ++ f u y ++ (41 ∷ []))))

unfoldable pub term_form : (ℕ → ℕ → List ℕ) → List ℕ → ℕ → List ℕ
term_form f pool k =
    node_form f (word_at pool (term_length * k)) (word_at pool (term_length * k + 4)) (word_at pool (term_length * k + 8)) (word_at pool (term_length * k + 12))
    (word_at pool (term_length * k + 16))

-- a value's text, with operators at most `d` deep
unfoldable pub value_form : List ℕ → ℕ → (tag x : ℕ) → List ℕ
value_form pool zero tag x = if? (ltb tag number_term_tag) (constant_form tag x) []
value_form pool (suc d) tag x = if? (ltb tag number_term_tag) (constant_form tag x) (term_form (value_form pool d) pool x)
