-- What each function of this crate answers or writes, on any bytes of a pool at all: the sizes of texts, and a field. crates/print_laws shows
-- that for a pool's bytes this is document 01's printed form. Assumes nothing.
use Rattle.std.specs.Prelude.{ℕ, zero, suc, ◌+◌, ◌*◌, List, length, get_or, set, replicate, ltb, eqb}
use Rattle.gil.specs.Text.{bytes}
use Rattle.gil.specs.Numbers.{most_terms, term_length, number_term_tag, input_kind, not_kind}
use Rattle.lent_words.specs.Mirror.{word_at}
use Rattle.machine_code.specs.Mirror.{if?}
use Rattle.print_values.specs.Mirror.{input_form, constant_form, op_form, value_form}

-- the most bytes that a term's text may have, and the size that stands for every larger one
abbrev pub longest : ℕ
longest = 200

abbrev pub larger : ℕ
larger = 201

-- The size of a text in bytes; `ss` has those of the terms before
unfoldable pub size_at : List ℕ → ℕ → ℕ
size_at ss k = if? (ltb k most_terms) (get_or ss k 0) larger

unfoldable pub value_size : List ℕ → (tag x : ℕ) → ℕ
value_size ss tag x = if? (ltb tag number_term_tag) (length (constant_form tag x)) (size_at ss x)

unfoldable pub node_size : List ℕ → (kind t x u y : ℕ) → ℕ
node_size ss kind t x u y =
    if? (eqb kind input_kind) (length (input_form x))
    (if? (eqb kind not_kind) (4 + value_size ss t x) (2 + value_size ss t x + length (op_form kind) + value_size ss u y))

unfoldable pub capped : ℕ → ℕ
capped n = if? (ltb longest n) larger n

unfoldable pub term_size : (pool ss : List ℕ) → ℕ → ℕ
term_size pool ss k =
    capped
    (node_size ss (word_at pool (term_length * k)) (word_at pool (term_length * k + 4)) (word_at pool (term_length * k + 8)) (word_at pool (term_length * k + 12))
    (word_at pool (term_length * k + 16)))

-- before any size is taken
abbrev pub no_sizes : List ℕ
no_sizes = replicate most_terms larger

-- the sizes of the first k terms, over `ss`
unfoldable pub sizes_to : (pool ss : List ℕ) → ℕ → List ℕ
sizes_to pool ss zero = ss
sizes_to pool ss (suc k) = set (sizes_to pool ss k) k (term_size pool (sizes_to pool ss k) k)

unfoldable pub field_form : (pool ss : List ℕ) → (tag x : ℕ) → List ℕ
field_form pool ss tag x = if? (ltb longest (value_size ss tag x)) (bytes "large") (value_form pool longest tag x)
