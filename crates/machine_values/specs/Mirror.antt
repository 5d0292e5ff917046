-- The words of values, a tag × 2^32 + a word, and the operators on them, as the code has them: what each function of this crate answers.
-- Assumes nothing.
use Rattle.std.specs.Prelude.{ℕ, ◌+◌, ◌-◌, ◌/◌, ◌%◌, Bool, true, false, ◌==◌, nat_lt}
use Rattle.gil.specs.Numbers.{number_tag, boolean_tag, location_tag}
use Rattle.machine_code.specs.Code.{plus_node, minus_node, equal_node, less_node, and_node}
use Rattle.machine_values.specs.declared.Fit.{Fit}
use Rattle.machine_values.specs.declared.Fit.TheVariants.{Right, Wrong, Unlike}
pub use Rattle.machine_code.specs.Mirror.{if?}

unfoldable pub truth_word : Bool → ℕ
truth_word true = 8589934593
truth_word false = 8589934592

unfoldable pub sort_word : ℕ → ℕ
sort_word v = if? (nat_lt location_tag (v / 4294967296)) (v / 4294967296 - location_tag) (v / 4294967296)

unfoldable pub needed_word : ℕ → ℕ
needed_word kind = if? (nat_lt kind and_node) number_tag boolean_tag

unfoldable pub fit_in : ℕ → ℕ → ℕ → Fit
fit_in kind s t =
    if? (kind == equal_node) (if? (s == t) Right Unlike)
    (if? (s == needed_word kind) (if? (t == needed_word kind) Right Wrong) Wrong)

unfoldable pub both_word : ℕ → ℕ → ℕ
both_word x y = if? (x == 0) 8589934592 (8589934592 + y)

unfoldable pub either_word : ℕ → ℕ → ℕ
either_word x y = if? (x == 0) (8589934592 + y) 8589934593

unfoldable pub work_word : ℕ → ℕ → ℕ → ℕ
work_word kind x y =
    if? (kind == plus_node) (4294967296 + (x + y) % 4294967296)
    (if? (kind == minus_node) (4294967296 + (x + 4294967296 - y) % 4294967296)
    (if? (kind == equal_node) (truth_word (x == y))
    (if? (kind == less_node) (truth_word (nat_lt x y))
    (if? (kind == and_node) (both_word x y) (either_word x y)))))
