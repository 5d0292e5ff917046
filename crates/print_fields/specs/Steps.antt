-- The laws that the functions' own proofs cite: one more size, sizes by the kind that is shown, and a text's size from a pass over no memory.
-- Assumes nothing.
use Rattle.std.specs.Prelude.{ℕ, ◌+◌, ◌*◌, ◌≤◌, ◌<◌, ◌≡◌, refl, min, Bool, true, false, List, [], length, get_or, set, ltb}
use Rattle.std.proofs.Common.{arith, add-one, sym, ◌∙◌, ap, ne_eqb, ltb-true, ltb-false}
use Rattle.std.proofs.lemmas.List.{get_or_past, get_or_default}
use Rattle.gil.specs.Numbers.{most_terms, term_length, input_kind, not_kind}
use Rattle.lent_words.specs.Mirror.{word_at}
use Rattle.machine_code.specs.Mirror.{if?}
use Rattle.print_writing.specs.Mirror.{last_place, Wrote}
use Rattle.print_writing.specs.Laws.{measured}
use Rattle.print_values.specs.Kinds.{known_kind, Unread, known_same, unread_input, unread_not, op_unread}
use Rattle.print_fields.specs.Mirror.{longest, larger, size_at, value_size, node_size, capped, term_size, sizes_to}

-- sizes of terms, one after another
pub sizes-more : (pool ss₀ ss : List ℕ) (k s : ℕ) → ss ≡ sizes_to pool ss₀ k → s ≡ term_size pool ss k → set ss k s ≡ sizes_to pool ss₀ (k + 1)
unfolding sizes_to
sizes-more pool ss₀ ss k s e f =
    ap (set ss k) f ∙ ap (λ (l : List ℕ). set l k (term_size pool l k)) e ∙ ap (sizes_to pool ss₀) (sym (add-one k))

pub sizes-none : (pool ss : List ℕ) → ss ≡ sizes_to pool ss 0
unfolding sizes_to
sizes-none pool ss = refl

-- a size, or the one that stands for what is not there
pub size_got : (ss : List ℕ) (k : ℕ) → length ss ≡ most_terms → get_or ss k larger ≡ size_at ss k
unfolding size_at
size_got ss k full = by (ltb k most_terms) refl
  where
    by : (d : Bool) → ltb k most_terms ≡ d → get_or ss k larger ≡ if? d (get_or ss k 0) larger
    by true e = let h : k < most_terms = ltb-true k most_terms e in get_or_default ss k larger 0 (omega arith)
    by false e = let h : most_terms ≤ k = ltb-false k most_terms e in get_or_past ss k larger (omega arith)

pub size_known : (ss : List ℕ) (code t x u y : ℕ) → node_size ss (known_kind code) t x u y ≡ node_size ss code t x u y
unfolding node_size
size_known ss code t x u y =
    known_same (λ (k : ℕ). node_size ss k t x u y) code
    (λ (v : Unread code).
    simp (ne_eqb code input_kind (unread_input code v), ne_eqb code not_kind (unread_not code v))
    (ap (λ (l : List ℕ). 2 + value_size ss t x + length l + value_size ss u y) (op_unread code v)))

capped_as : (n : ℕ) → min n larger ≡ capped n
unfolding capped
capped_as n = by (ltb longest n) refl
  where
    by : (d : Bool) → ltb longest n ≡ d → min n larger ≡ if? d larger n
    by true e = omega (arith, ltb-true longest n e)
    by false e = omega (arith, ltb-false longest n e)

pub size-by :
    (pool ss : List ℕ) (k : ℕ) {kind t x u y n r : ℕ} → kind ≡ word_at pool (term_length * k) → t ≡ word_at pool (term_length * k + 4)
    → x ≡ word_at pool (term_length * k + 8) → u ≡ word_at pool (term_length * k + 12) → y ≡ word_at pool (term_length * k + 16) → n ≡ node_size ss kind t x u y
    → r ≡ capped n → r ≡ term_size pool ss k
unfolding term_size
size-by pool ss k e f g h i j l = l ∙ ap capped (j ∙ simp (e, f, g, h, i))

-- the same from the kind that is shown, and the least of a size and the one for larger ones
pub size_shown :
    (pool ss : List ℕ) (k : ℕ) {code kind t x u y n r : ℕ} → code ≡ word_at pool (term_length * k) → kind ≡ known_kind code → t ≡ word_at pool (term_length * k + 4)
    → x ≡ word_at pool (term_length * k + 8) → u ≡ word_at pool (term_length * k + 12) → y ≡ word_at pool (term_length * k + 16) → n ≡ node_size ss kind t x u y
    → r ≡ min n larger → r ≡ term_size pool ss k
size_shown pool ss k {code} {kind} {t} {x} {u} {y} {n} {r} e d f g h i j l =
    size-by pool ss k e f g h i (j ∙ ap (λ (c : ℕ). node_size ss c t x u y) d ∙ size_known ss code t x u y) (l ∙ capped_as n)

-- a text's size, from a pass over no memory
pub sized : {t b' : List ℕ} {r : ℕ} (n : ℕ) → n ≤ last_place → length t ≤ n → Wrote [] 0 t b' r → (r ≡ length t) × (r ≤ n)
sized {t} n h i w = let e = measured (omega arith) w in (e.0, omega (arith, e.0))
