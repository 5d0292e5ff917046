-- How long the texts of an input, a constant and an operator may be, and the cases of a constant, a term and a value, which this crate's proofs
-- and others cite. Assumes nothing.
use Rattle.std.specs.Prelude.{ℕ, zero, suc, ◌+◌, ◌*◌, ◌-◌, ◌≤◌, ◌<◌, ◌≡◌, refl, Bool, true, false, List, [], ◌∷◌, ◌++◌, length, eqb}
use Rattle.std.proofs.Common.{arith, sub-one, ◌∙◌, ap, lt-ltb, le-ltb, ne_eqb}
use Rattle.gil.specs.Text.{bytes}
use Rattle.gil.specs.Numbers.{term_length, number_tag, boolean_tag, number_term_tag, input_kind, not_kind, plus_kind, minus_kind, equal_kind, less_kind, and_kind}
use Rattle.gil.specs.Printed.{decimal}
use Rattle.lent_words.specs.Mirror.{word_at}
use Rattle.machine_code.specs.Mirror.{if?}
use Rattle.print_writing.specs.Laws.{decimal-length}
use Rattle.print_values.specs.Mirror.{input_form, location_form, truth_form, constant_form, op_form, node_form, term_form, value_form}

either : (n : ℕ) (d : Bool) (s t : List ℕ) → length s ≤ n → length t ≤ n → length (if? d s t) ≤ n
either n true s t h i = h
either n false s t h i = i

pub input-length : (k : ℕ) → length (input_form k) ≤ 11
input-length k = omega (arith, decimal-length k)

truth-length : (x : ℕ) → length (truth_form x) ≤ 11
unfolding truth_form bytes
truth-length x = either 11 (eqb x 0) (bytes "false") (bytes "true") (omega arith) (omega arith)

pub constant_length : (tag x : ℕ) → length (constant_form tag x) ≤ 11
unfolding constant_form
constant_length tag x =
    let d : length (decimal x) ≤ 11 = omega (arith, decimal-length x) in
    let l : length (location_form x) ≤ 11 = omega (arith, decimal-length x) in
    either 11 (eqb tag number_tag) (decimal x) (if? (eqb tag boolean_tag) (truth_form x) (location_form x)) d
    (either 11 (eqb tag boolean_tag) (truth_form x) (location_form x) (truth-length x) l)

pub op_length : (kind : ℕ) → length (op_form kind) ≤ 5
unfolding op_form bytes
op_length kind =
    either 5 (eqb kind plus_kind) _ _ (omega arith)
    (either 5 (eqb kind minus_kind) _ _ (omega arith)
    (either 5 (eqb kind equal_kind) _ _ (omega arith)
    (either 5 (eqb kind less_kind) _ _ (omega arith)
    (either 5 (eqb kind and_kind) _ _ (omega arith) (omega arith)))))

-- a constant by its tag
pub constant_number : (tag x : ℕ) → tag ≡ number_tag → constant_form tag x ≡ decimal x
unfolding constant_form
constant_number tag x e = ap (λ (t : ℕ). constant_form t x) e

pub constant_truth : (tag x : ℕ) → tag ≡ boolean_tag → constant_form tag x ≡ truth_form x
unfolding constant_form
constant_truth tag x e = ap (λ (t : ℕ). constant_form t x) e

pub constant_location : (tag x : ℕ) → (tag ≡ number_tag → ⊥) → (tag ≡ boolean_tag → ⊥) → constant_form tag x ≡ location_form x
unfolding constant_form
constant_location tag x e f = simp (ne_eqb tag number_tag e, ne_eqb tag boolean_tag f, constant_form)

pub truth_false : (x : ℕ) → x ≡ 0 → truth_form x ≡ bytes "false"
unfolding truth_form
truth_false x e = ap truth_form e

pub truth_true : (x : ℕ) → (x ≡ 0 → ⊥) → truth_form x ≡ bytes "true"
unfolding truth_form
truth_true x e = simp (ne_eqb x 0 e, truth_form)

-- a term by its kind
module _ (f : ℕ → ℕ → List ℕ) (kind t x u y : ℕ) where
  pub node-input : kind ≡ input_kind → node_form f kind t x u y ≡ input_form x
  unfolding node_form
  node-input e = ap (λ (k : ℕ). node_form f k t x u y) e

  pub node_not : kind ≡ not_kind → node_form f kind t x u y ≡ bytes "not " ++ f t x
  unfolding node_form
  node_not e = ap (λ (k : ℕ). node_form f k t x u y) e

  pub node_op :
      (kind ≡ input_kind → ⊥) → (kind ≡ not_kind → ⊥) → node_form f kind t x u y ≡ 40 ∷ (f t x ++ op_form kind ++ f u y ++ (41 ∷ []))
  unfolding node_form
  node_op e g = simp (ne_eqb kind input_kind e, ne_eqb kind not_kind g, node_form)

-- a value: a constant, or a term where there is depth left
module _ (pool : List ℕ) where
  pub value_constant : (d tag x : ℕ) → tag < number_term_tag → value_form pool d tag x ≡ constant_form tag x
  unfolding value_form
  value_constant zero tag x h = simp (lt-ltb tag number_term_tag h, value_form)
  value_constant (suc d) tag x h = simp (lt-ltb tag number_term_tag h, value_form)

  pub value-past : (d tag x : ℕ) → number_term_tag ≤ tag → d ≡ 0 → value_form pool d tag x ≡ []
  unfolding value_form
  value-past d tag x h e = ap (λ (n : ℕ). value_form pool n tag x) e ∙ simp (le-ltb tag number_term_tag h, value_form)

  value-term : (d tag x : ℕ) → number_term_tag ≤ tag → (d ≡ 0 → ⊥) → value_form pool d tag x ≡ term_form (value_form pool (d - 1)) pool x
  unfolding value_form
  value-term zero tag x h e = absurd (e refl)
  value-term (suc d) tag x h e = simp (le-ltb tag number_term_tag h, value_form, sub-one)

  pub value-node :
      (d tag k : ℕ) {kind t x u y : ℕ} → number_term_tag ≤ tag → (d ≡ 0 → ⊥) → kind ≡ word_at pool (term_length * k) → t ≡ word_at pool (term_length * k + 4)
      → x ≡ word_at pool (term_length * k + 8) → u ≡ word_at pool (term_length * k + 12) → y ≡ word_at pool (term_length * k + 16)
      → value_form pool d tag k ≡ node_form (value_form pool (d - 1)) kind t x u y
  unfolding term_form
  value-node d tag k h e a b c f g = value-term d tag k h e ∙ simp (a, b, c, f, g)
