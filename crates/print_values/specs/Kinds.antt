-- A kind's number as it is shown: one that is no kind is shown as `or`. Assumes nothing.
use Rattle.std.specs.Prelude.{ℕ, ◌≤◌, ◌<◌, ◌≡◌, ◌⊎◌, refl, Bool, true, false, List, ltb, Result, Ok, Err}
use Rattle.std.specs.Result.{result_unwrap_or}
use Rattle.std.proofs.Common.{arith, inl, inr, ◌∙◌, sym, ap, lt-ltb, le-ltb, ltb-true, ltb-false, ne_eqb}
use Rattle.gil.specs.Numbers.{input_kind, not_kind, plus_kind, minus_kind, equal_kind, less_kind, and_kind, or_kind}
use Rattle.gil.specs.Codes.{kind_number, IsKindOf}
use Rattle.gil.specs.declared.Unknown.{Unknown}
use Rattle.gil.specs.declared.kinds.TermKind.{TermKind}
use Rattle.gil.specs.declared.kinds.TermKind.TheVariants.{Input, Not, Plus, Minus, Equal, Less, And, Or}
use Rattle.machine_code.specs.Mirror.{if?}
use Rattle.print_values.specs.Mirror.{op_form, node_form}

unfoldable pub known_kind : ℕ → ℕ
known_kind code = if? (ltb code input_kind) or_kind (if? (ltb or_kind code) or_kind code)

is_known : (code : ℕ) → input_kind ≤ code → code ≤ or_kind → known_kind code ≡ code
unfolding known_kind
is_known code h g = simp (le-ltb code input_kind h, le-ltb or_kind code g)

is_unknown : (code : ℕ) → (code ≡ 0) ⊎ (or_kind < code) → known_kind code ≡ or_kind
unfolding known_kind
is_unknown code (inl e) = let h : code < input_kind = omega arith in simp (lt-ltb code input_kind h)
is_unknown code (inr h) = let g : input_kind ≤ code = omega arith in simp (le-ltb code input_kind g, lt-ltb or_kind code h)

kind_in : (k : TermKind) → (input_kind ≤ kind_number k) × (kind_number k ≤ or_kind)
kind_in Input = (omega arith, omega arith)
kind_in Not = (omega arith, omega arith)
kind_in Plus = (omega arith, omega arith)
kind_in Minus = (omega arith, omega arith)
kind_in Equal = (omega arith, omega arith)
kind_in Less = (omega arith, omega arith)
kind_in And = (omega arith, omega arith)
kind_in Or = (omega arith, omega arith)

pub kind_read : (code : ℕ) (r : Result TermKind Unknown) → IsKindOf code r → kind_number (result_unwrap_or r Or) ≡ known_kind code
kind_read code (Ok k) e = let h = kind_in k in e ∙ sym (is_known code (omega arith) (omega arith))
kind_read code (Err u) e = sym (is_unknown code e.1)

-- which two are told apart from operators
pub no_input : (k : TermKind) → (k ≡ Input → ⊥) → kind_number k ≡ input_kind → ⊥
no_input Input n e = n refl
no_input Not n e = omega arith
no_input Plus n e = omega arith
no_input Minus n e = omega arith
no_input Equal n e = omega arith
no_input Less n e = omega arith
no_input And n e = omega arith
no_input Or n e = omega arith

pub no_not : (k : TermKind) → (k ≡ Not → ⊥) → kind_number k ≡ not_kind → ⊥
no_not Input n e = omega arith
no_not Not n e = n refl
no_not Plus n e = omega arith
no_not Minus n e = omega arith
no_not Equal n e = omega arith
no_not Less n e = omega arith
no_not And n e = omega arith
no_not Or n e = omega arith

-- a number in or out of the kinds
abbrev pub Unread : ℕ → Type 0
Unread code = (code ≡ 0) ⊎ (or_kind < code)

either_way : (code : ℕ) → ((input_kind ≤ code) × (code ≤ or_kind)) ⊎ Unread code
either_way code = by (ltb code input_kind) (ltb or_kind code) refl refl
  where
    by : (d e : Bool) → ltb code input_kind ≡ d → ltb or_kind code ≡ e → ((input_kind ≤ code) × (code ≤ or_kind)) ⊎ Unread code
    by true e p q = inr (inl (omega (arith, ltb-true code input_kind p)))
    by false true p q = inr (inr (ltb-true or_kind code q))
    by false false p q = inl (ltb-false code input_kind p, ltb-false or_kind code q)

-- what takes a number that is no kind as it takes `or` is the same of the kind that is shown
pub known_same : {A : Type 0} (f : ℕ → A) (code : ℕ) → (Unread code → f or_kind ≡ f code) → f (known_kind code) ≡ f code
known_same {A} f code unread = by (either_way code)
  where
    by : ((input_kind ≤ code) × (code ≤ or_kind)) ⊎ Unread code → f (known_kind code) ≡ f code
    by (inl h) = ap f (is_known code h.0 h.1)
    by (inr u) = ap f (is_unknown code u) ∙ unread u

pub unread_input : (code : ℕ) → Unread code → code ≡ input_kind → ⊥
unread_input code u e = omega arith

pub unread_not : (code : ℕ) → Unread code → code ≡ not_kind → ⊥
unread_not code u e = omega arith

pub op_unread : (code : ℕ) → Unread code → op_form or_kind ≡ op_form code
unfolding op_form
op_unread code u =
    let plus : code ≡ plus_kind → ⊥ = λ e. omega arith in
    let minus : code ≡ minus_kind → ⊥ = λ e. omega arith in
    let equal : code ≡ equal_kind → ⊥ = λ e. omega arith in
    let less : code ≡ less_kind → ⊥ = λ e. omega arith in
    let and : code ≡ and_kind → ⊥ = λ e. omega arith in
    simp (ne_eqb code plus_kind plus, ne_eqb code minus_kind minus, ne_eqb code equal_kind equal, ne_eqb code less_kind less, ne_eqb code and_kind and)

-- an operator's text, and a term's, from the kind that is shown
pub op_known : (code : ℕ) → op_form (known_kind code) ≡ op_form code
op_known code = known_same op_form code (op_unread code)

pub node_known : (f : ℕ → ℕ → List ℕ) (code t x u y : ℕ) → node_form f (known_kind code) t x u y ≡ node_form f code t x u y
unfolding node_form
node_known f code t x u y =
    known_same (λ (k : ℕ). node_form f k t x u y) code
    (λ (v : Unread code). simp (ne_eqb code input_kind (unread_input code v), ne_eqb code not_kind (unread_not code v), op_unread code v))
